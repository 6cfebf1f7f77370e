-- A covered range over linked pieces: parted off, and tagged piece by piece.
use Rattle.std.proofs.Common.{◌≡◌, ℕ, ◌+◌, ◌-◌, ◌<◌, ◌≤◌, Bool, true, false, not, ◌&&◌, ◌||◌, cond, List, [], ◌∷◌, length, map, refl, ap, sym, subst, true≢false, ◌∙◌, arith, Less, Equal, Greater}
use Rattle.std.specs.Prelude.{⊤, ◌==◌, nat_le, nat_lt, filter, Option, Some, None, is_some}
use Rattle.std.specs.List.{AllByRecursion, list_any}
use Rattle.std.specs.BTreeMap.{insert_entry, is_at}
use Rattle.std.specs.Map.{keys_of, lookup, remove_entry, values_of}
use Rattle.std.specs.Ordering.{is_lt, match_ordering, nat_cmp}
use Rattle.std.proofs.lemmas.Bool.{and_from, eqb-true, le-leb, leb-false, leb-true, lt-ltb, ltb-false, ltb-true}
use Rattle.std.proofs.lemmas.Bool.Decides.{nat_tests}
use Rattle.std.proofs.lemmas.Cmp.{ranked}
use Rattle.vocabulary.specs.declared.range.TheConstants.{MOST_PLACES}
use Rattle.seq.proofs.Booleans.{neither_second, same_false}
use Rattle.std.proofs.Math.Bool.{or-true}
use Rattle.std.specs.Cmp.{first_so, second_so}
use Rattle.std.proofs.lemmas.Map.Views.{All-values-insert_entry, any-filter_same}
use Rattle.std.proofs.lemmas.List.Elements.{recursion_from_All}
use Rattle.seq.proofs.Numbers.{is_lt-nat_cmp}
use Rattle.seq.proofs.Filtered.{any-filter}
use Rattle.desk_words.specs.Places.{Places, holds}
use Rattle.vocabulary.specs.Places.{is_range}
use Rattle.share_blocks.specs.Cuts.{ranges_between, rise_from}
use Rattle.share_blocks.specs.declared.linked.Node.{Node}
use Rattle.share_blocks.proofs.BlockCoverLemmas.{above_all, no_piece}
use Rattle.share_blocks.proofs.RangeLemmas.{follow_from-ranges_between, rises}
use Rattle.share_blocks.specs.LinkedPieces.{AreLinked, Mark, Newest, begun_between, is_among_first, last_before, linked_pieces, marks_of, newest_at, split_before, split_after, pieces_by, tagged_at, tagged_each, tags_by, tags_of_nodes}
use Rattle.share_blocks.specs.Pieces.{covered, cut_at, follow_from, ranges_of, tagged, tags_at}
use Rattle.share_blocks.proofs.BlockPartLemmas.{RiseFrom, cut_at-above, insert-again, insert_entry-map, keys-map, last_before-below, last_before-map, pieces_by-insert, pieces_by-tagged, piece, ranges_of-pieces_by, remove-insert, tagged_mark, tags_at-pieces_by}

-- ---- tags in front, place by place

-- no place is there twice
abbrev Apart : List ℕ → Type 0
Apart [] = ⊤
Apart (p ∷ ps) = (list_any (λ q. p == q) ps ≡ false) × Apart ps

none_below : (p first : ℕ) (ks : List ℕ) → RiseFrom first ks → p < first → list_any (λ q. p == q) ks ≡ false
none_below p first [] rise low = refl
none_below p first (k ∷ ks) rise low =
    ap (λ b. b || list_any (λ q. p == q) ks) (same_false p k (omega (arith, low, rise.0))) ∙ none_below p (k + 1) ks rise.2 (omega (arith, low, rise.0))

none_in : (p : ℕ) (test : ℕ → Bool) (ks : List ℕ) → list_any (λ q. p == q) ks ≡ false → list_any (λ q. p == q) (filter test ks) ≡ false
none_in p test [] none = refl
none_in p test (k ∷ ks) none =
    elim (test k) as (λ b. list_any (λ q. p == q) (cond b (k ∷ filter test ks) (filter test ks)) ≡ false) [
      | true ↦ both (p == k) (list_any (λ q. p == q) ks) (list_any (λ q. p == q) (filter test ks)) none (none_in p test ks)
      | false ↦ none_in p test ks (neither_second (p == k) (list_any (λ q. p == q) ks) none)
    ]
  where
    both : (a b c : Bool) → (a || b) ≡ false → (b ≡ false → c ≡ false) → (a || c) ≡ false
    both true b c h k = h
    both false b c h k = k h

none_past : (from to : ℕ) (ks : List ℕ) → list_any (λ q. from == q) (filter (λ q. nat_lt from q && nat_le q to) ks) ≡ false
none_past from to ks = any-filter (λ q. from == q) (λ q. nat_lt from q && nat_le q to) ks ∙ none_of ks
  where
    test : (from to q : ℕ) → ((nat_lt from q && nat_le q to) && (from == q)) ≡ false
    test from to q = grind (arith, nat_tests)

    none_of : (ks : List ℕ) → list_any (λ q. (nat_lt from q && nat_le q to) && (from == q)) ks ≡ false
    none_of [] = refl
    none_of (k ∷ ks) = ap (λ b. b || list_any (λ q. (nat_lt from q && nat_le q to) && (from == q)) ks) (test from to k) ∙ none_of ks

apart : (first : ℕ) (test : ℕ → Bool) (ks : List ℕ) → RiseFrom first ks → Apart (filter test ks)
apart first test [] rise = tt
apart first test (k ∷ ks) rise =
    elim (test k) as (λ b. Apart (cond b (k ∷ filter test ks) (filter test ks))) [
      | true ↦ (none_in k test ks (none_below k (k + 1) ks rise.2 (omega arith)), apart (k + 1) test ks rise.2)
      | false ↦ apart (k + 1) test ks rise.2
    ]

-- a mark, with the tag in front of its tags if it is at one of the places
abbrev tagged_among : ℕ → List ℕ → Mark → Mark
tagged_among tag places m = (m.0, cond (list_any (λ q. m.0 == q) places) (tag ∷ m.1) m.1)

same : (a : ℕ) → (a == a) ≡ true
same a = grind (arith, nat_tests)

-- what is alike at each mark is alike over all
map_on : (f g : Mark → Mark) (ms : List Mark) → ((k : ℕ) (tags : List ℕ) → list_any (λ q. k == q) (keys_of ms) ≡ true → f (k, tags) ≡ g (k, tags)) → map f ms ≡ map g ms
map_on f g [] alike = refl
map_on f g (m ∷ ms) alike =
    ap (λ y. y ∷ map f ms) (alike m.0 m.1 (ap (λ b. b || list_any (λ q. m.0 == q) (keys_of ms)) (same m.0)))
    ∙ ap (λ ys. g m ∷ ys) (map_on f g ms (λ k tags among. alike k tags (ap (λ b. (k == m.0) || b) among ∙ or-true (k == m.0))))

untouched : (tag : ℕ) (ms : List Mark) → ms ≡ map (tagged_among tag []) ms
untouched tag [] = refl
untouched tag (m ∷ ms) = ap (λ l. m ∷ l) (untouched tag ms)

one_more : (tag p : ℕ) (ps : List ℕ) → list_any (λ q. p == q) ps ≡ false → (ms : List Mark) → map (tagged_among tag ps) (map (tagged_at p tag) ms) ≡ map (tagged_among tag (p ∷ ps)) ms
one_more tag p ps none [] = refl
one_more tag p ps none (m ∷ ms) = ap (λ tags. (m.0, tags) ∷ map (tagged_among tag ps) (map (tagged_at p tag) ms)) (here m.0 m.1) ∙ ap (λ l. tagged_among tag (p ∷ ps) m ∷ l) (one_more tag p ps none ms)
  where
    here : (k : ℕ) (tags : List ℕ) → cond (list_any (λ q. k == q) ps) (tag ∷ cond (k == p) (tag ∷ tags) tags) (cond (k == p) (tag ∷ tags) tags) ≡ cond ((k == p) || list_any (λ q. k == q) ps) (tag ∷ tags) tags
    here k tags =
        (elim (k == p) as (λ b. (k == p) ≡ b → cond (list_any (λ q. k == q) ps) (tag ∷ cond b (tag ∷ tags) tags) (cond b (tag ∷ tags) tags) ≡ cond (b || list_any (λ q. k == q) ps) (tag ∷ tags) tags) [
          | true ↦ λ is. ap (λ b. cond b (tag ∷ tag ∷ tags) (tag ∷ tags)) (ap (λ n. list_any (λ q. n == q) ps) (eqb-true k p is) ∙ none)
          | false ↦ λ is. refl
        ]) refl

pub tagged_each-among : (tag : ℕ) (places : List ℕ) (ms : List Mark) → Apart places → tagged_each tag ms places ≡ map (tagged_among tag places) ms
tagged_each-among tag [] ms diff = untouched tag ms
tagged_each-among tag (p ∷ ps) ms diff = tagged_each-among tag ps (map (tagged_at p tag) ms) diff.1 ∙ one_more tag p ps diff.0 ms

-- ---- where pieces begin, once the range is parted off

any-insert : {X : Type 0} (es : List (ℕ × X)) (x : ℕ) (v : X) (k : ℕ) → list_any (λ q. k == q) (keys_of (insert_entry nat_cmp es x v)) ≡ ((k == x) || list_any (λ q. k == q) (keys_of es))
any-insert [] x v k = refl
any-insert (e ∷ es) x v k =
    (elim (nat_cmp x e.0) as (λ o. nat_cmp x e.0 ≡ o → list_any (λ q. k == q) (keys_of (match_ordering o ((x, v) ∷ e ∷ es) ((e.0, v) ∷ es) (e ∷ insert_entry nat_cmp es x v))) ≡ ((k == x) || ((k == e.0) || list_any (λ q. k == q) (keys_of es)))) [
      | Less ↦ λ is. refl
      | Equal ↦ λ is.
          once (k == e.0) (list_any (λ q. k == q) (keys_of es))
          ∙ ap (λ n. (k == n) || ((k == e.0) || list_any (λ q. k == q) (keys_of es))) (sym (ranked x e.0 Equal (sym is)))
      | Greater ↦ λ is. ap (λ b. (k == e.0) || b) (any-insert es x v k) ∙ swap (k == e.0) (k == x) (list_any (λ q. k == q) (keys_of es))
    ]) refl
  where
    once : (a b : Bool) → (a || b) ≡ (a || (a || b))
    once true b = refl
    once false b = refl

    swap : (a b c : Bool) → (a || (b || c)) ≡ (b || (a || c))
    swap true true c = refl
    swap true false c = refl
    swap false b c = refl

pub rise-insert : {X : Type 0} (first : ℕ) (es : List (ℕ × X)) (x : ℕ) (v : X) → RiseFrom first (keys_of es) → first ≤ x → x ≤ MOST_PLACES → RiseFrom first (keys_of (insert_entry nat_cmp es x v))
rise-insert first [] x v rise low high = (low, high, tt)
rise-insert first (e ∷ es) x v rise low high =
    (elim (nat_cmp x e.0) as (λ o. nat_cmp x e.0 ≡ o → RiseFrom first (keys_of (match_ordering o ((x, v) ∷ e ∷ es) ((e.0, v) ∷ es) (e ∷ insert_entry nat_cmp es x v)))) [
      | Less ↦ λ is. (let less : x < e.0 = ranked x e.0 Less (sym is) in (low, high, (omega (arith, less), rise.1, rise.2)))
      | Equal ↦ λ is. rise
      | Greater ↦ λ is. (let more : e.0 < x = ranked x e.0 Greater (sym is) in (rise.0, rise.1, rise-insert (e.0 + 1) es x v rise.2 (omega (arith, more)) high))
    ]) refl

-- pieces still begin at places in order
pub rise-parted : (x : ℕ) (es : Newest) → RiseFrom 1 (keys_of es) → 1 ≤ x → x ≤ MOST_PLACES → RiseFrom 1 (keys_of (split_before x es))
rise-parted x es rise low high = rise-insert 1 es x (newest_at es x) rise low high

pub rise-parted_behind : (x : ℕ) (es : Newest) → RiseFrom 1 (keys_of es) → RiseFrom 1 (keys_of (split_after x es))
rise-parted_behind x es rise =
    (elim (nat_lt x MOST_PLACES) as (λ b. nat_lt x MOST_PLACES ≡ b → RiseFrom 1 (keys_of (cond b (split_before (x + 1) es) es))) [
      | true ↦ λ less. (let below = ltb-true x MOST_PLACES less in rise-parted (x + 1) es rise (omega arith) (omega (arith, below)))
      | false ↦ λ _. rise
    ]) refl

-- a piece begins where the range does, right behind it, or where one did
begins : (range : Places) (es : Newest) (k : ℕ) → list_any (λ q. k == q) (keys_of (split_after range.to (split_before range.from es))) ≡ true
    → ((k == range.from) || ((k == range.to + 1) || list_any (λ q. k == q) (keys_of es))) ≡ true
begins range es k =
    elim (nat_lt range.to MOST_PLACES) as (λ b. list_any (λ q. k == q) (keys_of (cond b (split_before (range.to + 1) (split_before range.from es)) (split_before range.from es))) ≡ true
    → ((k == range.from) || ((k == range.to + 1) || list_any (λ q. k == q) (keys_of es))) ≡ true) [
      | true ↦ λ h.
          swap (k == range.from) (k == range.to + 1) (list_any (λ q. k == q) (keys_of es))
          ∙ ap (λ b. (k == range.to + 1) || b) (sym (any-insert es range.from (newest_at es range.from) k))
          ∙ sym (any-insert (split_before range.from es) (range.to + 1) (newest_at (split_before range.from es) (range.to + 1)) k) ∙ h
      | false ↦ λ h. more (k == range.from) (k == range.to + 1) (list_any (λ q. k == q) (keys_of es)) (sym (any-insert es range.from (newest_at es range.from) k) ∙ h)
    ]
  where
    swap : (a b c : Bool) → (a || (b || c)) ≡ (b || (a || c))
    swap true true c = refl
    swap true false c = refl
    swap false b c = refl

    more : (a b c : Bool) → (a || c) ≡ true → (a || (b || c)) ≡ true
    more true b c h = refl
    more false true c h = refl
    more false false c h = h

-- one begins where the range does
begins_there : (range : Places) (es : Newest) → list_any (λ q. range.from == q) (keys_of (split_after range.to (split_before range.from es))) ≡ true
begins_there range es =
    let here : list_any (λ q. range.from == q) (keys_of (split_before range.from es)) ≡ true =
    any-insert es range.from (newest_at es range.from) range.from ∙ ap (λ b. b || list_any (λ q. range.from == q) (keys_of es)) (same range.from) in
    elim (nat_lt range.to MOST_PLACES) as (λ b. list_any (λ q. range.from == q) (keys_of (cond b (split_before (range.to + 1) (split_before range.from es)) (split_before range.from es))) ≡ true) [
      | true ↦ any-insert (split_before range.from es) (range.to + 1) (newest_at (split_before range.from es) (range.to + 1)) range.from ∙ ap (λ b. (range.from == range.to + 1) || b) here ∙ or-true (range.from == range.to + 1)
      | false ↦ here
    ]

-- where pieces begin within a range and past its first place
abbrev pub begins_past : Places → Newest → List ℕ
begins_past range es = filter (λ q. nat_lt range.from q && nat_le q range.to) (keys_of es)

-- those within the range are the ones where it begins, or past that and not past its end
within : (range : Places) (es : Newest) (k : ℕ) → range.from ≤ range.to → list_any (λ q. k == q) (keys_of (split_after range.to (split_before range.from es))) ≡ true
    → list_any (λ q. k == q) (range.from ∷ begins_past range es) ≡ holds range k
within range es k order among =
    ap (λ b. (k == range.from) || b)
    (any-filter_same (λ q. k == q) (λ q. nat_lt range.from q && nat_le q range.to) (nat_lt range.from k && nat_le k range.to) (λ q is. ap (λ n. nat_lt range.from n && nat_le n range.to) (sym (eqb-true k q is))) (keys_of es))
    ∙ tests range.from range.to k (list_any (λ q. k == q) (keys_of es)) order (begins range es k among)
  where
    tests : (from to k : ℕ) (old : Bool) → from ≤ to → ((k == from) || ((k == to + 1) || old)) ≡ true → ((k == from) || ((nat_lt from k && nat_le k to) && old)) ≡ (nat_le from k && nat_le k to)
    tests from to k true order h = grind (arith, nat_tests)
    tests from to k false order h = grind (arith, nat_tests)

-- ---- the whole

keys-tagged : (range : Places) (tag : ℕ) (ms : List Mark) → keys_of (map (tagged_mark range tag) ms) ≡ keys_of ms
keys-tagged range tag [] = refl
keys-tagged range tag (m ∷ ms) = ap (λ l. m.0 ∷ l) (keys-tagged range tag ms)

-- where a piece begins at the first place, no place comes before the first mark
begun : (tags others : List ℕ) (ms : List Mark) → RiseFrom 1 (keys_of ms) → list_any (λ q. 1 == q) (keys_of ms) ≡ true → pieces_by 1 tags ms ≡ pieces_by 1 others ms
begun tags others [] rise there = absurd (cc)
begun tags others (m ∷ ms) rise there =
    (elim (nat_lt 1 m.0) as (λ b. nat_lt 1 m.0 ≡ b → cond b (piece 1 (m.0 - 1) tags ∷ pieces_by m.0 m.1 ms) (pieces_by m.0 m.1 ms) ≡ cond b (piece 1 (m.0 - 1) others ∷ pieces_by m.0 m.1 ms) (pieces_by m.0 m.1 ms)) [
      | true ↦ λ less.
          let past = ltb-true 1 m.0 less in
          absurd (true≢false (sym there ∙ ap (λ b. b || list_any (λ q. 1 == q) (keys_of ms)) (same_false 1 m.0 past) ∙ none_below 1 (m.0 + 1) (keys_of ms) rise.2 (omega arith)))
      | false ↦ λ _. refl
    ]) refl

module _ (f : Option ℕ → List ℕ) (nothing : f None ≡ []) where
  -- the marks, by what nodes stand for
  abbrev pub marks : Newest → List Mark
  marks es = map (λ (e : ℕ × Option ℕ). (e.0, f e.1)) es

  marks-parted : (x : ℕ) (es : Newest) → marks (split_before x es) ≡ insert_entry nat_cmp (marks es) x (last_before [] (marks es) x)
  marks-parted x es =
      insert_entry-map f es x (newest_at es x)
      ∙ ap (insert_entry nat_cmp (marks es) x) (sym (last_before-map f None es x) ∙ ap (λ tags. last_before tags (marks es) x) nothing)

  rise-marks : (es : Newest) → RiseFrom 1 (keys_of es) → RiseFrom 1 (keys_of (marks es))
  rise-marks es rise = subst (RiseFrom 1) (sym (keys-map f es)) rise

  pieces-parted : (x : ℕ) (es : Newest) → RiseFrom 1 (keys_of es) → 1 ≤ x → x ≤ MOST_PLACES → pieces_by 1 [] (marks (split_before x es)) ≡ cut_at x (pieces_by 1 [] (marks es))
  pieces-parted x es rise low high = ap (pieces_by 1 []) (marks-parted x es) ∙ pieces_by-insert x 1 [] (marks es) (rise-marks es rise) low high

  pieces-parted_behind : (x : ℕ) (es : Newest) → RiseFrom 1 (keys_of es) → x ≤ MOST_PLACES → pieces_by 1 [] (marks (split_after x es)) ≡ cut_at (x + 1) (pieces_by 1 [] (marks es))
  pieces-parted_behind x es rise high =
      (elim (nat_lt x MOST_PLACES) as (λ b. nat_lt x MOST_PLACES ≡ b → pieces_by 1 [] (marks (cond b (split_before (x + 1) es) es)) ≡ cut_at (x + 1) (pieces_by 1 [] (marks es))) [
        | true ↦ λ less. pieces-parted (x + 1) es rise (omega arith) (omega (arith, ltb-true x MOST_PLACES less))
        | false ↦ λ less. sym (cut_at-above (x + 1) 1 [] (marks es) (rise-marks es rise) (omega (arith, ltb-false x MOST_PLACES less)))
      ]) refl

  module _ (range : Places) (tag : ℕ) (es : Newest) (rise : RiseFrom 1 (keys_of es)) (low : 1 ≤ range.from) (order : range.from ≤ range.to) (high : range.to ≤ MOST_PLACES) where
    -- the range is parted off
    abbrev pub cut : Newest
    cut = split_after range.to (split_before range.from es)

    rise_once : RiseFrom 1 (keys_of (split_before range.from es))
    rise_once = rise-parted range.from es rise low (omega (arith, order, high))

    rise_cut : RiseFrom 1 (keys_of cut)
    rise_cut = rise-parted_behind range.to (split_before range.from es) rise_once

    tagged_cut : tagged_each tag (marks cut) (range.from ∷ begins_past range es) ≡ map (tagged_mark range tag) (marks cut)
    tagged_cut =
        tagged_each-among tag (range.from ∷ begins_past range es) (marks cut) (none_past range.from range.to (keys_of es), apart 1 (λ q. nat_lt range.from q && nat_le q range.to) (keys_of es) rise)
        ∙ map_on (tagged_among tag (range.from ∷ begins_past range es)) (tagged_mark range tag) (marks cut)
        (λ k tags among. ap (λ b. (k, cond b (tag ∷ tags) tags)) (within range es k order (ap (list_any (λ q. k == q)) (sym (keys-map f cut)) ∙ among)))

    first_tags : pieces_by 1 [] (map (tagged_mark range tag) (marks cut)) ≡ pieces_by 1 (cond (holds range 1) (tag ∷ []) []) (map (tagged_mark range tag) (marks cut))
    first_tags =
        (elim (holds range 1) as (λ b. holds range 1 ≡ b → pieces_by 1 [] (map (tagged_mark range tag) (marks cut)) ≡ pieces_by 1 (cond b (tag ∷ []) []) (map (tagged_mark range tag) (marks cut))) [
          | true ↦ λ is.
              let one : range.from ≡ 1 = omega (arith, low, leb-true range.from 1 (first_so (nat_le range.from 1) (nat_le 1 range.to) is)) in
              let keys : keys_of (map (tagged_mark range tag) (marks cut)) ≡ keys_of cut = keys-tagged range tag (marks cut) ∙ keys-map f cut in
              begun [] (tag ∷ []) (map (tagged_mark range tag) (marks cut)) (subst (RiseFrom 1) (sym keys) rise_cut)
              (ap (list_any (λ q. 1 == q)) keys ∙ ap (λ n. list_any (λ q. n == q) (keys_of cut)) (sym one) ∙ begins_there range es)
          | false ↦ λ _. refl
        ]) refl

    -- parted off and tagged, the pieces are those of the covered range
    pub pieces-covered : pieces_by 1 [] (tagged_each tag (marks cut) (range.from ∷ begins_past range es)) ≡ covered range tag (pieces_by 1 [] (marks es))
    pieces-covered =
        ap (pieces_by 1 []) tagged_cut
        ∙ first_tags
        ∙ pieces_by-tagged range tag 1 [] (marks cut)
        ∙ ap (map (tagged range tag)) (pieces-parted_behind range.to (split_before range.from es) rise_once high ∙ ap (cut_at (range.to + 1)) (pieces-parted range.from es rise low (omega (arith, order, high))))

-- ---- what is between two places

pub keys-between : (from to : ℕ) (es : Newest) → keys_of (begun_between from to es) ≡ filter (λ q. nat_lt from q && nat_le q to) (keys_of es)
keys-between from to [] = refl
keys-between from to (e ∷ es) =
    ap (λ b. keys_of (cond b (e ∷ begun_between from to es) (begun_between from to es))) (test e.0)
    ∙ elim (nat_lt from e.0 && nat_le e.0 to) as (λ b. keys_of (cond b (e ∷ begun_between from to es) (begun_between from to es)) ≡ cond b (e.0 ∷ filter (λ q. nat_lt from q && nat_le q to) (keys_of es)) (filter (λ q. nat_lt from q && nat_le q to) (keys_of es))) [
      | true ↦ ap (λ l. e.0 ∷ l) (keys-between from to es)
      | false ↦ keys-between from to es
    ]
  where
    flip : (q : ℕ) → (nat_lt from q && not (nat_lt to q)) ≡ (nat_lt from q && nat_le q to)
    flip q = grind (arith, nat_tests)

    test : (q : ℕ) → (is_lt (nat_cmp from q) && not (is_lt (nat_cmp to q))) ≡ (nat_lt from q && nat_le q to)
    test q = ap (λ b. b && not (is_lt (nat_cmp to q))) (is_lt-nat_cmp from q) ∙ ap (λ b. nat_lt from q && not b) (is_lt-nat_cmp to q) ∙ flip q

-- ---- what linked pieces keep

pub rise_of : (first : ℕ) (ks : List ℕ) → rise_from first ks ≡ true → RiseFrom (first + 1) ks
rise_of first [] up = tt
rise_of first (k ∷ ks) up = let r = rises first k ks up in (omega (arith, r.after), r.place, rise_of k ks r.rest)

pub rise_back : (first : ℕ) (ks : List ℕ) → RiseFrom (first + 1) ks → rise_from first ks ≡ true
rise_back first [] rise = refl
rise_back first (k ∷ ks) rise =
    and_from (nat_lt first k && nat_le k MOST_PLACES) (rise_from k ks)
    (and_from (nat_lt first k) (nat_le k MOST_PLACES) (lt-ltb first k (omega (arith, rise.0))) (le-leb k MOST_PLACES rise.1))
    (rise_back k ks rise.2)

last_among : (P : Option ℕ → Type 0) (before : Option ℕ) (es : Newest) (x : ℕ) → P before → AllByRecursion P (values_of es) → P (last_before before es x)
last_among P before [] x own all = own
last_among P before (e ∷ es) x own all =
    elim (nat_le e.0 x) as (λ b. P (last_before (cond b e.1 before) es x)) [ true ↦ last_among P e.1 es x all.0 all.1 | false ↦ last_among P before es x own all.1 ]

-- the newest node of a place is one of the nodes
pub newest-among : (es : Newest) (nodes : List Node) (x : ℕ) → AreLinked es nodes → is_among_first (length nodes) (newest_at es x) ≡ true
newest-among es nodes x linked = last_among (λ node. is_among_first (length nodes) node ≡ true) None es x refl (recursion_from_All _ (values_of es) linked.1)

linked-parted : (es : Newest) (nodes : List Node) (x : ℕ) → AreLinked es nodes → 1 ≤ x → x ≤ MOST_PLACES → AreLinked (split_before x es) nodes
linked-parted es nodes x linked low high = (
  rise_back 0 (keys_of (split_before x es)) (rise-parted x es (rise_of 0 (keys_of es) linked.0) low high),
  All-values-insert_entry nat_cmp x (newest_at es x) (λ node. is_among_first (length nodes) node ≡ true) es linked.1 (newest-among es nodes x linked),
  linked.2,
)

linked-parted_behind : (es : Newest) (nodes : List Node) (x : ℕ) → AreLinked es nodes → AreLinked (split_after x es) nodes
linked-parted_behind es nodes x linked =
    (elim (nat_lt x MOST_PLACES) as (λ b. nat_lt x MOST_PLACES ≡ b → AreLinked (cond b (split_before (x + 1) es) es) nodes) [
      | true ↦ λ less. (let below = ltb-true x MOST_PLACES less in linked-parted es nodes (x + 1) linked (omega arith) (omega (arith, below)))
      | false ↦ λ _. linked
    ]) refl

pub record RangeFacts (from to : ℕ) : Type 0 where
  pub low : 1 ≤ from
  pub order : from ≤ to
  pub high : to ≤ MOST_PLACES

pub range_facts : (from to : ℕ) → is_range from to ≡ true → RangeFacts from to
range_facts from to is =
    let front = first_so (nat_le 1 from && nat_le from to) (nat_le to MOST_PLACES) is in
    record {
      low = leb-true 1 from (first_so (nat_le 1 from) (nat_le from to) front);
      order = leb-true from to (second_so (nat_le 1 from) (nat_le from to) front);
      high = leb-true to MOST_PLACES (second_so (nat_le 1 from && nat_le from to) (nat_le to MOST_PLACES) is);
    }

pub linked-parted_off : (es : Newest) (nodes : List Node) (range : Places) → AreLinked es nodes → is_range range.from range.to ≡ true → AreLinked (split_after range.to (split_before range.from es)) nodes
linked-parted_off es nodes range linked is =
    let r = range_facts range.from range.to is in
    linked-parted_behind (split_before range.from es) nodes range.to (linked-parted es nodes range.from linked r.low (omega (arith, r.order, r.high)))

-- ---- what is undone

pub remove-parted : (es : Newest) (x : ℕ) → is_some (lookup (is_at (nat_cmp x)) es) ≡ false → remove_entry (is_at (nat_cmp x)) (split_before x es) ≡ es
remove-parted es x none = remove-insert es x (newest_at es x) (none_of (lookup (is_at (nat_cmp x)) es) none)
  where
    none_of : (o : Option (Option ℕ)) → is_some o ≡ false → o ≡ None
    none_of None h = refl
    none_of (Some v) h = absurd (cc)

pub parted-again : (es : Newest) (x : ℕ) → rise_from 0 (keys_of es) ≡ true → is_some (lookup (is_at (nat_cmp x)) es) ≡ true → split_before x es ≡ es
parted-again es x up some = insert-again None es x 1 (rise_of 0 (keys_of es) up) (λ none. true≢false (sym some ∙ ap is_some none))

-- ---- the ranges of linked pieces

all_past : (first : ℕ) (ks : List ℕ) → RiseFrom first ks → 1 < first → filter (λ q. nat_lt 1 q && nat_le q MOST_PLACES) ks ≡ ks
all_past first [] rise low = refl
all_past first (k ∷ ks) rise low =
    ap (λ b. cond b (k ∷ filter (λ q. nat_lt 1 q && nat_le q MOST_PLACES) ks) (filter (λ q. nat_lt 1 q && nat_le q MOST_PLACES) ks))
    (and_from (nat_lt 1 k) (nat_le k MOST_PLACES) (lt-ltb 1 k (omega (arith, low, rise.0))) (le-leb k MOST_PLACES rise.1))
    ∙ ap (λ l. k ∷ l) (all_past (k + 1) ks rise.2 (omega (arith, low, rise.0)))

record Parted (ms : List Mark) (ks : List ℕ) : Type 0 where
  ranges : ranges_of (pieces_by 1 [] ms) ≡ ranges_between 1 ks
  rising : RiseFrom 2 ks

parted_of : (ms : List Mark) → RiseFrom 1 (keys_of ms) → Parted ms (filter (λ q. nat_lt 1 q && nat_le q MOST_PLACES) (keys_of ms))
parted_of [] rise = record { ranges = refl; rising = tt }
parted_of (m ∷ ms) rise =
    (elim (nat_lt 1 m.0) as (λ b. nat_lt 1 m.0 ≡ b → Parted (m ∷ ms) (filter (λ q. nat_lt 1 q && nat_le q MOST_PLACES) (keys_of (m ∷ ms)))) [
      | true ↦ λ is.
          let above : RiseFrom 2 (keys_of (m ∷ ms)) = (omega (arith, ltb-true 1 m.0 is), rise.1, rise.2) in
          let all = all_past 2 (keys_of (m ∷ ms)) above (omega arith) in
          subst (Parted (m ∷ ms)) (sym all) (record { ranges = ranges_of-pieces_by 1 [] (m ∷ ms) above; rising = above })
      | false ↦ λ is.
          let one : m.0 ≡ 1 = omega (arith, rise.0, ltb-false 1 m.0 is) in
          let above : RiseFrom 2 (keys_of ms) = subst (λ n. RiseFrom (n + 1) (keys_of ms)) one rise.2 in
          let all = all_past 2 (keys_of ms) above (omega arith) in
          let rest : filter (λ q. nat_lt 1 q && nat_le q MOST_PLACES) (keys_of (m ∷ ms)) ≡ keys_of ms =
          ap (λ b. cond (b && nat_le m.0 MOST_PLACES) (m.0 ∷ filter (λ q. nat_lt 1 q && nat_le q MOST_PLACES) (keys_of ms)) (filter (λ q. nat_lt 1 q && nat_le q MOST_PLACES) (keys_of ms))) is ∙ all in
          subst (Parted (m ∷ ms)) (sym rest)
          (record {
            ranges =
                ap (λ b. ranges_of (cond b (piece 1 (m.0 - 1) [] ∷ pieces_by m.0 m.1 ms) (pieces_by m.0 m.1 ms))) is
                ∙ ap (λ n. ranges_of (pieces_by n m.1 ms)) one
                ∙ ranges_of-pieces_by 1 m.1 ms above;
            rising = above;
          })
    ]) refl

-- the cuts are where pieces begin past the first place
abbrev pub cuts_in : Newest → List ℕ
cuts_in es = keys_of (begun_between 1 MOST_PLACES es)

module _ (es : Newest) (nodes : List Node) (linked : AreLinked es nodes) where
  parts : Parted (marks_of es nodes) (cuts_in es)
  parts =
      let keys = keys-map (tags_by (tags_of_nodes nodes)) es in
      subst (Parted (marks_of es nodes)) (ap (filter (λ q. nat_lt 1 q && nat_le q MOST_PLACES)) keys ∙ sym (keys-between 1 MOST_PLACES es))
      (parted_of (marks_of es nodes) (subst (RiseFrom 1) (sym keys) (rise_of 0 (keys_of es) linked.0)))

  pub ranges-linked : ranges_between 1 (cuts_in es) ≡ ranges_of (linked_pieces es nodes)
  ranges-linked = sym parts.ranges

  pub rise-linked : rise_from 1 (cuts_in es) ≡ true
  rise-linked = rise_back 1 (cuts_in es) parts.rising

  pub follow_from-linked : follow_from 1 (ranges_of (linked_pieces es nodes)) ≡ true
  follow_from-linked = ap (follow_from 1) parts.ranges ∙ follow_from-ranges_between 1 (cuts_in es) rise-linked (omega arith)

  -- a place has the tags of its newest node
  pub tags_at-linked : (place : ℕ) → place ≤ MOST_PLACES → tags_at (linked_pieces es nodes) place ≡ tags_by (tags_of_nodes nodes) (newest_at es place)
  tags_at-linked place high =
      let keys = keys-map (tags_by (tags_of_nodes nodes)) es in
      let rise = rise_of 0 (keys_of es) linked.0 in
      (elim (nat_le 1 place) as (λ b. nat_le 1 place ≡ b → tags_at (linked_pieces es nodes) place ≡ tags_by (tags_of_nodes nodes) (newest_at es place)) [
        | true ↦ λ is.
            tags_at-pieces_by 1 [] (marks_of es nodes) place (subst (RiseFrom 1) (sym keys) rise) (leb-true 1 place is) high
            ∙ last_before-map (tags_by (tags_of_nodes nodes)) None es place
        | false ↦ λ is.
            let low = leb-false 1 place is in
            no_piece 1 (linked_pieces es nodes) place follow_from-linked low
            ∙ ap (tags_by (tags_of_nodes nodes)) (sym (last_before-below None es place 1 rise low))
      ]) refl

  pub tags_at-past : (place : ℕ) → MOST_PLACES < place → tags_at (linked_pieces es nodes) place ≡ []
  tags_at-past place high = above_all 1 (linked_pieces es nodes) place follow_from-linked high
