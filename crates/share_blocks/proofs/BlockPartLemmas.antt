-- Pieces by where they begin: what parts them, and what tags do.
use Rattle.std.proofs.Common.{◌≡◌, ℕ, ◌+◌, ◌-◌, ◌<◌, ◌≤◌, true, false, not, ◌&&◌, cond, List, [], ◌∷◌, ◌++◌, map, refl, ap, sym, ◌∙◌, arith, Less, Equal, Greater}
use Rattle.std.specs.Prelude.{⊤, ◌==◌, nat_le, nat_lt, filter, Some, None}
use Rattle.std.specs.BTreeMap.{insert_entry, is_at}
use Rattle.std.specs.BTreeMap.Range.{entries_between, range_contains}
use Rattle.std.specs.declared.ops.Bound.TheVariants.{Included, Unbounded}
use Rattle.std.proofs.lemmas.List.Elements.{filter_agree}
use Rattle.std.specs.Map.{keys_of, lookup, remove_entry}
use Rattle.std.specs.Ordering.{is_eq, is_lt, match_ordering, nat_cmp}
use Rattle.std.proofs.lemmas.Bool.{le-leb, le-ltb, leb-false, leb-true, lt-leb, lt-ltb, ltb-false, ltb-true}
use Rattle.std.proofs.lemmas.Bool.Decides.{nat_tests}
use Rattle.std.proofs.lemmas.Cmp.{ranked}
use Rattle.std.proofs.Math.Bool.{and-false}
use Rattle.vocabulary.specs.declared.range.TheConstants.{MOST_PLACES}
use Rattle.seq.proofs.Booleans.{same_false}
use Rattle.seq.proofs.Numbers.{is_eq-nat_cmp, is_lt-nat_cmp}
use Rattle.desk_words.specs.Places.{Places, holds}
use Rattle.share_blocks.specs.Cuts.{ranges_between}
use Rattle.share_blocks.specs.LinkedPieces.{Mark, last_before, pieces_by}
use Rattle.share_blocks.specs.Pieces.{Piece, cut_at, split_at, ranges_of, tagged, tags_at}

-- ---- places that rise

-- places in order, from the first on
abbrev pub RiseFrom : ℕ → List ℕ → Type 0
RiseFrom first [] = ⊤
RiseFrom first (k ∷ ks) = (first ≤ k) × (k ≤ MOST_PLACES) × RiseFrom (k + 1) ks

rise-lower : (first second : ℕ) (ks : List ℕ) → first ≤ second → RiseFrom second ks → RiseFrom first ks
rise-lower first second [] less rise = tt
rise-lower first second (k ∷ ks) less rise = (omega (arith, less, rise.0), rise.1, rise.2)

-- ---- what the last before a place has

pub last_before-below : {X : Type 0} (before : X) (es : List (ℕ × X)) (x first : ℕ) → RiseFrom first (keys_of es) → x < first → last_before before es x ≡ before
last_before-below before [] x first rise low = refl
last_before-below before (e ∷ es) x first rise low =
    ap (λ b. last_before (cond b e.1 before) es x) (lt-leb e.0 x (omega (arith, low, rise.0)))
    ∙ last_before-below before es x (e.0 + 1) rise.2 (omega (arith, low, rise.0))

-- what the last has, of a list of those before the place
abbrev pub last_value : {X : Type 0} → X → List (ℕ × X) → X
last_value before [] = before
last_value before (e ∷ es) = last_value e.1 es

pub last_before-filter : {X : Type 0} (before : X) (es : List (ℕ × X)) (x : ℕ) → last_before before es x ≡ last_value before (filter (λ e. nat_le e.0 x) es)
last_before-filter before [] x = refl
last_before-filter before (e ∷ es) x =
    elim (nat_le e.0 x) as (λ b. last_before (cond b e.1 before) es x ≡ last_value before (cond b (e ∷ filter (λ e. nat_le e.0 x) es) (filter (λ e. nat_le e.0 x) es))) [
      | true ↦ last_before-filter e.1 es x
      | false ↦ last_before-filter before es x
    ]

last_value-end : {X : Type 0} (before : X) (t : List (ℕ × X)) (e : ℕ × X) → last_value before (t ++ e ∷ []) ≡ e.1
last_value-end before [] e = refl
last_value-end before (f ∷ t) e = last_value-end f.1 t e

up_to : (x k : ℕ) → (true && not (is_lt (nat_cmp x k))) ≡ nat_le k x
up_to x k = ap (λ b. true && not b) (is_lt-nat_cmp x k) ∙ flip
  where
    flip : (true && not (nat_lt x k)) ≡ nat_le k x
    flip = grind (arith, nat_tests)

between-up_to : {X : Type 0} (es : List (ℕ × X)) (x : ℕ) → filter (λ e. nat_le e.0 x) es ≡ entries_between nat_cmp Unbounded (Included x) es
between-up_to es x = filter_agree (λ e. nat_le e.0 x) (λ e. range_contains nat_cmp Unbounded (Included x) e.0) (λ e. sym (up_to x e.0)) es

-- the last of those up to the place is what the place has
pub last_before-found : {X : Type 0} (before : X) (es t : List (ℕ × X)) (e : ℕ × X) (x : ℕ) → entries_between nat_cmp Unbounded (Included x) es ≡ t ++ e ∷ [] → last_before before es x ≡ e.1
last_before-found before es t e x is = last_before-filter before es x ∙ ap (last_value before) (between-up_to es x ∙ is) ∙ last_value-end before t e

pub last_before-none : {X : Type 0} (before : X) (es : List (ℕ × X)) (x : ℕ) → entries_between nat_cmp Unbounded (Included x) es ≡ [] → last_before before es x ≡ before
last_before-none before es x is = last_before-filter before es x ∙ ap (last_value before) (between-up_to es x ∙ is)

pub last_before-map : {X Y : Type 0} (f : X → Y) (before : X) (es : List (ℕ × X)) (x : ℕ) → last_before (f before) (map (λ e. (e.0, f e.1)) es) x ≡ f (last_before before es x)
last_before-map f before [] x = refl
last_before-map f before (e ∷ es) x =
    elim (nat_le e.0 x) as (λ b. last_before (cond b (f e.1) (f before)) (map (λ e. (e.0, f e.1)) es) x ≡ f (last_before (cond b e.1 before) es x)) [
      | true ↦ last_before-map f e.1 es x
      | false ↦ last_before-map f before es x
    ]

pub keys-map : {X Y : Type 0} (f : X → Y) (es : List (ℕ × X)) → keys_of (map (λ e. (e.0, f e.1)) es) ≡ keys_of es
keys-map f [] = refl
keys-map f (e ∷ es) = ap (λ l. e.0 ∷ l) (keys-map f es)

pub insert_entry-map : {X Y : Type 0} (f : X → Y) (es : List (ℕ × X)) (k : ℕ) (v : X) → map (λ e. (e.0, f e.1)) (insert_entry nat_cmp es k v) ≡ insert_entry nat_cmp (map (λ e. (e.0, f e.1)) es) k (f v)
insert_entry-map f [] k v = refl
insert_entry-map f (e ∷ es) k v =
    elim (nat_cmp k e.0) as (λ o. map (λ e. (e.0, f e.1)) (match_ordering o ((k, v) ∷ e ∷ es) ((e.0, v) ∷ es) (e ∷ insert_entry nat_cmp es k v))
    ≡ match_ordering o ((k, f v) ∷ map (λ e. (e.0, f e.1)) (e ∷ es)) ((e.0, f v) ∷ map (λ e. (e.0, f e.1)) es) ((e.0, f e.1) ∷ insert_entry nat_cmp (map (λ e. (e.0, f e.1)) es) k (f v))) [
      | Less ↦ refl
      | Equal ↦ refl
      | Greater ↦ ap (λ l. (e.0, f e.1) ∷ l) (insert_entry-map f es k v)
    ]

same : (a : ℕ) → (a == a) ≡ true
same a = grind (arith, nat_tests)

-- a new key is taken out again
pub remove-insert : {X : Type 0} (es : List (ℕ × X)) (k : ℕ) (v : X) → lookup (is_at (nat_cmp k)) es ≡ None → remove_entry (is_at (nat_cmp k)) (insert_entry nat_cmp es k v) ≡ es
remove-insert [] k v none = ap (λ b. cond b [] ((k, v) ∷ [])) (is_eq-nat_cmp k k ∙ same k)
remove-insert (e ∷ es) k v none =
    (elim (nat_cmp k e.0) as (λ o. nat_cmp k e.0 ≡ o → cond (is_eq o) (Some e.1) (lookup (is_at (nat_cmp k)) es) ≡ None
    → remove_entry (is_at (nat_cmp k)) (match_ordering o ((k, v) ∷ e ∷ es) ((e.0, v) ∷ es) (e ∷ insert_entry nat_cmp es k v)) ≡ e ∷ es) [
      | Less ↦ λ is none. ap (λ b. cond b (e ∷ es) ((k, v) ∷ remove_entry (is_at (nat_cmp k)) (e ∷ es))) (is_eq-nat_cmp k k ∙ same k)
      | Equal ↦ λ is none. absurd (cc)
      | Greater ↦ λ is none. ap (λ o. cond (is_eq o) (insert_entry nat_cmp es k v) (e ∷ remove_entry (is_at (nat_cmp k)) (insert_entry nat_cmp es k v))) is ∙ ap (λ l. e ∷ l) (remove-insert es k v none)
    ]) refl none

lookup-below : {X : Type 0} (es : List (ℕ × X)) (k first : ℕ) → RiseFrom first (keys_of es) → k < first → lookup (is_at (nat_cmp k)) es ≡ None
lookup-below [] k first rise low = refl
lookup-below (e ∷ es) k first rise low =
    ap (λ b. cond b (Some e.1) (lookup (is_at (nat_cmp k)) es)) (is_eq-nat_cmp k e.0 ∙ same_false k e.0 (omega (arith, low, rise.0)))
    ∙ lookup-below es k (e.0 + 1) rise.2 (omega (arith, low, rise.0))

-- a key that is there already keeps what the last before it has
pub insert-again : {X : Type 0} (before : X) (es : List (ℕ × X)) (k first : ℕ) → RiseFrom first (keys_of es) → (lookup (is_at (nat_cmp k)) es ≡ None → ⊥) → insert_entry nat_cmp es k (last_before before es k) ≡ es
insert-again before [] k first rise some = absurd (some refl)
insert-again before (e ∷ es) k first rise some =
    (elim (nat_cmp k e.0) as (λ o. nat_cmp k e.0 ≡ o → (cond (is_eq o) (Some e.1) (lookup (is_at (nat_cmp k)) es) ≡ None → ⊥)
    → match_ordering o ((k, last_before before (e ∷ es) k) ∷ e ∷ es) ((e.0, last_before before (e ∷ es) k) ∷ es) (e ∷ insert_entry nat_cmp es k (last_before before (e ∷ es) k)) ≡ e ∷ es) [
      | Less ↦ λ is some. absurd (some (lookup-below es k (e.0 + 1) rise.2 (omega (arith, ranked k e.0 Less (sym is)))))
      | Equal ↦ λ is some.
          let at : k ≡ e.0 = ranked k e.0 Equal (sym is) in
          ap (λ w. (e.0, w) ∷ es)
          (ap (λ b. last_before (cond b e.1 before) es k) (le-leb e.0 k (omega (arith, at))) ∙ last_before-below e.1 es k (e.0 + 1) rise.2 (omega (arith, at)))
      | Greater ↦ λ is some.
          let past : e.0 < k = ranked k e.0 Greater (sym is) in
          ap (λ w. e ∷ insert_entry nat_cmp es k w) (ap (λ b. last_before (cond b e.1 before) es k) (le-leb e.0 k (omega (arith, past))))
          ∙ ap (λ l. e ∷ l) (insert-again e.1 es k (e.0 + 1) rise.2 some)
    ]) refl some

-- a piece with these ends and tags
abbrev pub piece : ℕ → ℕ → List ℕ → Piece
piece from to tags = record { range = record { from = from; to = to }; tags = tags }

-- ---- pieces that no cut parts

pub cut_at-below : (x first : ℕ) (tags : List ℕ) (ms : List Mark) → RiseFrom first (keys_of ms) → x ≤ first → cut_at x (pieces_by first tags ms) ≡ pieces_by first tags ms
cut_at-below x first tags [] rise low =
    let p = piece first MOST_PLACES tags in
    ap (λ b. cond (b && nat_le x MOST_PLACES) (split_at x p) (p ∷ []) ++ []) (le-ltb first x low)
cut_at-below x first tags (m ∷ ms) rise low =
    let later = cut_at-below x m.0 m.1 ms (rise-lower m.0 (m.0 + 1) (keys_of ms) (omega arith) rise.2) (omega (arith, low, rise.0)) in
    let p = piece first (m.0 - 1) tags in
    elim (nat_lt first m.0) as (λ b. cut_at x (cond b (p ∷ pieces_by m.0 m.1 ms) (pieces_by m.0 m.1 ms)) ≡ cond b (p ∷ pieces_by m.0 m.1 ms) (pieces_by m.0 m.1 ms)) [
      | true ↦ ap (λ b. cond (b && nat_le x (m.0 - 1)) (split_at x p) (p ∷ []) ++ cut_at x (pieces_by m.0 m.1 ms)) (le-ltb first x low) ∙ ap (λ l. p ∷ l) later
      | false ↦ later
    ]

pub cut_at-above : (x first : ℕ) (tags : List ℕ) (ms : List Mark) → RiseFrom first (keys_of ms) → MOST_PLACES < x → cut_at x (pieces_by first tags ms) ≡ pieces_by first tags ms
cut_at-above x first tags [] rise high =
    let p = piece first MOST_PLACES tags in
    ap (λ b. cond (nat_lt first x && b) (split_at x p) (p ∷ []) ++ []) (lt-leb x MOST_PLACES high)
    ∙ ap (λ b. cond b (split_at x p) (p ∷ []) ++ []) (and-false (nat_lt first x))
cut_at-above x first tags (m ∷ ms) rise high =
    let later = cut_at-above x m.0 m.1 ms (rise-lower m.0 (m.0 + 1) (keys_of ms) (omega arith) rise.2) high in
    let p = piece first (m.0 - 1) tags in
    elim (nat_lt first m.0) as (λ b. cut_at x (cond b (p ∷ pieces_by m.0 m.1 ms) (pieces_by m.0 m.1 ms)) ≡ cond b (p ∷ pieces_by m.0 m.1 ms) (pieces_by m.0 m.1 ms)) [
      | true ↦
          ap (λ b. cond (nat_lt first x && b) (split_at x p) (p ∷ []) ++ cut_at x (pieces_by m.0 m.1 ms)) (lt-leb x (m.0 - 1) (omega (arith, high, rise.1)))
          ∙ ap (λ b. cond b (split_at x p) (p ∷ []) ++ cut_at x (pieces_by m.0 m.1 ms)) (and-false (nat_lt first x))
          ∙ ap (λ l. p ∷ l) later
      | false ↦ later
    ]

-- ---- a new key parts the pieces there

ends_before : (x first to : ℕ) (tags : List ℕ) (rest : List Piece) → to < x → cut_at x (piece first to tags ∷ rest) ≡ piece first to tags ∷ cut_at x rest
ends_before x first to tags rest past =
    let p = piece first to tags in
    ap (λ b. cond (nat_lt first x && b) (split_at x p) (p ∷ []) ++ cut_at x rest) (lt-leb x to past)
    ∙ ap (λ b. cond b (split_at x p) (p ∷ []) ++ cut_at x rest) (and-false (nat_lt first x))

-- the first piece is parted, if it begins before the place
part_first : (x first to : ℕ) (tags : List ℕ) (rest : List Piece) → first ≤ x → x ≤ to → cut_at x rest ≡ rest
    → cond (nat_lt first x) (piece first (x - 1) tags ∷ piece x to tags ∷ rest) (piece x to tags ∷ rest)
    ≡ cut_at x (piece first to tags ∷ rest)
part_first x first to tags rest low high whole =
    let p = piece first to tags in
    (elim (nat_lt first x) as (λ b. nat_lt first x ≡ b
    → cond b (piece first (x - 1) tags ∷ piece x to tags ∷ rest) (piece x to tags ∷ rest)
    ≡ cond (b && nat_le x to) (split_at x p) (p ∷ []) ++ cut_at x rest) [
      | true ↦ λ is. ap (λ l. split_at x p ++ l) (sym whole) ∙ ap (λ b. cond b (split_at x p) (p ∷ []) ++ cut_at x rest) (sym (le-leb x to high))
      | false ↦ λ is.
          let here : x ≡ first = omega (arith, low, ltb-false first x is) in
          ap (λ n. piece n to tags ∷ rest) here ∙ ap (λ l. p ∷ l) (sym whole)
    ]) refl

module _ (x : ℕ) where
  pub pieces_by-insert : (first : ℕ) (tags : List ℕ) (ms : List Mark) → RiseFrom first (keys_of ms) → first ≤ x → x ≤ MOST_PLACES → pieces_by first tags (insert_entry nat_cmp ms x (last_before tags ms x)) ≡ cut_at x (pieces_by first tags ms)
  pieces_by-insert first tags [] rise low high = part_first x first MOST_PLACES tags [] low high refl
  pieces_by-insert first tags (m ∷ ms) rise low high =
      let from_here = rise-lower m.0 (m.0 + 1) (keys_of ms) (omega arith) rise.2 in
      let rest = pieces_by m.0 m.1 ms in
      let v = last_before tags (m ∷ ms) x in
      (elim (nat_cmp x m.0) as (λ o. nat_cmp x m.0 ≡ o → pieces_by first tags (match_ordering o ((x, v) ∷ m ∷ ms) ((m.0, v) ∷ ms) (m ∷ insert_entry nat_cmp ms x v)) ≡ cut_at x (pieces_by first tags (m ∷ ms))) [
        | Less ↦ λ is.
            let before : x < m.0 = ranked x m.0 Less (sym is) in
            let has : v ≡ tags = ap (λ b. last_before (cond b m.1 tags) ms x) (lt-leb m.0 x before) ∙ last_before-below tags ms x (m.0 + 1) rise.2 (omega (arith, before)) in
            ap (λ w. pieces_by first tags ((x, w) ∷ m ∷ ms)) has
            ∙ ap (λ b. cond (nat_lt first x) (piece first (x - 1) tags ∷ cond b (piece x (m.0 - 1) tags ∷ rest) rest) (cond b (piece x (m.0 - 1) tags ∷ rest) rest)) (lt-ltb x m.0 before)
            ∙ part_first x first (m.0 - 1) tags rest low (omega (arith, before)) (cut_at-below x m.0 m.1 ms from_here (omega (arith, before)))
            ∙ ap (λ b. cut_at x (cond b (piece first (m.0 - 1) tags ∷ rest) rest)) (sym (lt-ltb first m.0 (omega (arith, low, before))))
        | Equal ↦ λ is.
            let at : x ≡ m.0 = ranked x m.0 Equal (sym is) in
            let has : v ≡ m.1 = ap (λ b. last_before (cond b m.1 tags) ms x) (le-leb m.0 x (omega (arith, at))) ∙ last_before-below m.1 ms x (m.0 + 1) rise.2 (omega (arith, at)) in
            let whole : cut_at x rest ≡ rest = cut_at-below x m.0 m.1 ms from_here (omega (arith, at)) in
            ap (λ w. pieces_by first tags ((m.0, w) ∷ ms)) has
            ∙ (elim (nat_lt first m.0) as (λ b. nat_lt first m.0 ≡ b → cond b (piece first (m.0 - 1) tags ∷ rest) rest ≡ cut_at x (cond b (piece first (m.0 - 1) tags ∷ rest) rest)) [
              | true ↦ λ less. ap (λ l. piece first (m.0 - 1) tags ∷ l) (sym whole) ∙ sym (ends_before x first (m.0 - 1) tags rest (omega (arith, at, ltb-true first m.0 less)))
              | false ↦ λ less. sym whole
            ]) refl
        | Greater ↦ λ is.
            let past : m.0 < x = ranked x m.0 Greater (sym is) in
            let has : v ≡ last_before m.1 ms x = ap (λ b. last_before (cond b m.1 tags) ms x) (le-leb m.0 x (omega (arith, past))) in
            let later : pieces_by m.0 m.1 (insert_entry nat_cmp ms x v) ≡ cut_at x rest = ap (λ w. pieces_by m.0 m.1 (insert_entry nat_cmp ms x w)) has ∙ pieces_by-insert m.0 m.1 ms from_here (omega (arith, past)) high in
            (elim (nat_lt first m.0) as (λ b. nat_lt first m.0 ≡ b
            → cond b (piece first (m.0 - 1) tags ∷ pieces_by m.0 m.1 (insert_entry nat_cmp ms x v)) (pieces_by m.0 m.1 (insert_entry nat_cmp ms x v))
            ≡ cut_at x (cond b (piece first (m.0 - 1) tags ∷ rest) rest)) [
              | true ↦ λ less. ap (λ l. piece first (m.0 - 1) tags ∷ l) later ∙ sym (ends_before x first (m.0 - 1) tags rest (omega (arith, past)))
              | false ↦ λ less. later
            ]) refl
      ]) refl

-- ---- tags in front

-- a mark, with the tag in front of its tags if it is in the range
abbrev pub tagged_mark : Places → ℕ → Mark → Mark
tagged_mark range tag m = (m.0, cond (holds range m.0) (tag ∷ m.1) m.1)

pub pieces_by-tagged : (range : Places) (tag first : ℕ) (tags : List ℕ) (ms : List Mark) → pieces_by first (cond (holds range first) (tag ∷ tags) tags) (map (tagged_mark range tag) ms) ≡ map (tagged range tag) (pieces_by first tags ms)
pieces_by-tagged range tag first tags [] = refl
pieces_by-tagged range tag first tags (m ∷ ms) =
    let p = piece first (m.0 - 1) tags in
    let later = pieces_by-tagged range tag m.0 m.1 ms in
    elim (nat_lt first m.0) as (λ b. cond b (tagged range tag p ∷ pieces_by m.0 (cond (holds range m.0) (tag ∷ m.1) m.1) (map (tagged_mark range tag) ms)) (pieces_by m.0 (cond (holds range m.0) (tag ∷ m.1) m.1) (map (tagged_mark range tag) ms))
    ≡ map (tagged range tag) (cond b (p ∷ pieces_by m.0 m.1 ms) (pieces_by m.0 m.1 ms))) [
      | true ↦ ap (λ l. tagged range tag p ∷ l) later
      | false ↦ later
    ]

-- ---- the ranges, and the tags of a place

pub ranges_of-pieces_by : (first : ℕ) (tags : List ℕ) (ms : List Mark) → RiseFrom (first + 1) (keys_of ms) → ranges_of (pieces_by first tags ms) ≡ ranges_between first (keys_of ms)
ranges_of-pieces_by first tags [] rise = refl
ranges_of-pieces_by first tags (m ∷ ms) rise =
    ap (λ b. ranges_of (cond b (piece first (m.0 - 1) tags ∷ pieces_by m.0 m.1 ms) (pieces_by m.0 m.1 ms))) (lt-ltb first m.0 (omega (arith, rise.0)))
    ∙ ap (λ l. record { from = first; to = m.0 - 1 } ∷ l) (ranges_of-pieces_by m.0 m.1 ms rise.2)

pub tags_at-pieces_by : (first : ℕ) (tags : List ℕ) (ms : List Mark) (place : ℕ) → RiseFrom first (keys_of ms) → first ≤ place → place ≤ MOST_PLACES → tags_at (pieces_by first tags ms) place ≡ last_before tags ms place
tags_at-pieces_by first tags [] place rise low high =
    ap (λ b. cond (b && nat_le place MOST_PLACES) tags []) (le-leb first place low) ∙ ap (λ b. cond b tags []) (le-leb place MOST_PLACES high)
tags_at-pieces_by first tags (m ∷ ms) place rise low high =
    let rest = pieces_by m.0 m.1 ms in
    (elim (nat_le m.0 place) as (λ b. nat_le m.0 place ≡ b → tags_at (pieces_by first tags (m ∷ ms)) place ≡ last_before (cond b m.1 tags) ms place) [
      | true ↦ λ is.
          let past : m.0 ≤ place = leb-true m.0 place is in
          let later = tags_at-pieces_by m.0 m.1 ms place (rise-lower m.0 (m.0 + 1) (keys_of ms) (omega arith) rise.2) past high in
          (elim (nat_lt first m.0) as (λ b. nat_lt first m.0 ≡ b → tags_at (cond b (piece first (m.0 - 1) tags ∷ rest) rest) place ≡ last_before m.1 ms place) [
            | true ↦ λ less.
                ap (λ b. cond (nat_le first place && b) tags (tags_at rest place)) (lt-leb place (m.0 - 1) (omega (arith, past, ltb-true first m.0 less)))
                ∙ ap (λ b. cond b tags (tags_at rest place)) (and-false (nat_le first place))
                ∙ later
            | false ↦ λ less. later
          ]) refl
      | false ↦ λ is.
          let before : place < m.0 = leb-false m.0 place is in
          ap (λ b. tags_at (cond b (piece first (m.0 - 1) tags ∷ rest) rest) place) (lt-ltb first m.0 (omega (arith, low, before)))
          ∙ ap (λ b. cond (b && nat_le place (m.0 - 1)) tags (tags_at rest place)) (le-leb first place low)
          ∙ ap (λ b. cond b tags (tags_at rest place)) (le-leb place (m.0 - 1) (omega (arith, before)))
          ∙ sym (last_before-below tags ms place (m.0 + 1) rise.2 (omega (arith, before)))
    ]) refl
