-- The newest tag of a place, and the appointment that governs it.
use Rattle.std.proofs.Common.{◌≡◌, ℕ, suc, ◌+◌, ◌-◌, ◌<◌, ◌≤◌, min, Bool, true, false, cond, List, [], ◌∷◌, refl, sym, ap, subst, ◌∙◌, arith, inl, inr}
use Rattle.std.specs.Prelude.{◌&&◌, ◌==◌, nat_le, Option, Some, None, All, find, reverse, option_map, option_and_then}
use Rattle.std.specs.List.{filter_map, cons_option, list_all, list_any, slice_get}
use Rattle.std.specs.Option.{option_map_or, option_or}
use Rattle.std.proofs.Math.Nat.{min-le_left, min-le_right}
use Rattle.std.proofs.lemmas.Bool.{cases_lt, and_from, eqb-true, le-leb, leb-true}
use Rattle.std.proofs.lemmas.List.{reverse-append}
use Rattle.std.proofs.lemmas.List.Elements.{All-nil, All-cons, All-head, All-tail}
use Rattle.std.proofs.lemmas.List.Folds.{find-append, list_all-append}
use Rattle.std.specs.Cmp.{first_so, second_so}
use Rattle.vocabulary.specs.declared.range.TheConstants.{MOST_PLACES}
use Rattle.vocabulary.specs.Places.{Places, holds}
use Rattle.desk_words.specs.declared.records.Appointment.{Appointment}
use Rattle.proxy_rules.specs.declared.holdings.Holding.{Holding}
use Rattle.proxy_rules.specs.declared.meeting_records.Cutoffs.{Cutoffs}
use Rattle.proxy_rules.specs.declared.pieces.GovernedPiece.{GovernedPiece}
use Rattle.proxy_rules.specs.Governing.{ends, governing_in, is_ended, is_over, last_over, unended}
use Rattle.proxy_rules.specs.Holdings.{IsValidHolding, are_numbered_from, are_tags}
use Rattle.proxy_rules.specs.Tagging.{cover_by, covers_by, held_of, if_unended, piece_by, piece_over, tag_over}
use Rattle.proxy_rules.specs.Tiles.{ArePieces, IsGoverned, are_tiled, governed_ranges}
use Rattle.proxy_rules.proofs.TileLemmas.{no_range, tiled-held, within_range}
use Rattle.proxy_rules.proofs.TurnedLists.{filter_map-reverse}
use Rattle.share_blocks.specs.Covers.{Cover, newest_of}
use Rattle.share_blocks.specs.Pieces.{AreAlike, Piece, follow_from, is_place, tags_at}
use Rattle.share_blocks.specs.Tags.{is_tag}
use Rattle.share_blocks.proofs.CutLemmas.{follows}

-- ---- the newest tag of a place

abbrev is_tagged : Appointment → Bool
is_tagged a = is_tag a.number

tags-reversed : (xs : List Appointment) → list_all is_tagged xs ≡ true → list_all is_tagged (reverse xs) ≡ true
tags-reversed [] all = refl
tags-reversed (x ∷ xs) all =
    ap (list_all is_tagged) (reverse-append (x ∷ []) xs)
    ∙ list_all-append is_tagged (reverse xs) (x ∷ [])
    ∙ ap (λ b. b && list_all is_tagged (x ∷ [])) (tags-reversed xs (second_so (is_tagged x) (list_all is_tagged xs) all))
    ∙ ap (λ b. b && true) (first_so (is_tagged x) (list_all is_tagged xs) all)

module _ (passes : ℕ → Bool) (tags_pass : (tag : ℕ) → is_tag tag ≡ true → passes tag ≡ true) (cutoffs : Cutoffs) (place : ℕ) where
  abbrev covers_place : Cover → Bool
  covers_place cover = holds cover.0 place && passes cover.1

  one_over : (a : Appointment) (counts over : Bool) (rest : List Cover) (o : Option Appointment) → passes a.number ≡ true → holds a.range place ≡ over → option_map (λ (cover : Cover). cover.1) (find covers_place rest) ≡ option_map (λ (b : Appointment). b.number) o
      → option_map (λ (cover : Cover). cover.1) (find covers_place (cons_option (cond counts (Some (a.range, a.number)) None) rest)) ≡ option_map (λ (b : Appointment). b.number) (cond (counts && over) (Some a) o)
  one_over a false over rest o pass is found = found
  one_over a true true rest o pass is found =
      ap (λ b. option_map (λ (cover : Cover). cover.1) (cond (b && passes a.number) (Some (a.range, a.number)) (find covers_place rest))) is
      ∙ ap (λ b. option_map (λ (cover : Cover). cover.1) (cond b (Some (a.range, a.number)) (find covers_place rest))) pass
  one_over a true false rest o pass is found =
      ap (λ b. option_map (λ (cover : Cover). cover.1) (cond (b && passes a.number) (Some (a.range, a.number)) (find covers_place rest))) is
      ∙ found

  newest_among : (xs : List Appointment) → list_all is_tagged xs ≡ true
      → option_map (λ (cover : Cover). cover.1) (find covers_place (filter_map (cover_by cutoffs) xs)) ≡ option_map (λ (a : Appointment). a.number) (find (is_over cutoffs place) xs)
  newest_among [] all = refl
  newest_among (a ∷ xs) all =
      let tag : is_tag a.number ≡ true = first_so (is_tagged a) (list_all is_tagged xs) all in
      ap (λ b. option_map (λ (cover : Cover). cover.1) (find covers_place (cons_option (cond (nat_le a.moment cutoffs.appointments) (option_map (λ t. (a.range, t)) (cond b (Some a.number) None)) None) (filter_map (cover_by cutoffs) xs)))) tag
      ∙ one_over a (nat_le a.moment cutoffs.appointments) (holds a.range place) (filter_map (cover_by cutoffs) xs) (find (is_over cutoffs place) xs)
      (tags_pass a.number tag) refl (newest_among xs (second_so (is_tagged a) (list_all is_tagged xs) all))

  newest_over : (holding : Holding) → are_tags holding.appointed ≡ true → newest_of passes (covers_by cutoffs holding.appointed) place ≡ option_map (λ (a : Appointment). a.number) (last_over cutoffs holding place)
  newest_over holding all =
      ap (λ l. option_map (λ (cover : Cover). cover.1) (find covers_place l)) (filter_map-reverse (cover_by cutoffs) holding.appointed)
      ∙ newest_among (reverse holding.appointed) (tags-reversed holding.appointed all)

-- ---- where an appointment that is found stands

found_alone : (p : Appointment → Bool) (x a : Appointment) → find p (x ∷ []) ≡ Some a → x ≡ a
found_alone p x a =
    elim (p x) as (λ b. cond b (Some x) None ≡ Some a → x ≡ a) [
      | true ↦ λ h. ap (λ o. option_map_or (λ y. y) o x) h
      | false ↦ λ h. absurd (cc)
    ]

-- the last that passes a test stands where its number says
found_placed : (p : Appointment → Bool) (n : ℕ) (xs : List Appointment) (a : Appointment) → are_numbered_from n xs ≡ true → find p (reverse xs) ≡ Some a
    → (n < a.number) × (slice_get xs (a.number - suc n) ≡ Some a)
found_placed p n [] a all found = absurd (cc)
found_placed p n (x ∷ xs) a all found =
    let here : x.number ≡ suc n = eqb-true x.number (suc n) (first_so (x.number == suc n) (are_numbered_from (suc n) xs) all) in
    let parts : option_or (find p (reverse xs)) (find p (x ∷ [])) ≡ Some a = sym (ap (find p) (reverse-append (x ∷ []) xs) ∙ find-append p (reverse xs) (x ∷ [])) ∙ found in
    (elim (find p (reverse xs)) as (λ o. find p (reverse xs) ≡ o → option_or o (find p (x ∷ [])) ≡ Some a → (n < a.number) × (slice_get (x ∷ xs) (a.number - suc n) ≡ Some a)) [
      | Some b ↦ λ later is.
          (let rest = found_placed p (suc n) xs a (second_so (x.number == suc n) (are_numbered_from (suc n) xs) all) (later ∙ is) in
          let next : a.number - suc n ≡ suc (a.number - suc (suc n)) = omega (arith, rest.0) in (
            omega (arith, rest.0),
            ap (slice_get (x ∷ xs)) next ∙ rest.1,
          ))
      | None ↦ λ later is.
          (let same : x ≡ a = found_alone p x a is in
          let number = ap (λ (y : Appointment). y.number) same in
          let first : a.number - suc n ≡ 0 = omega (arith, here, number) in (
            omega (arith, here, number),
            ap (slice_get (x ∷ xs)) first ∙ ap Some same,
          ))
    ]) refl parts

found_tag : (p : Appointment → Bool) (xs : List Appointment) (a : Appointment) → list_all is_tagged xs ≡ true → find p xs ≡ Some a → is_tag a.number ≡ true
found_tag p [] a all found = absurd (cc)
found_tag p (x ∷ xs) a all found =
    (elim (p x) as (λ b. cond b (Some x) (find p xs) ≡ Some a → is_tag a.number ≡ true) [
      | true ↦ λ h. ap is_tagged (sym (ap (λ o. option_map_or (λ y. y) o x) h)) ∙ first_so (is_tagged x) (list_all is_tagged xs) all
      | false ↦ λ h. found_tag p xs a (second_so (is_tagged x) (list_all is_tagged xs) all) h
    ]) found

-- ---- the appointment that governs a place, by its tag

record Fits (cutoffs : Cutoffs) (holding : Holding) (has_ended : ℕ → Bool) (a : Appointment) : Type 0 where
  ended : has_ended a.number ≡ is_ended cutoffs holding a
  placed : slice_get holding.appointed (a.number - 1) ≡ Some a

abbrev at_tag : Holding → Option ℕ → Option Appointment
at_tag holding tag = option_and_then (slice_get holding.appointed) (option_map (λ number. number - 1) tag)

by_tag : (cutoffs : Cutoffs) (holding : Holding) (has_ended : ℕ → Bool) (o : Option Appointment) → ((a : Appointment) → o ≡ Some a → Fits cutoffs holding has_ended a)
    → option_and_then (unended cutoffs holding) o ≡ at_tag holding (option_and_then (if_unended has_ended) (option_map (λ (a : Appointment). a.number) o))
by_tag cutoffs holding has_ended None fits = refl
by_tag cutoffs holding has_ended (Some a) fits =
    let f = fits a refl in
    (elim (is_ended cutoffs holding a) as (λ b. cond b None (Some a) ≡ at_tag holding (cond b None (Some a.number))) [
      | true ↦ refl
      | false ↦ sym f.placed
    ]) ∙ ap (λ b. at_tag holding (cond b None (Some a.number))) (sym f.ended)

module _ (admitted has_ended : ℕ → Bool) (tags_pass : (tag : ℕ) → is_tag tag ≡ true → admitted tag ≡ true) (cutoffs : Cutoffs) (holding : Holding) (valid : IsValidHolding holding)
    (ended : (tag : ℕ) → is_tag tag ≡ true → has_ended tag ≡ list_any (ends cutoffs tag) holding.ended)
    (pieces : List Piece) (newest : (place : ℕ) → is_place place ≡ true → find admitted (tags_at pieces place) ≡ newest_of admitted (covers_by cutoffs holding.appointed) place) where
  governing_tag : (place : ℕ) → 1 ≤ place → place ≤ holding.shares → governing_in cutoffs holding place ≡ at_tag holding (tag_over admitted has_ended pieces place)
  governing_tag place low high =
      ap (λ b. cond b (option_and_then (unended cutoffs holding) (last_over cutoffs holding place)) None)
      (and_from (nat_le 1 place) (nat_le place holding.shares) (le-leb 1 place low) (le-leb place holding.shares high))
      ∙ by_tag cutoffs holding has_ended (last_over cutoffs holding place)
      (λ a found. record {
        ended = ended a.number (found_tag (is_over cutoffs place) (reverse holding.appointed) a (tags-reversed holding.appointed valid.tagged) found);
        placed = (found_placed (is_over cutoffs place) 0 holding.appointed a valid.numbered found).1;
      })
      ∙ ap (λ o. at_tag holding (option_and_then (if_unended has_ended) o))
      (sym (newest place (and_from (nat_le 1 place) (nat_le place MOST_PLACES) (le-leb 1 place low) (le-leb place MOST_PLACES (omega (arith, high, valid.few))))
      ∙ newest_over admitted tags_pass cutoffs place holding valid.tagged))

  -- one appointment governs all that the holding has of a range whose places have the same tags
  one_governed : (range : Places) (to : ℕ) → 1 ≤ range.from → to ≤ holding.shares → to ≤ range.to → AreAlike pieces range
      → IsGoverned cutoffs holding (record { range = record { from = range.from; to = to }; by = option_map (λ number. number - 1) (tag_over admitted has_ended pieces range.from) })
  one_governed range to low few within alike = λ place is.
      let lower = leb-true range.from place (first_so (nat_le range.from place) (nat_le place to) is) in
      let upper = leb-true place to (second_so (nat_le range.from place) (nat_le place to) is) in
      governing_tag place (omega (arith, lower)) (omega (arith, upper))
      ∙ ap (λ tags. at_tag holding (option_and_then (if_unended has_ended) (find admitted tags)))
      (alike place (and_from (nat_le range.from place) (nat_le place range.to) (le-leb range.from place lower) (le-leb place range.to (omega (arith, upper)))))

  all_governed : (first : ℕ) (ranges : List Places) → 1 ≤ first → follow_from first ranges ≡ true → All (AreAlike pieces) ranges
      → All (IsGoverned cutoffs holding) (filter_map (piece_over admitted has_ended pieces holding.shares) ranges)
  all_governed first [] low all alike = All-nil (IsGoverned cutoffs holding)
  all_governed first (range ∷ ranges) low all alike =
      let f = follows first range ranges all in
      let tag = tag_over admitted has_ended pieces range.from in
      let others = filter_map (piece_over admitted has_ended pieces holding.shares) ranges in
      let rest = all_governed (range.to + 1) ranges (omega arith) f.rest (All-tail (AreAlike pieces) range ranges alike) in
      let to = min holding.shares range.to in
      let with_held = λ (held : Option Places). All (IsGoverned cutoffs holding) (cons_option (piece_by held tag) others) in
      elim (cases_lt holding.shares range.from) [
        | inl past ↦ subst with_held (sym (no_range range.from to (omega (arith, min-le_left holding.shares range.to)))) rest
        | inr here ↦
            subst with_held (sym (within_range range.from to (omega (arith, f.begins)) (omega (arith, f.begins, f.within)) (omega (arith, min-le_left holding.shares range.to, valid.few))))
            (All-cons (IsGoverned cutoffs holding) (record { range = record { from = range.from; to = to }; by = option_map (λ number. number - 1) tag }) others
            (one_governed range to (omega (arith, f.begins)) (min-le_left holding.shares range.to) (min-le_right holding.shares range.to) (All-head (AreAlike pieces) range ranges alike)) rest)
      ]

  one_range : (held : Option Places) (tag : Option ℕ) (others : List GovernedPiece) (ranges : List Places) → governed_ranges others ≡ ranges → governed_ranges (cons_option (piece_by held tag) others) ≡ cons_option held ranges
  one_range None tag others ranges same = same
  one_range (Some range) tag others ranges same = ap (λ l. range ∷ l) same

  ranges_of-over : (ranges : List Places) → governed_ranges (filter_map (piece_over admitted has_ended pieces holding.shares) ranges) ≡ filter_map (held_of holding.shares) ranges
  ranges_of-over [] = refl
  ranges_of-over (range ∷ ranges) =
      one_range (held_of holding.shares range) (tag_over admitted has_ended pieces range.from) (filter_map (piece_over admitted has_ended pieces holding.shares) ranges)
      (filter_map (held_of holding.shares) ranges) (ranges_of-over ranges)

  -- what a holding has of the ranges that its appointments leave are its pieces
  pub are_pieces : (ranges : List Places) → follow_from 1 ranges ≡ true → All (AreAlike pieces) ranges → ArePieces cutoffs holding (filter_map (piece_over admitted has_ended pieces holding.shares) ranges)
  are_pieces ranges all alike = record {
    tiled = ap (λ l. are_tiled 1 l holding.shares) (ranges_of-over ranges) ∙ tiled-held holding.shares ranges valid.few all;
    governed = all_governed 1 ranges (omega arith) all alike;
  }
