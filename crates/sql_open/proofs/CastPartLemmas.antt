-- Votes are such as could be cast on some polls exactly where those on each are such as could be cast on it.
use Rattle.std.proofs.Common.{◌≡◌, Bool, true, false, not, ◌==◌, ◌&&◌, ◌||◌, if◌then◌else◌, List, [], ◌∷◌, filter, refl, sym, ap, ◌∙◌, true≢false, inl, inr, arith}
use Rattle.std.specs.Prelude.{count_by, is_some, nat_le}
use Rattle.std.specs.List.{AllByRecursion, list_all, list_any}
use Rattle.std.proofs.lemmas.Bool.{and_parts, cases_Bool, eqb-true}
use Rattle.std.proofs.lemmas.Bool.Decides.{nat_tests}
use Rattle.std.specs.Cmp.Derive.{both_true}
use Rattle.seq.specs.Ordered.{differ_by}
use Rattle.seq.proofs.Differing.{count_filter}
use Rattle.vocabulary.specs.Names.{same_name}
use Rattle.desk_words.specs.Office.{are_casts, implies, is_cast_on, same_ballot}
use Rattle.desk_words.specs.declared.limits.TheConstants.{MOST_CASTS}
use Rattle.desk_words.specs.declared.records.CastMark.{CastMark}
use Rattle.desk_words.specs.declared.records.Poll.{Poll}
use Rattle.sql_open.proofs.VoteLemmas.{same_resolution}

-- the vote is on the resolution of the poll
abbrev pub on_poll : Poll → CastMark → Bool
on_poll p c = c.resolution == p.resolution

-- ---- lists

filtered : {X : Type 0} (q part : X → Bool) (xs : List X) → list_all q (filter part xs) ≡ list_all (λ x. implies (part x) (q x)) xs
filtered q part [] = refl
filtered q part (x ∷ xs) =
    elim (part x) as (λ b. list_all q (if b then x ∷ filter part xs else filter part xs) ≡ (implies b (q x) && list_all (λ y. implies (part y) (q y)) xs)) [ true ↦ ap (λ b. q x && b) (filtered q part xs) | false ↦ filtered q part xs ]

of_both : {X : Type 0} (f g h : X → Bool) → ((x : X) → f x ≡ true → g x ≡ true → h x ≡ true) → (xs : List X) → list_all f xs ≡ true → list_all g xs ≡ true → list_all h xs ≡ true
of_both f g h so [] a b = refl
of_both f g h so (x ∷ xs) a b =
    let first = and_parts (f x) (list_all f xs) a in
    let second = and_parts (g x) (list_all g xs) b in
    both_true (so x first.0 second.0) (of_both f g h so xs first.1 second.1)

all_true : {X : Type 0} (xs : List X) → list_all (λ _. true) xs ≡ true
all_true [] = refl
all_true (x ∷ xs) = all_true xs

of_each_pair : {X Y : Type 0} (f : Y → X → Bool) (ys : List Y) (xs : List X) → AllByRecursion (λ y. list_all (f y) xs ≡ true) ys → list_all (λ x. list_all (λ y. f y x) ys) xs ≡ true
of_each_pair f [] xs each = all_true xs
of_each_pair f (y ∷ ys) xs each = of_both (f y) (λ x. list_all (λ z. f z x) ys) (λ x. f y x && list_all (λ z. f z x) ys) (λ x a b. both_true a b) xs each.0 (of_each_pair f ys xs each.1)

each_of_pair : {X Y : Type 0} (f : Y → X → Bool) (ys : List Y) (xs : List X) → list_all (λ x. list_all (λ y. f y x) ys) xs ≡ true → AllByRecursion (λ y. list_all (f y) xs ≡ true) ys
each_of_pair f [] xs all = tt
each_of_pair f (y ∷ ys) xs all =
    let both : (x : _) → (f y x && list_all (λ z. f z x) ys) ≡ true → (f y x ≡ true) × (list_all (λ z. f z x) ys ≡ true) = λ x h. and_parts (f y x) (list_all (λ z. f z x) ys) h in (
      of_both (λ x. f y x && list_all (λ z. f z x) ys) (λ _. true) (f y) (λ x h _. (both x h).0) xs all (all_true xs),
      each_of_pair f ys xs (of_both (λ x. f y x && list_all (λ z. f z x) ys) (λ _. true) (λ x. list_all (λ z. f z x) ys) (λ x h _. (both x h).1) xs all (all_true xs)),
    )

each_so : {Y : Type 0} {P Q : Y → Type 0} → ((y : Y) → P y → Q y) → (ys : List Y) → AllByRecursion P ys → AllByRecursion Q ys
each_so so [] each = tt
each_so so (y ∷ ys) each = (so y each.0, each_so so ys each.1)

-- ---- the votes on one poll

twice : (a n : Bool) → ((a && n) && a) ≡ (a && n)
twice true true = refl
twice true false = refl
twice false n = refl

or_none : (b : Bool) → (b || false) ≡ b
or_none true = refl
or_none false = refl

module _ (all : List CastMark) where
  -- its voter cast few on its resolution
  few : CastMark → Bool
  few c = nat_le (count_by (λ d. same_ballot d c) all) MOST_CASTS

  -- a vote on the poll could be cast on it
  one : Poll → CastMark → Bool
  one p c = implies (on_poll p c) (is_cast_on c p && few c)

  -- as many are cast with it among those on its poll as among all
  same_count : (p : Poll) (c : CastMark) → on_poll p c ≡ true → count_by (λ d. same_ballot d c) (filter (on_poll p) all) ≡ count_by (λ d. same_ballot d c) all
  same_count p c is = count_filter (λ d. same_ballot d c) (on_poll p) all ∙ ap (λ (f : CastMark → Bool). count_by f all) (λ i d. alike d i)
    where
      alike : (d : CastMark) → (same_ballot d c && on_poll p d) ≡ same_ballot d c
      alike d = ap (λ k. same_ballot d c && d.resolution == k) (sym (eqb-true c.resolution p.resolution is)) ∙ twice (d.resolution == c.resolution) (same_name d.voter c.voter)

  part : Poll → List CastMark
  part p = filter (on_poll p) all

  few_in : Poll → CastMark → Bool
  few_in p c = nat_le (count_by (λ d. same_ballot d c) (part p)) MOST_CASTS

  part_of : (p : Poll) → are_casts (p ∷ []) (part p) ≡ true → list_all (one p) all ≡ true
  unfolding one few few_in part
  part_of p h =
      let both = and_parts (list_all (λ c. list_any (is_cast_on c) (p ∷ [])) (part p)) (list_all (few_in p) (part p)) h in
      of_both (λ c. implies (on_poll p c) (list_any (is_cast_on c) (p ∷ []))) (λ c. implies (on_poll p c) (few_in p c)) (one p) (λ c. go c (on_poll p c) refl) all
      (sym (filtered (λ c. list_any (is_cast_on c) (p ∷ [])) (on_poll p) all) ∙ both.0) (sym (filtered (few_in p) (on_poll p) all) ∙ both.1)
    where
      go : (c : CastMark) (b : Bool) → on_poll p c ≡ b → implies b (is_cast_on c p || false) ≡ true → implies b (few_in p c) ≡ true → implies b (is_cast_on c p && few c) ≡ true
      go c true is cast small = both_true (sym (or_none (is_cast_on c p)) ∙ cast) (sym (ap (λ n. nat_le n MOST_CASTS) (same_count p c is)) ∙ small)
      go c false is cast small = refl

  to_part : (p : Poll) → list_all (one p) all ≡ true → are_casts (p ∷ []) (part p) ≡ true
  unfolding one few few_in part
  to_part p h =
      both_true
      (filtered (λ c. list_any (is_cast_on c) (p ∷ [])) (on_poll p) all ∙ of_both (one p) (λ _. true) (λ c. implies (on_poll p c) (list_any (is_cast_on c) (p ∷ []))) (λ c is _. cast c (on_poll p c) is) all h (all_true all))
      (filtered (few_in p) (on_poll p) all ∙ of_both (one p) (λ _. true) (λ c. implies (on_poll p c) (few_in p c)) (λ c is _. small c (on_poll p c) refl is) all h (all_true all))
    where
      cast : (c : CastMark) (b : Bool) → implies b (is_cast_on c p && few c) ≡ true → implies b (is_cast_on c p || false) ≡ true
      cast c true h = or_none (is_cast_on c p) ∙ (and_parts (is_cast_on c p) (few c) h).0
      cast c false h = refl

      small : (c : CastMark) (b : Bool) → on_poll p c ≡ b → implies b (is_cast_on c p && few c) ≡ true → implies b (few_in p c) ≡ true
      small c true is h = ap (λ n. nat_le n MOST_CASTS) (same_count p c is) ∙ (and_parts (is_cast_on c p) (few c) h).1
      small c false is h = refl

  -- ---- on all polls

  found : (c : CastMark) (ps : List Poll) → list_any (λ p. on_poll p c) ps ≡ true → list_all (λ p. one p c) ps ≡ true → (list_any (is_cast_on c) ps ≡ true) × (few c ≡ true)
  unfolding one
  found c [] on each = absurd (true≢false (sym on))
  found c (p ∷ ps) on each =
      let both = and_parts (one p c) (list_all (λ q. one q c) ps) each in
      go (on_poll p c) on both.0 (λ further. found c ps further both.1)
    where
      or_left : (a b : Bool) → a ≡ true → (a || b) ≡ true
      or_left true b h = refl
      or_left false b h = absurd (true≢false (sym h))

      or_right : (a b : Bool) → b ≡ true → (a || b) ≡ true
      or_right true b h = refl
      or_right false b h = h

      go : (b : Bool) → (b || list_any (λ q. on_poll q c) ps) ≡ true → implies b (is_cast_on c p && few c) ≡ true → (list_any (λ q. on_poll q c) ps ≡ true → (list_any (is_cast_on c) ps ≡ true) × (few c ≡ true)) → ((is_cast_on c p || list_any (is_cast_on c) ps) ≡ true) × (few c ≡ true)
      go true on here later = let both = and_parts (is_cast_on c p) (few c) here in (or_left (is_cast_on c p) (list_any (is_cast_on c) ps) both.0, both.1)
      go false on here later = let rest = later on in (or_right (is_cast_on c p) (list_any (is_cast_on c) ps) rest.0, rest.1)

  -- where each vote is on one of the polls, and those on each could be cast on it, all could be cast on them
  pub casts_from : (ps : List Poll) → list_all (λ c. list_any (λ p. on_poll p c) ps) all ≡ true → AllByRecursion (λ p. are_casts (p ∷ []) (filter (on_poll p) all) ≡ true) ps → are_casts ps all ≡ true
  unfolding part few
  casts_from ps on each =
      let swapped = of_each_pair one ps all (each_so part_of ps each) in
      both_true (of_both (λ c. list_any (λ p. on_poll p c) ps) (λ c. list_all (λ p. one p c) ps) (λ c. list_any (is_cast_on c) ps) (λ c a b. (found c ps a b).0) all on swapped)
      (of_both (λ c. list_any (λ p. on_poll p c) ps) (λ c. list_all (λ p. one p c) ps) few (λ c a b. (found c ps a b).1) all on swapped)

  -- ---- and the other way

  turned : (c : CastMark) (p : Poll) → is_cast_on c p ≡ true → on_poll p c ≡ true
  turned c p is = let here = (and_parts (p.resolution == c.resolution) (is_some p.started) is).0 in grind (arith, nat_tests, here)

  pub on_any : (c : CastMark) (ps : List Poll) → list_any (is_cast_on c) ps ≡ true → list_any (λ p. on_poll p c) ps ≡ true
  on_any c [] on = on
  on_any c (p ∷ ps) on = elim (cases_Bool (is_cast_on c p)) [
    | inl is ↦ ap (λ b. b || list_any (λ q. on_poll q c) ps) (turned c p is)
    | inr other ↦ go (on_poll p c) (on_any c ps (sym (ap (λ b. b || list_any (is_cast_on c) ps) other) ∙ on))
  ]
    where
      go : (b : Bool) → list_any (λ q. on_poll q c) ps ≡ true → (b || list_any (λ q. on_poll q c) ps) ≡ true
      go true h = refl
      go false h = h

  alone : (c : CastMark) (p : Poll) → on_poll p c ≡ true → (ps : List Poll) → list_any (same_resolution p) ps ≡ false → list_any (λ q. on_poll q c) ps ≡ false
  alone c p is [] apart = refl
  alone c p is (q ∷ ps) apart =
      let both = go (same_resolution p q) (list_any (same_resolution p) ps) apart in
      ap (λ k. k == q.resolution || list_any (λ r. on_poll r c) ps) (eqb-true c.resolution p.resolution is) ∙ ap (λ b. b || list_any (λ r. on_poll r c) ps) both.0 ∙ alone c p is ps both.1
    where
      go : (a b : Bool) → (a || b) ≡ false → (a ≡ false) × (b ≡ false)
      go true b h = absurd (true≢false h)
      go false b h = (refl, h)

  none_on : (c : CastMark) (ps : List Poll) → list_any (λ p. on_poll p c) ps ≡ false → list_all (λ p. one p c) ps ≡ true
  unfolding one
  none_on c [] none = refl
  none_on c (p ∷ ps) none = go (on_poll p c) none (none_on c ps)
    where
      go : (b : Bool) → (b || list_any (λ q. on_poll q c) ps) ≡ false → (list_any (λ q. on_poll q c) ps ≡ false → list_all (λ q. one q c) ps ≡ true) → (implies b (is_cast_on c p && few c) && list_all (λ q. one q c) ps) ≡ true
      go true h rest = absurd (true≢false h)
      go false h rest = rest h

  opposite : (a : Bool) → not a ≡ true → a ≡ false
  opposite true h = absurd (true≢false (sym h))
  opposite false h = refl

  each_one : (c : CastMark) (ps : List Poll) → differ_by same_resolution ps ≡ true → list_any (is_cast_on c) ps ≡ true → few c ≡ true → list_all (λ p. one p c) ps ≡ true
  unfolding one
  each_one c [] apart on small = absurd (true≢false (sym on))
  each_one c (p ∷ ps) apart on small =
      let parts = and_parts (not (list_any (same_resolution p) ps)) (differ_by same_resolution ps) apart in
      let others = opposite (list_any (same_resolution p) ps) parts.0 in
      elim (cases_Bool (is_cast_on c p)) [
        | inl is ↦
            let here = turned c p is in
            both_true (ap (λ b. implies b (is_cast_on c p && few c)) here ∙ both_true is small) (none_on c ps (alone c p here ps others))
        | inr other ↦
            let later : list_any (is_cast_on c) ps ≡ true = sym (ap (λ b. b || list_any (is_cast_on c) ps) other) ∙ on in
            let elsewhere : on_poll p c ≡ false = elim (cases_Bool (on_poll p c)) [
              | inl is ↦ absurd (true≢false (sym (on_any c ps later) ∙ alone c p is ps others))
              | inr not_here ↦ not_here
            ] in
            both_true (ap (λ b. implies b (is_cast_on c p && few c)) elsewhere) (each_one c ps parts.1 later small)
      ]

  pub parts_from : (ps : List Poll) → differ_by same_resolution ps ≡ true → are_casts ps all ≡ true → AllByRecursion (λ p. are_casts (p ∷ []) (filter (on_poll p) all) ≡ true) ps
  unfolding part few
  parts_from ps apart h =
      let both = and_parts (list_all (λ c. list_any (is_cast_on c) ps) all) (list_all few all) h in
      each_so to_part ps (each_of_pair one ps all (of_both (λ c. list_any (is_cast_on c) ps) few (λ c. list_all (λ p. one p c) ps) (λ c a b. each_one c ps apart a b) all both.0 both.1))
