-- The votes of each voter, counted once for each poll.
use Rattle.std.proofs.Common.{◌≡◌, ℕ, ◌+◌, ◌<◌, length, get_or, take, Bool, true, false, not, ◌||◌, ◌&&◌, ◌==◌, List, [], ◌∷◌, refl, ap, sym, ◌∙◌, arith, inl, inr}
use Rattle.std.specs.Prelude.{count_by, is_some, nat_le}
use Rattle.std.specs.List.{list_all, list_any}
use Rattle.std.specs.Cmp.{first_so, second_so}
use Rattle.std.specs.Cmp.Derive.{both_true}
use Rattle.std.proofs.lemmas.Bool.{cases_Bool, eqb-true, or_parts}
use Rattle.std.proofs.lemmas.Bool.Decides.{nat_tests}
use Rattle.std.proofs.lemmas.List.Folds.{list_all_more}
use Rattle.vocabulary.specs.Names.{same_name}
use Rattle.desk_words.proofs.WordRowLemmas.{same_name-true}
use Rattle.desk_words.specs.Office.{is_cast_on, same_ballot}
use Rattle.desk_words.specs.declared.limits.TheConstants.{MOST_CASTS}
use Rattle.desk_words.specs.declared.records.CastMark.{CastMark}
use Rattle.desk_words.specs.declared.records.Poll.{Poll}
use Rattle.office_validation.proofs.ValidKeyLemmas.{counted-any}

-- the vote is the voter's, on the resolution
abbrev pub is_by : ℕ → List ℕ → CastMark → Bool
is_by resolution voter d = d.resolution == resolution && same_name d.voter voter

-- the voter cast `MOST_CASTS` votes at most on the resolution
abbrev pub few_on : List CastMark → List ℕ → ℕ → Bool
few_on casts voter resolution = nat_le (count_by (is_by resolution voter) casts) MOST_CASTS

-- that is so on the resolution of each poll
abbrev pub few_by : List Poll → List CastMark → List ℕ → Bool
few_by polls casts voter = list_all (λ (p : Poll). few_on casts voter p.resolution) polls

-- it is so of the voter of each vote
abbrev pub few_each : List Poll → List CastMark → List CastMark → Bool
few_each polls casts some = list_all (λ (c : CastMark). few_by polls casts c.voter) some

few_there : (polls : List Poll) (casts : List CastMark) (c : CastMark) → few_by polls casts c.voter ≡ true → list_any (is_cast_on c) polls ≡ true → few_on casts c.voter c.resolution ≡ true
few_there [] casts c few on = absurd (cc)
few_there (p ∷ ps) casts c few on =
    let first = first_so (few_on casts c.voter p.resolution) (few_by ps casts c.voter) few in
    let rest = second_so (few_on casts c.voter p.resolution) (few_by ps casts c.voter) few in
    elim (cases_Bool (is_cast_on c p)) [
      | inl here ↦ ap (few_on casts c.voter) (sym (eqb-true p.resolution c.resolution (first_so (p.resolution == c.resolution) (is_some p.started) here))) ∙ first
      | inr elsewhere ↦ few_there ps casts c rest (sym (ap (λ b. b || list_any (is_cast_on c) ps) elsewhere) ∙ on)
    ]

-- where each voter cast few on each poll, and each vote is on one of them, each ballot is few
pub few_ballots : (polls : List Poll) (casts some : List CastMark) → list_all (λ c. list_any (is_cast_on c) polls) some ≡ true → few_each polls casts some ≡ true
    → list_all (λ (c : CastMark). few_on casts c.voter c.resolution) some ≡ true
few_ballots polls casts [] on few = refl
few_ballots polls casts (c ∷ cs) on few =
    both_true
    (few_there polls casts c (first_so (few_by polls casts c.voter) (few_each polls casts cs) few) (first_so (list_any (is_cast_on c) polls) (list_all (λ d. list_any (is_cast_on d) polls) cs) on))
    (few_ballots polls casts cs (second_so (list_any (is_cast_on c) polls) (list_all (λ d. list_any (is_cast_on d) polls) cs) on) (second_so (few_by polls casts c.voter) (few_each polls casts cs) few))

no_matter : (b : Bool) → (b && false) ≡ false
no_matter true = refl
no_matter false = refl

-- a value that passes one test and fails another
fails_one : {X : Type 0} (p q : X → Bool) (xs : List X) → ((x : X) → p x ≡ true → q x ≡ false) → list_any p xs ≡ true → list_all q xs ≡ false
fails_one p q [] k h = absurd (cc)
fails_one p q (x ∷ xs) k h = elim (cases_Bool (p x)) [
  | inl here ↦ ap (λ b. b && list_all q xs) (k x here)
  | inr elsewhere ↦ ap (λ b. q x && b) (fails_one p q xs k (sym (ap (λ b. b || list_any p xs) elsewhere) ∙ h)) ∙ no_matter (q x)
]

some_of_many : (n most : ℕ) → nat_le n most ≡ false → nat_le 1 n ≡ true
some_of_many n most h = grind (arith, nat_tests)

-- votes that are too many on one resolution are those of a voter
many_on : (casts : List CastMark) (voter : List ℕ) (resolution : ℕ) → few_on casts voter resolution ≡ false → list_all (λ (c : CastMark). few_on casts c.voter c.resolution) casts ≡ false
many_on casts voter resolution many =
    fails_one (is_by resolution voter) (λ (c : CastMark). few_on casts c.voter c.resolution) casts
    (λ d by.
    (let r = eqb-true d.resolution resolution (first_so (d.resolution == resolution) (same_name d.voter voter) by) in
    let v = same_name-true d.voter voter (second_so (d.resolution == resolution) (same_name d.voter voter) by) in
    ap (few_on casts d.voter) r ∙ ap (λ w. few_on casts w resolution) v ∙ many))
    (sym (counted-any (is_by resolution voter) casts) ∙ some_of_many (count_by (is_by resolution voter) casts) MOST_CASTS many)

-- where a voter cast too many on a poll, some ballot is too large
pub many_ballots : (polls : List Poll) (casts : List CastMark) (voter : List ℕ) → few_by polls casts voter ≡ false → list_all (λ (c : CastMark). few_on casts c.voter c.resolution) casts ≡ false
many_ballots [] casts voter many = absurd (cc)
many_ballots (p ∷ ps) casts voter many = elim (cases_Bool (few_on casts voter p.resolution)) [
  | inl few ↦ many_ballots ps casts voter (sym (ap (λ b. b && few_by ps casts voter) few) ∙ many)
  | inr here ↦ many_on casts voter p.resolution here
]

-- what is so of the voters of earlier votes is so of one of them
pub few_before : (polls : List Poll) (casts some : List CastMark) (voter : List ℕ) → few_each polls casts some ≡ true → list_any (λ (d : CastMark). same_name d.voter voter) some ≡ true
    → few_by polls casts voter ≡ true
few_before polls casts [] voter few before = absurd (cc)
few_before polls casts (c ∷ cs) voter few before = elim (cases_Bool (same_name c.voter voter)) [
  | inl same ↦ ap (few_by polls casts) (sym (same_name-true c.voter voter same)) ∙ first_so (few_by polls casts c.voter) (few_each polls casts cs) few
  | inr other ↦ few_before polls casts cs voter (second_so (few_by polls casts c.voter) (few_each polls casts cs) few) (sym (ap (λ b. b || list_any (λ (d : CastMark). same_name d.voter voter) cs) other) ∙ before)
]

not-false : (b : Bool) → not b ≡ false → b ≡ true
not-false true h = refl
not-false false h = absurd (cc)

-- a vote is not the first of its voter: an earlier one is
pub few-earlier : (polls : List Poll) (casts items : List CastMark) (i : ℕ) (c : CastMark) (first : Bool) → items ≡ casts → few_each polls items (take i items) ≡ true
    → first ≡ not (list_any (λ (d : CastMark). same_name d.voter c.voter) (take i casts)) → first ≡ false → few_by polls casts c.voter ≡ true
few-earlier polls casts items i c first same few is later =
    let before = not-false (list_any (λ (d : CastMark). same_name d.voter c.voter) (take i casts)) (sym is ∙ later) in
    ap (λ l. few_by polls l c.voter) (sym same) ∙ few_before polls items (take i items) c.voter few (ap (λ l. list_any (λ (d : CastMark). same_name d.voter c.voter) (take i l)) same ∙ before)

pub few-more : (polls : List Poll) (casts items : List CastMark) (i : ℕ) (c : CastMark) → items ≡ casts → i < length items → c ≡ get_or items i c → few_each polls items (take i items) ≡ true
    → few_by polls casts c.voter ≡ true → few_each polls items (take (i + 1) items) ≡ true
few-more polls casts items i c same within is few next =
    list_all_more (λ (d : CastMark). few_by polls items d.voter) items i c within
    ∙ both_true few (ap (λ (d : CastMark). few_by polls items d.voter) (sym is) ∙ ap (λ l. few_by polls l c.voter) same ∙ next)
