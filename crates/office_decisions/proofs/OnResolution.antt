-- The polls and the votes on one resolution, of those of a meeting.
use Rattle.std.proofs.Common.{◌≡◌, ℕ, ◌≤◌, Bool, true, false, ◌&&◌, cond, List, [], ◌∷◌, filter, find, Some, refl, sym, ap, ◌∙◌, arith}
use Rattle.std.specs.Prelude.{◌==◌, count_by, is_some, nat_le}
use Rattle.std.specs.Cmp.{first_so, second_so}
use Rattle.std.specs.Cmp.Derive.{both_true}
use Rattle.std.specs.List.{list_all, list_any}
use Rattle.std.specs.Ordering.{is_lt, nat_cmp}
use Rattle.std.proofs.lemmas.Bool.{and_from, eqb-true}
use Rattle.std.proofs.lemmas.Bool.Decides.{nat_tests}
use Rattle.std.proofs.lemmas.Cmp.{nat_cmp_total}
use Rattle.std.proofs.lemmas.List.Sums.{sum_by-cons}
use Rattle.seq.specs.Ordered.{ascends_by}
use Rattle.seq.proofs.Ascending.{ascends_by-filter}
use Rattle.seq.proofs.Filtered.{all-filter, any-filter}
use Rattle.seq.proofs.Numbers.{is_lt-nat_cmp}
use Rattle.desk_words.specs.Finding.{poll_on}
use Rattle.desk_words.specs.Office.{are_casts, are_polls, is_cast_on, is_poll, poll_before, same_ballot}
use Rattle.desk_words.specs.declared.limits.TheConstants.{MOST_CASTS}
use Rattle.desk_words.specs.declared.records.CastMark.{CastMark}
use Rattle.desk_words.specs.declared.records.Meeting.{Meeting}
use Rattle.desk_words.specs.declared.records.Poll.{Poll}
use Rattle.vote_rules.specs.TallyLaws.{casts_on}

abbrev pub is_on : ℕ → Poll → Bool
is_on resolution poll = poll.resolution == resolution

-- ---- what a test keeps

-- what is found is found among what passes
find-filtered : {X : Type 0} (test : X → Bool) (xs : List X) → find test (filter test xs) ≡ find test xs
find-filtered test [] = refl
find-filtered test (x ∷ xs) =
    (elim (test x) as (λ b. test x ≡ b → find test (cond b (x ∷ filter test xs) (filter test xs)) ≡ cond b (Some x) (find test xs)) [
      | true ↦ λ passes. ap (λ b. cond b (Some x) (find test (filter test xs))) passes
      | false ↦ λ fails. find-filtered test xs
    ]) refl

-- what is kept passes what follows from both tests
all_filtered : {X : Type 0} (keeps p q : X → Bool) (xs : List X) → ((x : X) → keeps x ≡ true → p x ≡ true → q x ≡ true) → list_all p xs ≡ true → list_all q (filter keeps xs) ≡ true
all_filtered keeps p q [] follows all = refl
all_filtered keeps p q (x ∷ xs) follows all =
    let rest = all_filtered keeps p q xs follows (second_so (p x) (list_all p xs) all) in
    (elim (keeps x) as (λ b. keeps x ≡ b → list_all q (cond b (x ∷ filter keeps xs) (filter keeps xs)) ≡ true) [
      | true ↦ λ preserved. and_from (q x) (list_all q (filter keeps xs)) (follows x preserved (first_so (p x) (list_all p xs) all)) rest
      | false ↦ λ left. rest
    ]) refl

-- no more values pass of those that are kept
fewer_filtered : {X : Type 0} (p keeps : X → Bool) (xs : List X) → count_by p (filter keeps xs) ≤ count_by p xs
fewer_filtered p keeps [] = omega (arith)
fewer_filtered p keeps (x ∷ xs) =
    let rest = fewer_filtered p keeps xs in
    let all = sum_by-cons (λ y. cond (p y) 1 0) x xs in
    let preserved = sum_by-cons (λ y. cond (p y) 1 0) x (filter keeps xs) in
    elim (keeps x) as (λ b. count_by p (cond b (x ∷ filter keeps xs) (filter keeps xs)) ≤ count_by p (x ∷ xs))
    [ true ↦ omega (arith, rest, all, preserved) | false ↦ omega (arith, rest, all) ]

-- ---- polls

-- the poll on a resolution is found among the polls on it
pub poll_preserved : (resolution : ℕ) (polls : List Poll) → poll_on (filter (is_on resolution) polls) resolution ≡ poll_on polls resolution
poll_preserved resolution polls = find-filtered (is_on resolution) polls

by_number : (polls : List Poll) → ascends_by (λ (a b : Poll). is_lt (nat_cmp a.resolution b.resolution)) polls ≡ ascends_by poll_before polls
by_number polls = ap (λ before. ascends_by before polls) (λ i (a b : Poll). is_lt-nat_cmp a.resolution b.resolution i)

-- the polls on a resolution are polls of the meeting
pub polls_preserved : (m : Meeting) (resolution : ℕ) (polls : List Poll) → are_polls m polls ≡ true → are_polls m (filter (is_on resolution) polls) ≡ true
polls_preserved m resolution polls h =
    let all = first_so (list_all (is_poll m) polls) (ascends_by poll_before polls) h in
    let up = second_so (list_all (is_poll m) polls) (ascends_by poll_before polls) h in
    both_true (all-filter (is_poll m) (is_on resolution) polls all)
    (sym (by_number (filter (is_on resolution) polls)) ∙ ascends_by-filter nat_cmp_total (λ (poll : Poll). poll.resolution) (is_on resolution) polls (by_number polls ∙ up))

-- ---- votes

twice : (a b : Bool) → (a && (a && b)) ≡ (a && b)
twice true b = refl
twice false b = refl

-- a vote on the resolution is on one of the polls on it
poll_of_vote : (resolution : ℕ) (polls : List Poll) (mark : CastMark) → (mark.resolution == resolution) ≡ true → list_any (is_cast_on mark) polls ≡ true → list_any (is_cast_on mark) (filter (is_on resolution) polls) ≡ true
poll_of_vote resolution polls mark on some =
    let same : mark.resolution ≡ resolution = eqb-true mark.resolution resolution on in
    any-filter (is_cast_on mark) (is_on resolution) polls
    ∙ ap (λ number. list_any (λ (poll : Poll). (poll.resolution == number) && is_cast_on mark poll) polls) (sym same)
    ∙ ap (λ test. list_any test polls) (λ i (poll : Poll). twice (poll.resolution == mark.resolution) (is_some poll.started) i)
    ∙ some

-- the votes on a resolution are votes on the polls on it
pub casts_preserved : (resolution : ℕ) (polls : List Poll) (casts : List CastMark) → are_casts polls casts ≡ true → are_casts (filter (is_on resolution) polls) (casts_on resolution casts) ≡ true
casts_preserved resolution polls casts h =
    let keeps : CastMark → Bool = λ mark. mark.resolution == resolution in
    let placed : CastMark → Bool = λ mark. list_any (is_cast_on mark) polls in
    let few : List CastMark → CastMark → Bool = λ all mark. nat_le (count_by (λ other. same_ballot other mark) all) MOST_CASTS in
    both_true
    (all_filtered keeps placed (λ mark. list_any (is_cast_on mark) (filter (is_on resolution) polls)) casts (poll_of_vote resolution polls) (first_so (list_all placed casts) (list_all (few casts) casts) h))
    (all_filtered keeps (few casts) (few (casts_on resolution casts)) casts
    (λ mark on fits. (let fewer = fewer_filtered (λ other. same_ballot other mark) keeps casts in grind (arith, nat_tests, fewer, fits)))
    (second_so (list_all placed casts) (list_all (few casts) casts) h))
