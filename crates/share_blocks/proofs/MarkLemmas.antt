-- Marks of numbers as a set.
use Rattle.std.proofs.Common.{◌≡◌, ℕ, zero, suc, ◌+◌, ◌-◌, ◌<◌, Bool, true, false, ◌||◌, List, [], ◌∷◌, length, replicate, set, get_or, refl, ap, sym, ◌∙◌, arith}
use Rattle.std.specs.Prelude.{◌==◌, nat_le}
use Rattle.std.specs.FinSet.{FinSet, contains, insert, from_list, contains-from_list_nat, contains-insert, same_set, nat_cmp-IsAntisymmetric}
use Rattle.std.specs.List.{list_any}
use Rattle.std.specs.Ordering.{nat_cmp, eq_by_cmp}
use Rattle.std.proofs.lemmas.Bool.Decides.{nat_tests}
use Rattle.std.proofs.lemmas.Cmp.{nat_cmp_total}
use Rattle.std.proofs.lemmas.List.{get_or-replicate}
use Rattle.share_blocks.specs.declared.tag.TheConstants.{MOST_TAGS}
use Rattle.seq.proofs.Booleans.{same_false, same_false_above}
use Rattle.std.proofs.lemmas.Bool.{eq-eqb, leb-true}
use Rattle.std.specs.Cmp.{first_so, second_so}
use Rattle.share_blocks.specs.Tags.{is_tag, marked_from}

-- whether a number is marked
abbrev is_marked : ℕ → List Bool → ℕ → Bool
is_marked first marks q = list_any (λ x. x == q) (marked_from first marks)

unmarked_before : (first : ℕ) (marks : List Bool) (q : ℕ) → q < first → is_marked first marks q ≡ false
unmarked_before first [] q low = refl
unmarked_before first (true ∷ marks) q low = ap (λ b. b || is_marked (first + 1) marks q) (same_false_above first q low) ∙ unmarked_before (first + 1) marks q (omega arith)
unmarked_before first (false ∷ marks) q low = unmarked_before (first + 1) marks q (omega arith)

-- a number is marked where its mark stands
is_marked-at : (first : ℕ) (marks : List Bool) (k q : ℕ) → first + k ≡ q → is_marked first marks q ≡ get_or marks k false
is_marked-at first [] k q is = refl
is_marked-at first (true ∷ marks) zero q is = ap (λ b. b || is_marked (first + 1) marks q) (eq-eqb first q (omega (arith, is)))
is_marked-at first (true ∷ marks) (suc k) q is =
    ap (λ b. b || is_marked (first + 1) marks q) (same_false first q (omega (arith, is))) ∙ is_marked-at (first + 1) marks k q (omega (arith, is))
is_marked-at first (false ∷ marks) zero q is = unmarked_before (first + 1) marks q (omega (arith, is))
is_marked-at first (false ∷ marks) (suc k) q is = is_marked-at (first + 1) marks k q (omega (arith, is))

or_once : (a b c : Bool) → a ≡ c → (a || b) ≡ (c || (a || b))
or_once true b c h = ap (λ d. d || true) h
or_once false b c h = ap (λ d. d || b) h

or_new : (a b c : Bool) → a ≡ c → (a || b) ≡ (c || b)
or_new a b c h = ap (λ d. d || b) h

or_swap : (a b c : Bool) → (a || (b || c)) ≡ (b || (a || c))
or_swap true true c = refl
or_swap true false c = refl
or_swap false b c = refl

-- one mark more
is_marked-set : (first : ℕ) (marks : List Bool) (k t q : ℕ) → k < length marks → first + k ≡ t → is_marked first (set marks k true) q ≡ ((t == q) || is_marked first marks q)
is_marked-set first [] k t q within is = absurd (omega arith)
is_marked-set first (true ∷ marks) zero t q within is =
    let e : first ≡ t = omega (arith, is) in or_once (first == q) (is_marked (first + 1) marks q) (t == q) (ap (λ n. n == q) e)
is_marked-set first (false ∷ marks) zero t q within is =
    let e : first ≡ t = omega (arith, is) in or_new (first == q) (is_marked (first + 1) marks q) (t == q) (ap (λ n. n == q) e)
is_marked-set first (true ∷ marks) (suc k) t q within is =
    ap (λ b. (first == q) || b) (is_marked-set (first + 1) marks k t q (omega arith) (omega (arith, is)))
    ∙ or_swap (first == q) (t == q) (is_marked (first + 1) marks q)
is_marked-set first (false ∷ marks) (suc k) t q within is = is_marked-set (first + 1) marks k t q (omega arith) (omega (arith, is))

tied_same : (q t : ℕ) → (t == q) ≡ eq_by_cmp nat_cmp q t
tied_same q t = grind (arith, nat_tests)

-- the set that the marks stand for
abbrev pub marked_set : List Bool → FinSet nat_cmp
marked_set marks = from_list (marked_from 1 marks)

-- a mark tells whether the set holds its number
pub contains-marked_set : (marks : List Bool) (k t : ℕ) → k + 1 ≡ t → contains (marked_set marks) t ≡ get_or marks k false
contains-marked_set marks k t is = contains-from_list_nat (marked_from 1 marks) t ∙ is_marked-at 1 marks k t (omega (arith, is))

-- one mark more puts its number in
pub marked_set-set : (marks : List Bool) (k t : ℕ) → k < length marks → k + 1 ≡ t → marked_set (set marks k true) ≡ insert (marked_set marks) t
marked_set-set marks k t within is =
    same_set nat_cmp_total nat_cmp-IsAntisymmetric (marked_set (set marks k true)) (insert (marked_set marks) t)
    (λ q.
    contains-from_list_nat (marked_from 1 (set marks k true)) q
    ∙ is_marked-set 1 marks k t q within (omega (arith, is))
    ∙ ap (λ b. b || is_marked 1 marks q) (tied_same q t)
    ∙ ap (λ b. eq_by_cmp nat_cmp q t || b) (sym (contains-from_list_nat (marked_from 1 marks) q))
    ∙ sym (contains-insert nat_cmp_total (marked_set marks) t q))

-- where all are marked, the set holds each tag
pub contains-all_marked : (n t : ℕ) → n ≡ MOST_TAGS → is_tag t ≡ true → contains (marked_set (replicate n true)) t ≡ true
contains-all_marked n t all tag =
    let low = leb-true 1 t (first_so (nat_le 1 t) (nat_le t MOST_TAGS) tag) in
    let high = leb-true t MOST_TAGS (second_so (nat_le 1 t) (nat_le t MOST_TAGS) tag) in
    contains-marked_set (replicate n true) (t - 1) t (omega (arith, low)) ∙ get_or-replicate n (t - 1) true false (omega (arith, all, low, high))
