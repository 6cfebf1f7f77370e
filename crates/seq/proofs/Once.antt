-- The values that are left where each value of a list stays once.
use Rattle.std.proofs.Common.{◌≡◌, Bool, true, false, ◌||◌, cond, List, [], ◌∷◌, refl, sym, ap, ◌∙◌, Ordering}
use Rattle.std.specs.Prelude.{Contains, ◌↔◌}
use Rattle.std.specs.Bool.{Decides}
use Rattle.std.specs.Cmp.{IsTotalOrder, Equal-is}
use Rattle.std.specs.List.{dedup, list_any}
use Rattle.std.specs.Ordering.{eq_by_cmp, is_eq}
use Rattle.std.specs.Set.{is_member}
use Rattle.std.proofs.lemmas.Cmp.{tied_itself}
use Rattle.std.proofs.lemmas.Map.Made.{is_member-Decides}
use Rattle.seq.specs.Ordered.{IsExact}

both_or_one : (a b c : Bool) → b ≡ a → (a || c) ≡ (a || (b || c))
both_or_one true b c h = refl
both_or_one false b c h = sym (ap (λ d. d || c) h)

dedup_from-any : {X : Type 0} (same : X → X → Bool) (test : X → Bool) → ((a b : X) → same a b ≡ true → test a ≡ test b) → (x : X) (xs : List X) → list_any test (dedup same (x ∷ xs)) ≡ (test x || list_any test xs)
dedup_from-any same test alike x [] = refl
dedup_from-any same test alike x (y ∷ ys) = go (same y x) refl (dedup_from-any same test alike x ys) (dedup_from-any same test alike y ys)
  where
    go : (b : Bool) → same y x ≡ b → list_any test (dedup same (x ∷ ys)) ≡ (test x || list_any test ys) → list_any test (dedup same (y ∷ ys)) ≡ (test y || list_any test ys)
        → list_any test (cond b (dedup same (x ∷ ys)) (x ∷ dedup same (y ∷ ys))) ≡ (test x || (test y || list_any test ys))
    go true h without next = without ∙ both_or_one (test x) (test y) (list_any test ys) (alike y x h)
    go false h without next = ap (λ b. test x || b) next

-- a test that holds of equal values alike passes what stays exactly where it passes the list
pub list_any-dedup : {X : Type 0} (same : X → X → Bool) (test : X → Bool) → ((a b : X) → same a b ≡ true → test a ≡ test b) → (xs : List X) → list_any test (dedup same xs) ≡ list_any test xs
list_any-dedup same test alike [] = refl
list_any-dedup same test alike (x ∷ xs) = dedup_from-any same test alike x xs

-- lists that have equal values alike hold the same values, where equal values are the same
pub Contains-from_is_member : {X : Type 0} (order : X → X → Ordering) → IsExact order → IsTotalOrder order → (xs ys : List X) → ((q : X) → is_member (eq_by_cmp order) xs q ≡ is_member (eq_by_cmp order) ys q) → (x : X) → Contains xs x ↔ Contains ys x
Contains-from_is_member {X} order exact total xs ys same x =
    let decides : (a b : X) → Decides (eq_by_cmp order a b) (a ≡ b) = λ a b.
    (λ tied. exact a b ((Equal-is (order a b)).0 tied), λ is. ap (λ w. is_eq (order a w)) (sym is) ∙ ap is_eq (tied_itself total a)) in (
      λ has. (is_member-Decides decides ys x).0 (sym (same x) ∙ (is_member-Decides decides xs x).1 has),
      λ has. (is_member-Decides decides xs x).0 (same x ∙ (is_member-Decides decides ys x).1 has),
    )
