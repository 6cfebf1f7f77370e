-- The numbers that endings name.
use Rattle.std.proofs.Common.{◌≡◌, ℕ, Bool, true, false, cond, refl, sym, ap, ◌∙◌, arith, true≢false}
use Rattle.std.specs.Prelude.{◌&&◌, ◌||◌, ◌==◌, Some, None}
use Rattle.std.specs.Option.{option_map_or}
use Rattle.std.specs.Ordering.{eq_by_cmp, nat_cmp}
use Rattle.std.proofs.lemmas.Bool.Decides.{nat_tests}
use Rattle.std.proofs.Math.Bool.{and-true, and-false}
use Rattle.std.proofs.lemmas.Bool.{eqb-true}
use Rattle.share_blocks.specs.Tags.{is_tag}

tied_same : (q t : ℕ) → eq_by_cmp nat_cmp q t ≡ (t == q)
tied_same q t = grind (arith, nat_tests)

-- a counted ending names the tag of its number
pub named : (b d : Bool) (n t q : ℕ) → Some t ≡ cond b (cond d (Some n) None) None → eq_by_cmp nat_cmp q t ≡ ((n == q) && b)
named true true n t q h = tied_same q t ∙ ap (λ x. x == q) (ap (λ o. option_map_or (λ x. x) o t) h) ∙ sym (and-true (n == q))
named true false n t q h = absurd (cc)
named false d n t q h = absurd (cc)

-- what names no tag ends none
pub not_named : (b d : Bool) (n q : ℕ) → is_tag q ≡ true → is_tag n ≡ d → None ≡ cond b (cond d (Some n) None) None → ((n == q) && b) ≡ false
not_named false d n q tag is h = and-false (n == q)
not_named true true n q tag is h = absurd (cc)
not_named true false n q tag is h =
    (elim (n == q) as (λ c. (n == q) ≡ c → (c && true) ≡ false) [
      | true ↦ λ e. absurd (true≢false (sym tag ∙ ap is_tag (sym (eqb-true n q e)) ∙ is))
      | false ↦ λ e. refl
    ]) refl

pub or_none : (a b : Bool) → b ≡ false → a ≡ (a || b)
or_none true b h = refl
or_none false b h = sym h
