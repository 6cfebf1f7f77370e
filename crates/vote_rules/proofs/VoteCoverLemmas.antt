-- Covers of a voter's casts.
use Rattle.std.proofs.Common.{◌≡◌, ℕ, Bool, true, false, ◌||◌, cond, refl, sym, ap, ◌∙◌, arith}
use Rattle.std.specs.Prelude.{Option, Some, None, ◌==◌, is_some}
use Rattle.std.specs.FinSet as set
use Rattle.std.specs.Ordering.{eq_by_cmp, nat_cmp}
use Rattle.std.proofs.lemmas.Cmp.{nat_cmp_total}
use Rattle.std.proofs.lemmas.Bool.Decides.{nat_tests}
use Rattle.vocabulary.specs.declared.kinds.Way.{Way}
use Rattle.vocabulary.specs.declared.kinds.Way.TheVariants.{For, Against, Withheld}
use Rattle.vote_rules.specs.VoteCovers.{way_tagged}

-- ---- the tags that have a way

tied_same : (q t : ℕ) → eq_by_cmp nat_cmp q t ≡ (q == t)
tied_same q t = grind (arith, nat_tests)

some_if : {X : Type 0} (b : Bool) (x : X) (o : Option X) → is_some (cond b (Some x) o) ≡ (b || is_some o)
some_if true x o = refl
some_if false x o = refl

pub instructed_too : (b : Bool) (o : Option Way) → true ≡ is_some o → (b || false) ≡ is_some (cond b o None)
instructed_too true o some = some
instructed_too false o some = refl

pub ways_alone : (b : Bool) (o : Option Way) → false ≡ is_some o → false ≡ is_some (cond b o None)
ways_alone true o none = none
ways_alone false o none = refl

module _ (tag : ℕ) where
  pub one_tag : (s : set.FinSet nat_cmp) (number : ℕ) → set.contains (set.insert s number) tag ≡ ((tag == number) || set.contains s tag)
  one_tag s number = set.contains-insert nat_cmp_total s number tag ∙ ap (λ b. b || set.contains s tag) (tied_same tag number)

  -- the three tags of ways, and what else there is
  pub admitted_tags : (s : set.FinSet nat_cmp) (instructed : Option Way) → set.contains s tag ≡ is_some (cond (tag == 4) instructed None)
      → set.contains (set.insert (set.insert (set.insert s 3) 2) 1) tag ≡ is_some (way_tagged instructed tag)
  admitted_tags s instructed last =
      one_tag (set.insert (set.insert s 3) 2) 1
      ∙ ap (λ b. (tag == 1) || b) (one_tag (set.insert s 3) 2 ∙ ap (λ b. (tag == 2) || b) (one_tag s 3 ∙ ap (λ b. (tag == 3) || b) last))
      ∙ sym
      (some_if (tag == 1) For (cond (tag == 2) (Some Against) (cond (tag == 3) (Some Withheld) (cond (tag == 4) instructed None)))
      ∙ ap (λ b. (tag == 1) || b)
      (some_if (tag == 2) Against (cond (tag == 3) (Some Withheld) (cond (tag == 4) instructed None))
      ∙ ap (λ b. (tag == 2) || b) (some_if (tag == 3) Withheld (cond (tag == 4) instructed None))))
