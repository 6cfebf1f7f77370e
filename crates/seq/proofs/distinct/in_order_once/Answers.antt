use Rattle.std.proofs.Common.{◌≡◌, get_or, Contains, sym, ap, ◌∙◌, subst}
use Rattle.std.specs.Cmp.{Equal-is, eq_by_cmp_equiv}
use Rattle.std.specs.List.{dedup, list_any}
use Rattle.std.specs.List.Sorted.{IsStrictlySortedBy}
use Rattle.std.specs.Ordering.{eq_by_cmp, is_eq}
use Rattle.std.specs.Set.{is_member}
use Rattle.std.proofs.lemmas.Cmp.{alike_right}
use Rattle.std.proofs.lemmas.List.Elements.{Contains-get_or}
use Rattle.std.proofs.lemmas.List.Filters.{dedup_is}
use Rattle.std.proofs.lemmas.List.Kept.{IsStrictlySortedBy-dedup, Contains-from_dedup}
use Rattle.std.proofs.lemmas.List.Sorted.{Contains-permutation, IsPermutation-sym, list_any-IsPermutation}
use Rattle.std.proofs.lemmas.Map.Keys.{IsDistinct-from_sorted}
use Rattle.std.proofs.lemmas.Map.Made.{length-from_keys}
use Rattle.seq.proofs.Ascending.{ascends-from_sorted}
use Rattle.seq.proofs.Once.{list_any-dedup, Contains-from_is_member}
use Rattle.seq.proofs.distinct.in_order_once.Goals as goal

module _ (g : _) (c : goal.After-dedup g) where
  left : c.dedup.new.self.items ≡ dedup g.T.PartialEq.eq c.sort_unstable.new.self.items
  left = dedup_is g.T.PartialEq.eq _ _ c.dedup.ensures.filtered

  strict : IsStrictlySortedBy g.T.Ord.cmp c.dedup.new.self.items
  strict = subst (IsStrictlySortedBy g.T.Ord.cmp) (sym left) (IsStrictlySortedBy-dedup g.met.T.Ord.total g.met.T.Ord.matches_eq c.sort_unstable.new.self.items c.sort_unstable.ensures.sorted)

  preserved : (x : _) → is_member (eq_by_cmp g.T.Ord.cmp) c.dedup.new.self.items x ≡ is_member (eq_by_cmp g.T.Ord.cmp) c.args.values.items x
  preserved x =
      ap (list_any (eq_by_cmp g.T.Ord.cmp x)) left
      ∙ list_any-dedup g.T.PartialEq.eq (eq_by_cmp g.T.Ord.cmp x)
      (λ a b same. ap is_eq (alike_right g.met.T.Ord.total a b x ((Equal-is (g.T.Ord.cmp a b)).0 (sym (g.met.T.Ord.matches_eq a b) ∙ same))))
      c.sort_unstable.new.self.items
      ∙ sym (list_any-IsPermutation (eq_by_cmp g.T.Ord.cmp x) c.args.values.items c.sort_unstable.new.self.items c.sort_unstable.ensures.permutation)

pub returns-clause-ascending : goal.returns-clause-ascending
returns-clause-ascending g c = ascends-from_sorted g.T.Ord.cmp c.dedup.new.self.items (strict g c)

pub returns-clause-drawn : goal.returns-clause-drawn
returns-clause-drawn g c =
    λ k d within.
    let x = get_or c.dedup.new.self.items k d in
    let has : Contains (dedup g.T.PartialEq.eq c.sort_unstable.new.self.items) x = subst (λ l. Contains l x) (left g c) (Contains-get_or c.dedup.new.self.items k d within) in
    Contains-permutation c.sort_unstable.new.self.items c.args.values.items x (IsPermutation-sym _ _ c.sort_unstable.ensures.permutation) (Contains-from_dedup g.T.PartialEq.eq c.sort_unstable.new.self.items x has)

pub returns-clause-same_members : goal.returns-clause-same_members
returns-clause-same_members g c = preserved g c

pub returns-clause-count : goal.returns-clause-count
returns-clause-count g c =
    c.dedup.new.self.ok.0
    ∙ length-from_keys (eq_by_cmp_equiv g.met.T.Ord.total) c.dedup.new.self.items c.args.values.items (IsDistinct-from_sorted g.T.Ord.cmp c.dedup.new.self.items (strict g c)) (preserved g c)

pub returns-clause-same_values : goal.returns-clause-same_values
returns-clause-same_values g c = λ exact. Contains-from_is_member g.T.Ord.cmp exact g.met.T.Ord.total c.dedup.new.self.items c.args.values.items (preserved g c)
