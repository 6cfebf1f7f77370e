use Rattle.std.proofs.Common.{◌≡◌, ℕ, ap, ◌∙◌}
use Rattle.std.proofs.lemmas.List.{take_all}
use Rattle.std.specs.List.{flat_map}
use Rattle.std.specs.Ordering.{eq_by_cmp, nat_cmp}
use Rattle.std.specs.Set.{is_member}
use Rattle.share_blocks.proofs.RangeLemmas.{ends_of}
use Rattle.share_blocks.proofs.RangeLemmas.{cuts_are, cuts_rise}
use Rattle.share_blocks.proofs.plain.cuts_in_order.Goals as goal

-- the cuts are those at the ends of the covers
same : (c : goal.After-in_order_once) (q : ℕ) → is_member (eq_by_cmp nat_cmp) c.in_order_once.result.items q ≡ is_member (eq_by_cmp nat_cmp) (flat_map ends_of c.args.covers.now) q
same c q =
    c.in_order_once.ensures.same_members q
    ∙ ap (λ cuts. is_member (eq_by_cmp nat_cmp) cuts q)
    (c.loop-range.invariant ∙ ap (flat_map ends_of) (take_all c.loop-range.range-index c.args.covers.now c.loop-range-test.false))

pub returns-clause-in_order : goal.returns-clause-in_order
returns-clause-in_order c = cuts_rise c.args.covers.now c.in_order_once.result.items (same c) c.in_order_once.ensures.ascending

pub returns-clause-cuts : goal.returns-clause-cuts
returns-clause-cuts c = cuts_are c.args.covers.now c.in_order_once.result.items (same c)
