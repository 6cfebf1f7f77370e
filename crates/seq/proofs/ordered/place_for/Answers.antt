use Rattle.std.proofs.Common.{arith, sym, ◌∙◌}
use Rattle.seq.specs.Ordered.{key_before}
use Rattle.seq.proofs.Inserting.{place_some, place_none, place_bound}
use Rattle.seq.proofs.ordered.place_for.Goals as goal

pub returns-in-Some-clause-place : goal.returns-in-Some-clause-place
returns-in-Some-clause-place g c =
    omega (arith, place_some (key_before g.T.Keyed.key_of g.T.Key.Ord.cmp) c.args.value.now 0 c.in-Some.place c.args.values.now (sym c.first_after.ensures ∙ c.in-Some.is))

pub returns-in-Some-clause-bound : goal.returns-in-Some-clause-bound
returns-in-Some-clause-bound g c =
    let before = key_before g.T.Keyed.key_of g.T.Key.Ord.cmp in
    omega (arith, place_some before c.args.value.now 0 c.in-Some.place c.args.values.now (sym c.first_after.ensures ∙ c.in-Some.is), place_bound before c.args.value.now c.args.values.now)

pub returns-in-None-clause-place : goal.returns-in-None-clause-place
returns-in-None-clause-place g c =
    sym (place_none (key_before g.T.Keyed.key_of g.T.Key.Ord.cmp) c.args.value.now 0 c.args.values.now (sym c.first_after.ensures ∙ c.in-None.is))
