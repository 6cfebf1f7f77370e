use Rattle.std.proofs.Common.{arith, sym, ◌∙◌}
use Rattle.vote_rules.specs.InstructedCasts.{is_from_member}
use Rattle.vote_rules.proofs.SortedBlocks.{place_bound, place_none, place_some}
use Rattle.vote_rules.proofs.received.count_before.Goals as goal

pub returns-in-Some-clause-count : goal.returns-in-Some-clause-count
returns-in-Some-clause-count c =
    omega (arith, place_some (is_from_member c.args.member) 0 c.in-Some.place c.args.blocks.now (sym c.first_from.ensures ∙ c.in-Some.is))

pub returns-in-Some-clause-bound : goal.returns-in-Some-clause-bound
returns-in-Some-clause-bound c =
    let test = is_from_member c.args.member in
    omega (arith, place_some test 0 c.in-Some.place c.args.blocks.now (sym c.first_from.ensures ∙ c.in-Some.is), place_bound test c.args.blocks.now)

pub returns-in-None-clause-count : goal.returns-in-None-clause-count
returns-in-None-clause-count c =
    sym (place_none (is_from_member c.args.member) 0 c.args.blocks.now (sym c.first_from.ensures ∙ c.in-None.is))
