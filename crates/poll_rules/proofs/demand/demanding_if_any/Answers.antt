use Rattle.std.proofs.Common.{sym, ◌∙◌, rules}
use Rattle.poll_rules.specs.Acting.{is_one_of}
use Rattle.poll_rules.proofs.ActingLemmas.{none_demand}
use Rattle.poll_rules.proofs.demand.demanding_if_any.Goals as goal

pub returns-else-contains : goal.returns-else-contains
returns-else-contains c =
    let papers = c.args.papers.now in
    let row = c.args.row.now in
    none_demand (is_one_of c.args.demanders.now) c.args.cutoffs.now papers.appointments.now papers.endings.now papers.authorities.now row
    (sym (c.requires.members row.member) ∙ sym c.contains.ensures ∙ c.if-contains.false)

pub returns-then-contains : goal.returns-then-contains
returns-then-contains c = search rules
