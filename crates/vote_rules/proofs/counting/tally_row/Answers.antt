use Rattle.std.proofs.Common.{refl, sym, ◌∙◌}
use Rattle.std.specs.BTreeMap.{get}
use Rattle.vocabulary.specs.Names.{name_cmp}
use Rattle.proxy_rules.specs.Holdings.{holding_by}
use Rattle.vote_rules.specs.Tallies.{share_at}
use Rattle.vote_rules.proofs.AlikeLemmas.{row_alike}
use Rattle.vote_rules.proofs.counting.tally_row.Goals as goal

pub returns-in-Some : goal.returns-in-Some
returns-in-Some c =
    let row = c.args.row.now in
    let papers = c.args.papers.now in
    let last = get name_cmp c.args.instructed.now in
    let share = share_at c.args.cutoffs.now (holding_by papers.appointments.now papers.endings.now row) row.member in
    c.tally_alike.ensures
    ∙ sym (row_alike c.args.on_row.now last row c.in-Some.vote papers.authorities.now c.args.resolution share (λ place. refl) c.requires.few c.in-Some.ensures)
