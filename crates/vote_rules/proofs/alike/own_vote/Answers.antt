use Rattle.std.proofs.Common.{ap, sym, ◌∙◌}
use Rattle.std.specs.Prelude.{Some}
use Rattle.std.specs.BTreeMap.{get}
use Rattle.vocabulary.specs.Names.{name_cmp}
use Rattle.vote_rules.specs.Alike.{AllVote, way_of_newest}
use Rattle.vote_rules.proofs.AlikeLemmas.{none_there, own_alike, where_some}
use Rattle.vote_rules.proofs.alike.own_vote.Goals as goal

pub returns-then-not-casts_as_instructed : goal.returns-then-not-casts_as_instructed
returns-then-not-casts_as_instructed c =
    let row = c.args.row.now in
    let casts = c.args.on_row.now in
    let last = get name_cmp c.args.instructed.now in
    where_some c.way_of_newest.result (λ way. AllVote casts last row (Some way))
    (λ way is. own_alike casts last row way (sym c.is_individual.ensures ∙ c.if-is_individual.true) (none_there c.casts_as_instructed.result (last row.member) c.casts_as_instructed.ensures c.if-not-casts_as_instructed.true)
    (ap (λ n. way_of_newest n row.member casts) (sym c.shares.ensures) ∙ sym c.way_of_newest.ensures ∙ is))
