use Rattle.std.proofs.Common.{◌∙◌}
use Rattle.row_source.proofs.SourceRowLemmas.{presence_is}
use Rattle.row_source.proofs.SourceLookUpLemmas.{holds_so}
use Rattle.row_source.proofs.needed_rows.presence_alone.Goals as goal

pub returns : goal.returns
returns g c =
    let w = g.met.R.RowSource in
    holds_so _ _ _ _ _ _ _ c.in_ok-presences.presences _ _ _ c.in_ok-presences.ensures
    (λ found p. (λ i. record (c.no_own_rows.ensures i) { presences = p i }) ∙ presence_is found c.args.party)
