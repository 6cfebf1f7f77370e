use Rattle.std.proofs.Common.{◌∙◌}
use Rattle.row_source.proofs.SourceRowLemmas.{nothing_is}
use Rattle.row_source.proofs.SourceLookUpLemmas.{holds_so}
use Rattle.row_source.proofs.needed_rows.none_of_them.Goals as goal

pub returns : goal.returns
returns g c =
    let w = g.met.R.RowSource in
    holds_so _ _ _ _ _ _ _ c.in_ok-presences_of.field-0 _ _ _ c.in_ok-presences_of.ensures
    (λ found p. c.no_own_rows.ensures ∙ nothing_is found c.args.party)
