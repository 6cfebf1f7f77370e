use Rattle.std.proofs.Common.{◌∙◌}
use Rattle.row_source.proofs.SourceRowLemmas.{count_is}
use Rattle.row_source.proofs.SourceLookUpLemmas.{holds_so}
use Rattle.row_source.proofs.needed_rows.count_alone.Goals as goal

pub returns : goal.returns
returns g c =
    let w = g.met.R.RowSource in
    holds_so _ _ _ _ _ _ _ c.in_ok-given_count.given_count _ _ _ c.in_ok-given_count.ensures
    (λ found p. (λ i. record (c.no_own_rows.ensures i) { given_count = p i }) ∙ count_is found c.args.party)
