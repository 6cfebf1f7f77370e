use Rattle.std.proofs.Common.{◌∙◌}
use Rattle.row_source.proofs.SourceRowLemmas.{persons_are}
use Rattle.row_source.proofs.SourceLookUpLemmas.{holds_so}
use Rattle.row_source.proofs.needed_rows.persons_alone.Goals as goal

pub returns : goal.returns
returns g c =
    let w = g.met.R.RowSource in
    holds_so _ _ _ _ _ _ _ c.in_ok-persons.persons _ _ _ c.in_ok-persons.ensures
    (λ found p. (λ i. record (c.no_own_rows.ensures i) { persons = p i }) ∙ persons_are found c.args.party)
