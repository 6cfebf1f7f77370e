use Rattle.std.proofs.Common.{ap, ◌∙◌}
use Rattle.row_source.specs.LookUps.{member_with}
use Rattle.row_source.proofs.SourceLookUpLemmas.{holds_then}
use Rattle.row_source.proofs.members.member_rows.Goals as goal

pub returns : goal.returns
returns g c =
    let w = g.met.R.RowSource in
    holds_then _ _ _ _ _ w.still_shows w.was_trusted w.keeps_then w.leaves_then _ _ _ c.in_ok-claims.claims c.member_with.result _ _ _ (λ found rows claims with. with ∙ ap (member_with found c.args.member) claims) c.in_ok-claims.ensures c.member_with.ensures
