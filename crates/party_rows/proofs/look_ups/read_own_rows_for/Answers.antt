use Rattle.std.proofs.Common.{Some, refl, ap, ◌∙◌}
use Rattle.party_views.specs.RowsRead.{own_rows_part}
use Rattle.party_views.specs.PartyRows as rows
use Rattle.party_views.specs.declared.reads.Reads.{Reads}
use Rattle.party_rows.proofs.PartyRowListLemmas.{if_ok}
use Rattle.party_rows.proofs.look_ups.read_own_rows_for.Goals as goal

pub returns : goal.returns
returns c =
    let all = rows.own_rows c.args.lists.now c.args.party in
    if_ok _ _ c.read_own_rows.result (λ made is. is ∙ ap (λ (what : Reads). own_rows_part what all) c.reads_of.ensures) (c.read_own_rows.ensures.holds tt (Some c.args.lists.now) refl)
