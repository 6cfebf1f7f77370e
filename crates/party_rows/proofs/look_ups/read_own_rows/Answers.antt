use Rattle.std.proofs.Common.{Some, refl}
use Rattle.party_rows.proofs.PartyRowListLemmas.{if_ok}
use Rattle.party_rows.proofs.look_ups.read_own_rows.Goals as goal

pub returns : goal.returns
returns c = if_ok _ _ c.read_own_rows.result (λ made is. is) (c.read_own_rows.ensures.holds tt (Some c.args.lists.now) refl)
