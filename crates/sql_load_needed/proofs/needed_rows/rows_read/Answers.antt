use Rattle.std.proofs.Common.{sym}
use Rattle.std.proofs.lemmas.Result.{on_ok_weaker}
use Rattle.sql_load_needed.proofs.LoadedPartyHomeLemmas.{of_returned}
use Rattle.sql_load_needed.proofs.needed_rows.rows_read.Goals as goal

pub returns-clause-holds : goal.returns-clause-holds
returns-clause-holds g c =
    let all = c.read_own_rows.ensures in
    let handed_back = c.tx-1.given.1 (sym all.left.0) in
    rw handed_back
    (of_returned g.S.Store _ _ c.read_own_rows.result c.args.meeting _ _ all.holds (on_ok_weaker c.read_own_rows.result (λ k. k.3) all.preserved) all.left.3
    (λ office rows is. is))
