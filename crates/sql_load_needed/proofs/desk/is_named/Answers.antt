use Rattle.std.proofs.Common.{◌≡◌, Err, ap, ◌∙◌, rules}
use Rattle.std.specs.Prelude.{is_some}
use Rattle.sql_schema.specs.Contents as table
use Rattle.sql_load.proofs.FoundRecordLemmas.{found_returned}
use Rattle.sql_load.proofs.StoredOfficeLemmas.{holds_so, holds_stop}
use Rattle.sql_load_needed.proofs.LoadedMeetingCountLemmas.{IsNamed, named_so}
use Rattle.sql_load_needed.proofs.desk.is_named.Goals as goal

pub returns-in_err-rows-clause-holds : goal.returns-in_err-rows-clause-holds
returns-in_err-rows-clause-holds g c =
    let is : c.from_residual.result ≡ Err c.in_err-rows.field-0.0 = search rules in
    holds_stop g.S.Store _ _ (IsNamed c.args.meeting) _ c.in_err-rows.field-0.0 c.from_residual.result is
    (found_returned g.S.Store c.args.tx.now.conn.now c.find.new.tx.conn.now (λ v. v.items) table.meetings (λ flat. flat.meetings) (λ trees flat held. held.meetings) _ c.find.result c.find.ensures.rows c.find.ensures.changes
    (Err c.in_err-rows.field-0.0) c.in_err-rows.ensures (IsNamed c.args.meeting) (λ flat office of preserved. named_so c.args.meeting flat office of))

pub returns-clause-holds : goal.returns-clause-holds
returns-clause-holds g c =
    holds_so g.S.Store _ _ (IsNamed c.args.meeting) _ c.in_ok-rows.rows _
    (found_returned g.S.Store c.args.tx.now.conn.now c.find.new.tx.conn.now (λ v. v.items) table.meetings (λ flat. flat.meetings) (λ trees flat held. held.meetings) _ c.find.result c.find.ensures.rows c.find.ensures.changes
    _ c.in_ok-rows.ensures (IsNamed c.args.meeting) (λ flat office of preserved. named_so c.args.meeting flat office of))
    (λ office preserved named. c.is_some.ensures ∙ ap is_some c.first.ensures ∙ named)
