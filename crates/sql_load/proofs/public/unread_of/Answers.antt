use Rattle.std.proofs.Common.{◌≡◌, Err, Some, ap, ◌∙◌, rules}
use Rattle.sql_schema.specs.Contents as table
use Rattle.sql_load.proofs.CountedRecordLemmas.{IsUnread, none_unread, unread_so}
use Rattle.sql_load.proofs.FoundRecordLemmas.{found_returned}
use Rattle.sql_load.proofs.PublicRecordLemmas.{AreLater, IsRow, meeting_row_so}
use Rattle.sql_load.proofs.StoredOfficeLemmas.{holds_after, holds_both, holds_refused, holds_so, holds_stop, made_returns}
use Rattle.sql_load.proofs.public.unread_of.Goals as goal

pub returns-in_err-rows-clause-holds : goal.returns-in_err-rows-clause-holds
returns-in_err-rows-clause-holds g c =
    let is : c.from_residual.result ≡ Err c.in_err-rows.field-0.0 = search rules in
    holds_stop g.S.Store _ _ (IsRow c.args.meeting) _ c.in_err-rows.field-0.0 c.from_residual.result is
    (found_returned g.S.Store c.args.tx.now.conn.now c.find.new.tx.conn.now (λ v. v.items) table.meetings (λ flat. flat.meetings) (λ trees flat held. held.meetings) _ c.find.result c.find.ensures.rows c.find.ensures.changes
    (Err c.in_err-rows.field-0.0) c.in_err-rows.ensures (IsRow c.args.meeting) (λ flat office of preserved. meeting_row_so c.args.meeting flat office of))

pub returns-in_default-clause-holds : goal.returns-in_default-clause-holds
returns-in_default-clause-holds g c =
    holds_so g.S.Store _ _ (IsRow c.args.meeting) _ c.in_ok-rows.rows _
    (found_returned g.S.Store c.args.tx.now.conn.now c.find.new.tx.conn.now (λ v. v.items) table.meetings (λ flat. flat.meetings) (λ trees flat held. held.meetings) _ c.find.result c.find.ensures.rows c.find.ensures.changes
    _ c.in_ok-rows.ensures (IsRow c.args.meeting) (λ flat office of preserved. meeting_row_so c.args.meeting flat office of))
    (λ office preserved row. none_unread office c.args.meeting c.in_ok-rows.rows c.args.count c.in_default.ensures row)

pub returns-in_err-later-clause-holds : goal.returns-in_err-later-clause-holds
returns-in_err-later-clause-holds g c =
    let is : c.from_residual-in_err-later.result ≡ Err c.in_err-later.field-0.0 = search rules in
    holds_after g.S.Store _ _ _ c.in_ok-rows.rows _ (IsRow c.args.meeting) _
    (found_returned g.S.Store c.args.tx.now.conn.now c.find.new.tx.conn.now (λ v. v.items) table.meetings (λ flat. flat.meetings) (λ trees flat held. held.meetings) _ c.find.result c.find.ensures.rows c.find.ensures.changes
    _ c.in_ok-rows.ensures (IsRow c.args.meeting) (λ flat office of preserved. meeting_row_so c.args.meeting flat office of))
    (holds_stop g.S.Store _ _ (AreLater c.args.meeting) _ c.in_err-later.field-0.0 c.from_residual-in_err-later.result is c.in_err-later.ensures.holds)

pub returns-in_err-resolutions-clause-holds : goal.returns-in_err-resolutions-clause-holds
returns-in_err-resolutions-clause-holds g c =
    let is : c.from_residual-in_err-resolutions.result ≡ Err c.in_err-resolutions.field-0.0 = search rules in
    holds_refused g.S.Store _ _ (λ office later. IsRow c.args.meeting office c.in_ok-rows.rows × AreLater c.args.meeting office later) _ c.in_ok-later.later c.in_err-resolutions.field-0.0 c.from_residual-in_err-resolutions.result is
    (holds_both g.S.Store _ _ _ c.in_ok-rows.rows c.in_ok-later.later (IsRow c.args.meeting) (AreLater c.args.meeting)
    (found_returned g.S.Store c.args.tx.now.conn.now c.find.new.tx.conn.now (λ v. v.items) table.meetings (λ flat. flat.meetings) (λ trees flat held. held.meetings) _ c.find.result c.find.ensures.rows c.find.ensures.changes
    _ c.in_ok-rows.ensures (IsRow c.args.meeting) (λ flat office of preserved. meeting_row_so c.args.meeting flat office of))
    c.in_ok-later.ensures.holds)
    (λ office preserved p. made_returns (IsUnread c.args.meeting c.args.count office) (Err c.in_err-resolutions.field-0.0) c.in_err-resolutions.ensures)

pub returns-clause-holds : goal.returns-clause-holds
returns-clause-holds g c =
    holds_so g.S.Store _ _ (λ office later. IsRow c.args.meeting office c.in_ok-rows.rows × AreLater c.args.meeting office later) _ c.in_ok-later.later _
    (holds_both g.S.Store _ _ _ c.in_ok-rows.rows c.in_ok-later.later (IsRow c.args.meeting) (AreLater c.args.meeting)
    (found_returned g.S.Store c.args.tx.now.conn.now c.find.new.tx.conn.now (λ v. v.items) table.meetings (λ flat. flat.meetings) (λ trees flat held. held.meetings) _ c.find.result c.find.ensures.rows c.find.ensures.changes
    _ c.in_ok-rows.ensures (IsRow c.args.meeting) (λ flat office of preserved. meeting_row_so c.args.meeting flat office of))
    c.in_ok-later.ensures.holds)
    (λ office preserved p may. ap (λ m. Some m) c.whole_meeting.ensures
    ∙ unread_so c.args.meeting office c.in_ok-rows.rows c.in-Some.row c.in-Some.ensures p.0 c.in_ok-later.later p.1 c.args.count c.in_ok-resolutions.resolutions c.in_ok-resolutions.ensures may)
