use Rattle.std.proofs.Common.{◌≡◌, Err, Some, ap, ◌∙◌, rules}
use Rattle.std.specs.Prelude.{Option, option_map}
use Rattle.desk_words.specs.Finding.{meeting_named}
use Rattle.desk_words.specs.declared.office.MeetingLists.{MeetingLists}
use Rattle.desk_words.specs.declared.records.Meeting.{Meeting}
use Rattle.sql_schema.specs.Contents as table
use Rattle.sql_load.proofs.FoundRecordLemmas.{found_returned, items_returned}
use Rattle.sql_load.proofs.PublicRecordLemmas.{AreLater, AreResolutions, IsRow, meeting_row_so, meeting_so, no_meeting, resolutions_so, resolutions_return}
use Rattle.sql_load.proofs.StoredOfficeLemmas.{holds_after, holds_both, holds_refused, holds_so, holds_stop}
use Rattle.sql_load.proofs.public.meeting_of.Goals as goal

pub returns-in_err-rows-clause-holds : goal.returns-in_err-rows-clause-holds
returns-in_err-rows-clause-holds g c =
    let is : c.from_residual.result ≡ Err c.in_err-rows.field-0.0 = search rules in
    holds_stop g.S.Store _ _ (IsRow c.args.meeting) _ c.in_err-rows.field-0.0 c.from_residual.result is
    (found_returned g.S.Store c.args.tx.now.conn.now c.find.new.tx.conn.now (λ v. v.items) table.meetings (λ flat. flat.meetings) (λ trees flat held. held.meetings) _ c.find.result c.find.ensures.rows c.find.ensures.changes
    (Err c.in_err-rows.field-0.0) c.in_err-rows.ensures (IsRow c.args.meeting) (λ flat office of preserved. meeting_row_so c.args.meeting flat office of))

pub returns-in_default-clause-holds : goal.returns-in_default-clause-holds
returns-in_default-clause-holds g c =
    holds_so g.S.Store _ _ (IsRow c.args.meeting) _ c.in_ok-rows.rows _
    (found_returned g.S.Store c.args.tx.now.conn.now c.find.new.tx.conn.now (λ v. v.items) table.meetings (λ flat. flat.meetings) (λ trees flat held. held.meetings) _ c.find.result c.find.ensures.rows c.find.ensures.changes
    _ c.in_ok-rows.ensures (IsRow c.args.meeting) (λ flat office of preserved. meeting_row_so c.args.meeting flat office of))
    (λ office preserved row. no_meeting office c.args.meeting c.in_ok-rows.rows c.in_default.ensures row)

pub returns-in_err-later-clause-holds : goal.returns-in_err-later-clause-holds
returns-in_err-later-clause-holds g c =
    let is : c.from_residual-in_err-later.result ≡ Err c.in_err-later.field-0.0 = search rules in
    holds_after g.S.Store _ _ _ c.in_ok-rows.rows _ (IsRow c.args.meeting) _
    (found_returned g.S.Store c.args.tx.now.conn.now c.find.new.tx.conn.now (λ v. v.items) table.meetings (λ flat. flat.meetings) (λ trees flat held. held.meetings) _ c.find.result c.find.ensures.rows c.find.ensures.changes
    _ c.in_ok-rows.ensures (IsRow c.args.meeting) (λ flat office of preserved. meeting_row_so c.args.meeting flat office of))
    (holds_stop g.S.Store _ _ (AreLater c.args.meeting) _ c.in_err-later.field-0.0 c.from_residual-in_err-later.result is c.in_err-later.ensures.holds)

pub returns-in_err-rows-2-clause-holds : goal.returns-in_err-rows-2-clause-holds
returns-in_err-rows-2-clause-holds g c =
    let is : c.from_residual-in_err-rows-2.result ≡ Err c.in_err-rows-2.field-0.0 = search rules in
    holds_after g.S.Store _ _ _ c.in_ok-later.later _ (λ office later. IsRow c.args.meeting office c.in_ok-rows.rows × AreLater c.args.meeting office later) _
    (holds_both g.S.Store _ _ _ c.in_ok-rows.rows c.in_ok-later.later (IsRow c.args.meeting) (AreLater c.args.meeting)
    (found_returned g.S.Store c.args.tx.now.conn.now c.find.new.tx.conn.now (λ v. v.items) table.meetings (λ flat. flat.meetings) (λ trees flat held. held.meetings) _ c.find.result c.find.ensures.rows c.find.ensures.changes
    _ c.in_ok-rows.ensures (IsRow c.args.meeting) (λ flat office of preserved. meeting_row_so c.args.meeting flat office of))
    c.in_ok-later.ensures.holds)
    (holds_stop g.S.Store _ _ (AreResolutions c.args.meeting) _ c.in_err-rows-2.field-0.0 c.from_residual-in_err-rows-2.result is
    (items_returned g.S.Store c.later_of.new.tx.conn.now c.find-2.new.tx.conn.now (λ v. v.items) table.resolutions (λ flat. flat.resolutions) (λ trees flat held. held.resolutions) _ c.find-2.result c.find-2.ensures.rows c.find-2.ensures.changes c.records_found-2.result c.records_found-2.ensures
    (Err c.in_err-rows-2.field-0.0) c.in_err-rows-2.ensures (AreResolutions c.args.meeting) (λ flat office of preserved. resolutions_so c.args.meeting flat office of)))

pub returns-in_err-resolutions-clause-holds : goal.returns-in_err-resolutions-clause-holds
returns-in_err-resolutions-clause-holds g c =
    let is : c.from_residual-in_err-resolutions.result ≡ Err c.in_err-resolutions.field-0.0 = search rules in
    holds_refused g.S.Store _ _ (λ office rows. (IsRow c.args.meeting office c.in_ok-rows.rows × AreLater c.args.meeting office c.in_ok-later.later) × AreResolutions c.args.meeting office rows) _ c.in_ok-rows-2.rows c.in_err-resolutions.field-0.0 c.from_residual-in_err-resolutions.result is
    (holds_both g.S.Store _ _ _ c.in_ok-later.later c.in_ok-rows-2.rows (λ office later. IsRow c.args.meeting office c.in_ok-rows.rows × AreLater c.args.meeting office later) (AreResolutions c.args.meeting)
    (holds_both g.S.Store _ _ _ c.in_ok-rows.rows c.in_ok-later.later (IsRow c.args.meeting) (AreLater c.args.meeting)
    (found_returned g.S.Store c.args.tx.now.conn.now c.find.new.tx.conn.now (λ v. v.items) table.meetings (λ flat. flat.meetings) (λ trees flat held. held.meetings) _ c.find.result c.find.ensures.rows c.find.ensures.changes
    _ c.in_ok-rows.ensures (IsRow c.args.meeting) (λ flat office of preserved. meeting_row_so c.args.meeting flat office of))
    c.in_ok-later.ensures.holds)
    (items_returned g.S.Store c.later_of.new.tx.conn.now c.find-2.new.tx.conn.now (λ v. v.items) table.resolutions (λ flat. flat.resolutions) (λ trees flat held. held.resolutions) _ c.find-2.result c.find-2.ensures.rows c.find-2.ensures.changes c.records_found-2.result c.records_found-2.ensures
    _ c.in_ok-rows-2.ensures (AreResolutions c.args.meeting) (λ flat office of preserved. resolutions_so c.args.meeting flat office of)))
    (λ office preserved p. resolutions_return c.args.meeting office c.in_ok-rows.rows c.in-Some.row c.in-Some.ensures p.0.0 c.in_ok-rows-2.rows p.1 {X = Option Meeting}
    (λ found. found ≡ option_map (λ (m : MeetingLists). m.meeting) (meeting_named office.meetings c.args.meeting)) c.in_err-resolutions.field-0.0 preserved c.in_err-resolutions.ensures)

pub returns-clause-holds : goal.returns-clause-holds
returns-clause-holds g c =
    holds_so g.S.Store _ _ (λ office rows. (IsRow c.args.meeting office c.in_ok-rows.rows × AreLater c.args.meeting office c.in_ok-later.later) × AreResolutions c.args.meeting office rows) _ c.in_ok-rows-2.rows _
    (holds_both g.S.Store _ _ _ c.in_ok-later.later c.in_ok-rows-2.rows (λ office later. IsRow c.args.meeting office c.in_ok-rows.rows × AreLater c.args.meeting office later) (AreResolutions c.args.meeting)
    (holds_both g.S.Store _ _ _ c.in_ok-rows.rows c.in_ok-later.later (IsRow c.args.meeting) (AreLater c.args.meeting)
    (found_returned g.S.Store c.args.tx.now.conn.now c.find.new.tx.conn.now (λ v. v.items) table.meetings (λ flat. flat.meetings) (λ trees flat held. held.meetings) _ c.find.result c.find.ensures.rows c.find.ensures.changes
    _ c.in_ok-rows.ensures (IsRow c.args.meeting) (λ flat office of preserved. meeting_row_so c.args.meeting flat office of))
    c.in_ok-later.ensures.holds)
    (items_returned g.S.Store c.later_of.new.tx.conn.now c.find-2.new.tx.conn.now (λ v. v.items) table.resolutions (λ flat. flat.resolutions) (λ trees flat held. held.resolutions) _ c.find-2.result c.find-2.ensures.rows c.find-2.ensures.changes c.records_found-2.result c.records_found-2.ensures
    _ c.in_ok-rows-2.ensures (AreResolutions c.args.meeting) (λ flat office of preserved. resolutions_so c.args.meeting flat office of)))
    (λ office preserved p. ap (λ m. Some m) c.whole_meeting.ensures
    ∙ meeting_so c.args.meeting office c.in_ok-rows.rows c.in-Some.row c.in-Some.ensures p.0.0 c.in_ok-rows-2.rows p.1 c.in_ok-later.later p.0.1 c.in_ok-resolutions.resolutions c.in_ok-resolutions.ensures)
