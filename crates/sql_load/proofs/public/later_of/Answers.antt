use Rattle.std.proofs.Common.{◌≡◌, ℕ, List, Err, Some, rules}
use Rattle.desk_words.specs.Finding.{meeting_named}
use Rattle.desk_words.specs.declared.office.OfficeLists.{OfficeLists}
use Rattle.desk_words.specs.declared.records.Session.{Session}
use Rattle.sql_rows.specs.declared.stored_records.Numbered.{Numbered}
use Rattle.sql_schema.specs.Contents as table
use Rattle.sql_load.specs.OwnLists.{are_few, sessions_own}
use Rattle.sql_load.specs.MeetingRecords.{later_in}
use Rattle.sql_load.proofs.FoundRecordLemmas.{items_returned, yields_return}
use Rattle.sql_load.proofs.NamedMeetingLemmas.{later_is}
use Rattle.sql_load.proofs.PublicRecordLemmas.{sessions_few}
use Rattle.sql_load.proofs.StoredOfficeLemmas.{holds_so, holds_stop}
use Rattle.sql_load.proofs.public.later_of.Goals as goal

-- the sessions are the meeting's once they are in the order of their numbers
abbrev AreSessions : List ℕ → OfficeLists → List (Numbered Session) → Type 0
AreSessions id office rows = sessions_own rows ≡ Some (later_in (meeting_named office.meetings id))

pub returns-in_err-rows-clause-holds : goal.returns-in_err-rows-clause-holds
returns-in_err-rows-clause-holds g c =
    let is : c.from_residual.result ≡ Err c.in_err-rows.field-0.0 = search rules in
    holds_stop g.S.Store _ _ (AreSessions c.args.meeting) _ c.in_err-rows.field-0.0 c.from_residual.result is
    (items_returned g.S.Store c.args.tx.now.conn.now c.find.new.tx.conn.now (λ v. v.items) table.sessions (λ flat. flat.sessions) (λ trees flat held. held.sessions) _ c.find.result c.find.ensures.rows c.find.ensures.changes c.records_found.result c.records_found.ensures
    (Err c.in_err-rows.field-0.0) c.in_err-rows.ensures (AreSessions c.args.meeting) (λ flat office of preserved. later_is flat office c.args.meeting of))

pub returns-clause-holds : goal.returns-clause-holds
returns-clause-holds g c =
    holds_so g.S.Store _ _ (AreSessions c.args.meeting) _ c.in_ok-rows.rows c.session_list.result
    (items_returned g.S.Store c.args.tx.now.conn.now c.find.new.tx.conn.now (λ v. v.items) table.sessions (λ flat. flat.sessions) (λ trees flat held. held.sessions) _ c.find.result c.find.ensures.rows c.find.ensures.changes c.records_found.result c.records_found.ensures
    _ c.in_ok-rows.ensures (AreSessions c.args.meeting) (λ flat office of preserved. later_is flat office c.args.meeting of))
    (λ office preserved rows. yields_return are_few c.session_list.result (later_in (meeting_named office.meetings c.args.meeting)) _ c.session_list.ensures rows (sessions_few office c.args.meeting preserved))
