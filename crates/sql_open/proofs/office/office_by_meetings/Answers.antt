use Rattle.std.proofs.Common.{◌≡◌, Err, Some, refl, rules}
use Rattle.std.specs.List.{list_all}
use Rattle.desk_words.specs.Office.{is_meeting, is_office}
use Rattle.desk_words.specs.SortedLists.{is_day_list, is_key_list}
use Rattle.sql_open.specs.MeetingReading.{days_in, keys_in, meetings_in}
use Rattle.sql_open.proofs.JudgedLemmas.{days_lead, keys_lead, meetings_lead}
use Rattle.sql_open.proofs.MeetingReadLemmas.{as_any, last_known, stop_by}
use Rattle.sql_load.proofs.ReadingLemmas.{stop, then}
use Rattle.sql_open.proofs.office.office_by_meetings.Goals as goal

pub returns-in_err-read_left-clause-read : goal.returns-in_err-read_left-clause-read
returns-in_err-read_left-clause-read g c =
    let is : c.from_residual.result ≡ Err c.in_err-read_left.field-0.0 = search rules in
    stop g.S.Store _ _ _ _ _ _ c.from_residual.result is c.in_err-read_left.ensures.read

pub returns-in_err-keys-clause-read : goal.returns-in_err-keys-clause-read
returns-in_err-keys-clause-read g c =
    let is : c.from_residual-in_err-keys.result ≡ Err c.in_err-keys.field-0.0 = search rules in
    then g.S.Store _ _ _ _ _ _ _ _ c.in_ok-read_left.ensures.read (stop_by g.S.Store _ _ is_key_list is_office keys_in _ keys_lead c.in_err-keys.field-0.0 c.from_residual-in_err-keys.result is c.in_err-keys.ensures.read)

pub returns-in_err-closed-clause-read : goal.returns-in_err-closed-clause-read
returns-in_err-closed-clause-read g c =
    let is : c.from_residual-in_err-closed.result ≡ Err c.in_err-closed.field-0.0 = search rules in
    then g.S.Store _ _ _ _ _ _ _ _ c.in_ok-read_left.ensures.read (then g.S.Store _ _ _ _ _ _ _ _ (as_any g.S.Store _ _ is_key_list keys_in c.in_ok-keys.keys c.in_ok-keys.ensures.read)
    (stop_by g.S.Store _ _ is_day_list is_office days_in _ (days_lead c.in_ok-keys.keys) c.in_err-closed.field-0.0 c.from_residual-in_err-closed.result is c.in_err-closed.ensures.read))

pub returns-in_err-meetings-clause-read : goal.returns-in_err-meetings-clause-read
returns-in_err-meetings-clause-read g c =
    let is : c.from_residual-in_err-meetings.result ≡ Err c.in_err-meetings.field-0.0 = search rules in
    then g.S.Store _ _ _ _ _ _ _ _ c.in_ok-read_left.ensures.read (then g.S.Store _ _ _ _ _ _ _ _ (as_any g.S.Store _ _ is_key_list keys_in c.in_ok-keys.keys c.in_ok-keys.ensures.read)
    (then g.S.Store _ _ _ _ _ _ _ _ (as_any g.S.Store _ _ is_day_list days_in c.in_ok-closed.closed c.in_ok-closed.ensures.read)
    (stop_by g.S.Store _ _ (list_all is_meeting) is_office meetings_in _ (meetings_lead c.in_ok-keys.keys c.in_ok-closed.closed) c.in_err-meetings.field-0.0 c.from_residual-in_err-meetings.result is c.in_err-meetings.ensures.read)))

pub returns-clause-read : goal.returns-clause-read
returns-clause-read g c =
    then g.S.Store _ _ _ _ _ _ _ _ c.in_ok-read_left.ensures.read (then g.S.Store _ _ _ _ _ _ _ _ (as_any g.S.Store _ _ is_key_list keys_in c.in_ok-keys.keys c.in_ok-keys.ensures.read)
    (then g.S.Store _ _ _ _ _ _ _ _ (as_any g.S.Store _ _ is_day_list days_in c.in_ok-closed.closed c.in_ok-closed.ensures.read)
    (last_known g.S.Store _ _ (list_all is_meeting) meetings_in is_office c.in_ok-meetings.meetings _ (λ meetings. Some (record { keys = c.in_ok-keys.keys; closed = c.in_ok-closed.closed; meetings = meetings })) c.in_ok-meetings.ensures.read (λ trees held. refl))))
