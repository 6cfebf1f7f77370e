use Rattle.std.proofs.Common.{◌≡◌, Err, Some, rules, sym, ap}
use Rattle.desk_words.specs.Office.{are_rows}
use Rattle.desk_words.specs.SortedLists.{are_resolutions}
use Rattle.sql_open.specs.MeetingReading.{are_called, register_in, resolutions_in, sessions_in}
use Rattle.sql_load.specs.OwnLists.{are_few}
use Rattle.sql_open.proofs.MeetingPartLemmas.{called_as, few_lead, resolutions_lead, rows_lead}
use Rattle.sql_open.proofs.MeetingReadLemmas.{as_any, last_known, stop_by}
use Rattle.sql_load.proofs.ReadingLemmas.{then}
use Rattle.sql_open.proofs.meeting_lists.read_called.Goals as goal

pub returns-in_err-later-clause-read : goal.returns-in_err-later-clause-read
returns-in_err-later-clause-read g c =
    let is : c.from_residual.result ≡ Err c.in_err-later.field-0.0 = search rules in
    stop_by g.S.Store _ _ are_few are_called (sessions_in c.args.row.id) _ (few_lead c.args.row) c.in_err-later.field-0.0 c.from_residual.result is c.in_err-later.ensures.read

pub returns-in_err-resolutions-clause-read : goal.returns-in_err-resolutions-clause-read
returns-in_err-resolutions-clause-read g c =
    let is : c.from_residual-in_err-resolutions.result ≡ Err c.in_err-resolutions.field-0.0 = search rules in
    then g.S.Store _ _ _ _ _ _ _ _ (as_any g.S.Store _ _ are_few (sessions_in c.args.row.id) c.in_ok-later.later c.in_ok-later.ensures.read)
    (stop_by g.S.Store _ _ are_resolutions are_called (resolutions_in c.args.row.id) _ (resolutions_lead c.args.row c.in_ok-later.later) c.in_err-resolutions.field-0.0 c.from_residual-in_err-resolutions.result is c.in_err-resolutions.ensures.read)

pub returns-in_err-register-clause-read : goal.returns-in_err-register-clause-read
returns-in_err-register-clause-read g c =
    let is : c.from_residual-in_err-register.result ≡ Err c.in_err-register.field-0.0 = search rules in
    then g.S.Store _ _ _ _ _ _ _ _ (as_any g.S.Store _ _ are_few (sessions_in c.args.row.id) c.in_ok-later.later c.in_ok-later.ensures.read)
    (then g.S.Store _ _ _ _ _ _ _ _ (as_any g.S.Store _ _ are_resolutions (resolutions_in c.args.row.id) c.in_ok-resolutions.resolutions c.in_ok-resolutions.ensures.read)
    (stop_by g.S.Store _ _ are_rows are_called (register_in c.args.row.id) _ (rows_lead c.args.row c.in_ok-later.later c.in_ok-resolutions.resolutions) c.in_err-register.field-0.0 c.from_residual-in_err-register.result is c.in_err-register.ensures.read))

pub returns-clause-read : goal.returns-clause-read
returns-clause-read g c =
    then g.S.Store _ _ _ _ _ _ _ _ (as_any g.S.Store _ _ are_few (sessions_in c.args.row.id) c.in_ok-later.later c.in_ok-later.ensures.read)
    (then g.S.Store _ _ _ _ _ _ _ _ (as_any g.S.Store _ _ are_resolutions (resolutions_in c.args.row.id) c.in_ok-resolutions.resolutions c.in_ok-resolutions.ensures.read)
    (last_known g.S.Store _ _ are_rows (register_in c.args.row.id) are_called c.in_ok-register.register _ (λ rows. Some (called_as c.args.row c.in_ok-later.later c.in_ok-resolutions.resolutions rows)) c.in_ok-register.ensures.read
    (λ trees held. ap (λ m. Some (record { meeting = m; register = c.in_ok-register.register })) (sym c.whole_meeting.ensures))))
