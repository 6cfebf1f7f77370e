use Rattle.std.proofs.Common.{◌≡◌, Err, Some, rules, sym, ap}
use Rattle.desk_words.specs.Office.{is_meeting}
use Rattle.sql_open.specs.MeetingReading.{are_called, are_polled, called_in, lists_of_parts, polled_in}
use Rattle.sql_open.proofs.MeetingPartLemmas.{called_lead, polled_lead}
use Rattle.sql_open.proofs.MeetingReadLemmas.{as_any, last_known, stop_by}
use Rattle.sql_load.proofs.ReadingLemmas.{stop, then}
use Rattle.sql_open.proofs.meeting_lists.read_but_votes.Goals as goal

pub returns-in_err-called-clause-read : goal.returns-in_err-called-clause-read
returns-in_err-called-clause-read g c =
    let is : c.from_residual.result ≡ Err c.in_err-called.field-0.0 = search rules in
    stop_by g.S.Store _ _ are_called is_meeting (called_in c.args.row) _ (called_lead c.args.row) c.in_err-called.field-0.0 c.from_residual.result is c.in_err-called.ensures.read

pub returns-in_err-given-clause-read : goal.returns-in_err-given-clause-read
returns-in_err-given-clause-read g c =
    let is : c.from_residual-in_err-given.result ≡ Err c.in_err-given.field-0.0 = search rules in
    then g.S.Store _ _ _ _ _ _ _ _ (as_any g.S.Store _ _ are_called (called_in c.args.row) c.in_ok-called.called c.in_ok-called.ensures.read)
    (stop g.S.Store _ _ _ _ _ _ c.from_residual-in_err-given.result is c.in_err-given.ensures.read)

pub returns-in_err-polled-clause-read : goal.returns-in_err-polled-clause-read
returns-in_err-polled-clause-read g c =
    let is : c.from_residual-in_err-polled.result ≡ Err c.in_err-polled.field-0.0 = search rules in
    then g.S.Store _ _ _ _ _ _ _ _ (as_any g.S.Store _ _ are_called (called_in c.args.row) c.in_ok-called.called c.in_ok-called.ensures.read)
    (then g.S.Store _ _ _ _ _ _ _ _ c.in_ok-given.ensures.read
    (stop_by g.S.Store _ _ are_polled is_meeting (polled_in c.args.row.id) _ (polled_lead c.in_ok-called.called c.in_ok-given.given) c.in_err-polled.field-0.0 c.from_residual-in_err-polled.result is c.in_err-polled.ensures.read))

pub returns-clause-read : goal.returns-clause-read
returns-clause-read g c =
    then g.S.Store _ _ _ _ _ _ _ _ (as_any g.S.Store _ _ are_called (called_in c.args.row) c.in_ok-called.called c.in_ok-called.ensures.read)
    (then g.S.Store _ _ _ _ _ _ _ _ c.in_ok-given.ensures.read
    (last_known g.S.Store _ _ are_polled (polled_in c.args.row.id) is_meeting c.in_ok-polled.polled _ (λ polled. Some (lists_of_parts c.in_ok-called.called c.in_ok-given.given polled)) c.in_ok-polled.ensures.read
    (λ trees held. ap (λ x. Some x) (sym c.lists_of_parts.ensures))))
