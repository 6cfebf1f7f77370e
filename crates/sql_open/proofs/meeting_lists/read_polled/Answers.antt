use Rattle.std.proofs.Common.{◌≡◌, Err, Some, refl, rules}
use Rattle.seq.specs.Ordered.{ascends_by}
use Rattle.desk_words.specs.Office.{poll_before}
use Rattle.sql_open.specs.MeetingReading.{are_polled, polls_in}
use Rattle.sql_open.proofs.MeetingPartLemmas.{polled_as, polls_lead}
use Rattle.sql_open.proofs.MeetingReadLemmas.{last_known, stop_by}
use Rattle.sql_load.proofs.ReadingLemmas.{stop, then}
use Rattle.sql_open.proofs.meeting_lists.read_polled.Goals as goal

pub returns-in_err-presences-clause-read : goal.returns-in_err-presences-clause-read
returns-in_err-presences-clause-read g c =
    let is : c.from_residual.result ≡ Err c.in_err-presences.field-0.0 = search rules in
    stop g.S.Store _ _ _ _ _ _ c.from_residual.result is c.in_err-presences.ensures.read

pub returns-in_err-demands-clause-read : goal.returns-in_err-demands-clause-read
returns-in_err-demands-clause-read g c =
    let is : c.from_residual-in_err-demands.result ≡ Err c.in_err-demands.field-0.0 = search rules in
    then g.S.Store _ _ _ _ _ _ _ _ c.in_ok-presences.ensures.read (stop g.S.Store _ _ _ _ _ _ c.from_residual-in_err-demands.result is c.in_err-demands.ensures.read)

pub returns-in_err-polls-clause-read : goal.returns-in_err-polls-clause-read
returns-in_err-polls-clause-read g c =
    let is : c.from_residual-in_err-polls.result ≡ Err c.in_err-polls.field-0.0 = search rules in
    then g.S.Store _ _ _ _ _ _ _ _ c.in_ok-presences.ensures.read (then g.S.Store _ _ _ _ _ _ _ _ c.in_ok-demands.ensures.read
    (stop_by g.S.Store _ _ (ascends_by poll_before) are_polled (polls_in c.args.meeting) _ (polls_lead c.in_ok-presences.presences c.in_ok-demands.demands) c.in_err-polls.field-0.0 c.from_residual-in_err-polls.result is c.in_err-polls.ensures.read))

pub returns-clause-read : goal.returns-clause-read
returns-clause-read g c =
    then g.S.Store _ _ _ _ _ _ _ _ c.in_ok-presences.ensures.read (then g.S.Store _ _ _ _ _ _ _ _ c.in_ok-demands.ensures.read
    (last_known g.S.Store _ _ (ascends_by poll_before) (polls_in c.args.meeting) are_polled c.in_ok-polls.polls _ (λ polls. Some (polled_as c.in_ok-presences.presences c.in_ok-demands.demands polls)) c.in_ok-polls.ensures.read (λ trees held. refl)))
