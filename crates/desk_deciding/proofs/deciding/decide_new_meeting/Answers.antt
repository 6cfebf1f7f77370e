use Rattle.std.proofs.Common.{◌≡◌, Err, ap, rules}
use Rattle.desk_words.specs.declared.request.DeskRequest.TheVariants.{CallMeeting}
use Rattle.meeting_core.specs.Decisions.{AreMeetingsRead}
use Rattle.sql_load_needed.specs.declared.desk.MeetingCount.{MeetingCount}
use Rattle.sql_load.proofs.StoredOfficeLemmas.{holds_stop}
use Rattle.desk_deciding.specs.Deciding.{IsDecidedAlways}
use Rattle.desk_deciding.proofs.DecidingLemmas.{returned_made}
use Rattle.desk_deciding.proofs.ReturnedLemmas.{returned_office}
use Rattle.desk_deciding.proofs.ReturnedLemmas.{failed_returned}
use Rattle.desk_deciding.proofs.deciding.decide_new_meeting.Goals as goal

pub returns-in_err-count-clause-holds : goal.returns-in_err-count-clause-holds
returns-in_err-count-clause-holds g c =
    let what = CallMeeting c.args.new.now in
    let is : c.from_residual.result ≡ Err c.in_err-count.field-0.0 = search rules in
    returned_office g.S.Store _ _ _ (IsDecidedAlways what) (holds_stop g.S.Store _ _ _ (IsDecidedAlways what) c.in_err-count.field-0.0 c.from_residual.result is c.in_err-count.ensures.holds)

pub returns-in_err-answer-clause-holds : goal.returns-in_err-answer-clause-holds
returns-in_err-answer-clause-holds g c =
    let what = CallMeeting c.args.new.now in
    failed_returned g.S.Store _ _ _ (IsDecidedAlways what) _ c.from_residual-in_err-answer.result c.from_residual-in_err-answer.ensures.0 (returned_office g.S.Store _ _ _ _ c.in_ok-count.ensures.holds)

pub returns-clause-holds : goal.returns-clause-holds
returns-clause-holds g c =
    returned_made g.S.Store _ _ c.in_ok-count.count _ _ (IsDecidedAlways (CallMeeting c.args.new.now)) c.in_ok-count.ensures.holds
    (λ office preserved returned now.
    let is : AreMeetingsRead office c.args.new.now.meeting c.in_ok-count.count.is_named c.in_ok-count.count.held = record { named = ap (λ (it : MeetingCount). it.is_named) returned; held = ap (λ (it : MeetingCount). it.held) returned } in
    record { is = c.in_ok-answer.ensures.decided office now is; preserved = c.in_ok-answer.ensures.valid office preserved is })
