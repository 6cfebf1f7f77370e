use Rattle.std.proofs.Common.{◌≡◌, true, false, ap, ◌∙◌}
use Rattle.std.specs.Prelude.{Option}
use Rattle.desk_words.specs.Rulings.{ruled_answer}
use Rattle.desk_words.specs.declared.answer.Answer.{Answer}
use Rattle.desk_words.specs.declared.change.Change.{Change}
use Rattle.desk_words.specs.declared.office.MeetingLists.{MeetingLists}
use Rattle.office_decisions.specs.OfficeRulings.{is_register_held, office_ruling}
use Rattle.office_decisions.specs.RequestLimits.{if_any, keeps_limits}
use Rattle.meeting_core.specs.Decisions.{office_call}
use Rattle.meeting_core.proofs.ReadPreserved.{decided_so, decision_preserved, limits_within, never_none}
use Rattle.meeting_core.proofs.office.decide_in_meeting.Goals as goal

pub returns-clause-decided : goal.returns-clause-decided
returns-clause-decided c = λ office preserved read.
    let now = c.args.now in
    let what = c.args.asked.now in
    c.in_meeting.ensures
    ∙ decided_so office c.args.meeting now what c.args.closed.now c.args.found c.in_ok-lists.lists c.in_ok-answer.answer preserved read c.in_ok-lists.ensures.same
    (c.in_ok-answer.ensures.answer ∙ ap (λ (lists : Option MeetingLists). ruled_answer (office_ruling c.args.closed.now lists now what)) c.as_ref.ensures.value)

pub returns-clause-valid : goal.returns-clause-valid
returns-clause-valid c = λ office preserved read.
    let now = c.args.now in
    let what = c.args.asked.now in
    let is =
    c.in_meeting.ensures
    ∙ decided_so office c.args.meeting now what c.args.closed.now c.args.found c.in_ok-lists.lists c.in_ok-answer.answer preserved read c.in_ok-lists.ensures.same
    (c.in_ok-answer.ensures.answer ∙ ap (λ (lists : Option MeetingLists). ruled_answer (office_ruling c.args.closed.now lists now what)) c.as_ref.ensures.value) in
    let limits = ap (λ (a : Answer Change). if_any keeps_limits a.change) c.in_meeting.ensures ∙ limits_within c.args.meeting c.in_ok-answer.answer.change c.in_ok-answer.ensures.limits in
    decision_preserved office (office_call c.args.meeting now what) c.in_meeting.result is limits preserved

-- lists that passed are a meeting's
pub returns-in_err-answer-clause-is_none : goal.returns-in_err-answer-clause-is_none
returns-in_err-answer-clause-is_none c = λ none. absurd (never_none c.args.asked.now c.args.found c.in_ok-lists.lists c.in_ok-lists.ensures.same c.in_ok-lists.ensures.right none)

pub returns-clause-is_none : goal.returns-clause-is_none
returns-clause-is_none c = λ none. absurd (never_none c.args.asked.now c.args.found c.in_ok-lists.lists c.in_ok-lists.ensures.same c.in_ok-lists.ensures.right none)

-- the register that is held is loaded again without memory
pub returns-in_err-answer-clause-same : goal.returns-in_err-answer-clause-same
returns-in_err-answer-clause-same c = λ held.
    let never : false ≡ true =
    c.in_err-answer.ensures.same
    (ap (λ (lists : Option MeetingLists). is_register_held lists c.args.asked.now) (c.as_ref.ensures.value ∙ c.in_ok-lists.ensures.same) ∙ held) in
    absurd (cc)
