use Rattle.std.proofs.Common.{◌≡◌, Some, sym, ap, ◌∙◌}
use Rattle.std.proofs.lemmas.Result.{IfErr-weaker, IfOk-weaker}
use Rattle.desk_words.specs.Office.{is_meeting}
use Rattle.desk_words.specs.declared.office.MeetingLists.{MeetingLists}
use Rattle.office_validation.specs.Validation.{in_order, meeting_checked}
use Rattle.office_validation.proofs.ValidMeetingLemmas.{given-some, given-none}
use Rattle.meeting_core.specs.declared.book.of_lists.BookFault.{BookFault}
use Rattle.meeting_core.proofs.office.checked.Goals as goal

pub returns-clause-value : goal.returns-clause-value
returns-clause-value c =
    IfOk-weaker c.of_a_meeting.result _ _
    (λ (m : MeetingLists) is.
    let found : meeting_checked c.args.lists ≡ Some m = sym c.meeting_checked.ensures ∙ is in
    let both = given-some (is_meeting (in_order c.args.lists)) (in_order c.args.lists) m found in
    (ap is_meeting (sym both.1) ∙ both.0, sym both.1))
    c.of_a_meeting.ensures.value

pub returns-clause-fault : goal.returns-clause-fault
returns-clause-fault c =
    IfErr-weaker c.of_a_meeting.result _ _
    (λ (e : BookFault) is. (given-none (is_meeting (in_order c.args.lists)) (in_order c.args.lists) (sym c.meeting_checked.ensures ∙ is.0), is.1))
    c.of_a_meeting.ensures.fault
