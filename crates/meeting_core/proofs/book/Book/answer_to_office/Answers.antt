use Rattle.std.proofs.Common.{◌≡◌, true, subst, ap, sym, ◌∙◌}
use Rattle.std.specs.Prelude.{Option, IfSome}
use Rattle.desk_words.specs.Finding.{meeting_named}
use Rattle.desk_words.specs.Office.{is_meeting}
use Rattle.desk_words.specs.declared.office.OfficeLists.{OfficeLists}
use Rattle.desk_words.specs.declared.office.MeetingLists.{MeetingLists}
use Rattle.desk_words.specs.Rulings.{map_change, ruled_answer}
use Rattle.desk_words.specs.declared.change.Change.TheVariants.{InMeeting}
use Rattle.std.specs.Option.{option_copied}
use Rattle.office_decisions.specs.OfficeRulings.{office_ruling}
use Rattle.desk_words.proofs.OfficeFacts.{found_meeting, office_facts}
use Rattle.office_decisions.specs.ListsRead.{reads_register}
use Rattle.meeting_core.proofs.ReadPreserved.{weaker}
use Rattle.meeting_core.proofs.book.Book.answer_to_office.Goals as goal

-- what is found is a meeting
pub office_answer-requires : goal.office_answer-requires
office_answer-requires c =
    let o : OfficeLists = record { keys = c.self.inside.keys; closed = c.self.inside.closed; meetings = c.self.inside.meetings.items } in
    subst (λ (found : Option MeetingLists). IfSome found (λ m. reads_register c.args.asked.now ≡ true → is_meeting m ≡ true))
    (ap (λ meetings. meeting_named meetings c.args.meeting) (sym c.deref.ensures.value) ∙ sym c.find_meeting-found.ensures)
    (weaker (meeting_named o.meetings c.args.meeting) (reads_register c.args.asked.now) (found_meeting o.meetings c.args.meeting (office_facts o c.self.invariant).each))

-- the answer in the meeting that is found
pub returns-clause-answer : goal.returns-clause-answer
returns-clause-answer c =
    let o : OfficeLists = record { keys = c.self.inside.keys; closed = c.self.inside.closed; meetings = c.self.inside.meetings.items } in
    let found = option_copied c.find_meeting-found.result in
    let now = c.args.now in
    let asked = c.args.asked.now in
    let same : found ≡ meeting_named o.meetings c.args.meeting = c.find_meeting-found.ensures ∙ ap (λ meetings. meeting_named meetings c.args.meeting) c.deref.ensures.value in
    let ruled = λ (found : Option MeetingLists). ruled_answer (office_ruling o.closed found now asked) in
    subst (λ (held : OfficeLists). c.in_meeting.result ≡ map_change (InMeeting c.args.meeting) (ruled_answer (office_ruling held.closed (meeting_named held.meetings c.args.meeting) now asked)))
    c.self.view_is
    (c.in_meeting.ensures ∙ ap (map_change (InMeeting c.args.meeting)) (c.in_ok-answer.ensures.answer ∙ ap ruled same))
