use Rattle.std.proofs.Common.{◌≡◌, true, not, subst, ap, ◌∙◌}
use Rattle.std.specs.Prelude.{Option, IfSome}
use Rattle.std.specs.Borrow.{Bor}
use Rattle.std.specs.Option.{option_copied}
use Rattle.desk_words.specs.Office.{is_meeting}
use Rattle.desk_words.specs.declared.office.MeetingLists.{MeetingLists}
use Rattle.office_decisions.specs.ListsRead.{reads_register}
use Rattle.office_decisions.proofs.answer.office_answer.Goals as goal

-- the meeting that is found is one of an office, where the request reads its register
pub open_meeting-requires : goal.open_meeting-requires
open_meeting-requires c =
    subst (λ (found : Option (Bor MeetingLists)). IfSome (option_copied found) (λ m. reads_register c.args.asked.now ≡ true → is_meeting m ≡ true)) c.in-Some.is c.requires
    (ap reads_register c.in-OpenMeeting.is)

pub order_poll-requires : goal.order_poll-requires
order_poll-requires c = λ demanded.
    subst (λ (found : Option (Bor MeetingLists)). IfSome (option_copied found) (λ m. reads_register c.args.asked.now ≡ true → is_meeting m ≡ true)) c.in-Some.is c.requires
    (ap reads_register c.in-Order.is ∙ ap not demanded)

pub declare_poll-requires : goal.declare_poll-requires
declare_poll-requires c =
    subst (λ (found : Option (Bor MeetingLists)). IfSome (option_copied found) (λ m. reads_register c.args.asked.now ≡ true → is_meeting m ≡ true)) c.in-Some.is c.requires
    (ap reads_register c.in-Declare.is)
