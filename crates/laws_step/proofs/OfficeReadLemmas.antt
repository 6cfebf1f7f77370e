-- What the office's calls read decides them.
use Rattle.std.proofs.Common.{refl, ap, true≢false}
use Rattle.std.specs.Prelude.{◌++◌, is_some}
use Rattle.desk_words.specs.Rulings.{Ruling, map_ruling_change, ruled_answer}
use Rattle.desk_words.specs.declared.answer.Answer.{Answer}
use Rattle.desk_words.specs.declared.caller.Caller.TheVariants as caller
use Rattle.desk_words.specs.declared.change.Change.{Change}
use Rattle.desk_words.specs.declared.change.Change.TheVariants.{InMeeting}
use Rattle.desk_words.specs.declared.change.MeetingChange.{MeetingChange}
use Rattle.desk_words.specs.declared.request.DeskRequest.TheVariants.{CallMeeting, ClosedDays, Keys}
use Rattle.desk_words.specs.declared.request.OfficeRequest.TheVariants.{Presence}
use Rattle.desk_words.specs.declared.request.Request.{Request}
use Rattle.desk_words.specs.declared.request.Request.TheVariants as asked
use Rattle.party_views.specs.Views.{meeting_at}
use Rattle.office_decisions.specs.CallRulings.{ruling_of_call}
use Rattle.office_decisions.specs.DeskRulings.{closed_ruling, keys_ruling}
use Rattle.office_decisions.specs.ListsRead.{RulingsReadNoMore, lists_read}
use Rattle.meeting_core.specs.Step.{side_cases}
use Rattle.laws_step.specs.OfficeReads.{DeskReadIsEnough, ListsReadAreEnough}
use Rattle.laws_step.specs.WrongAnswers.{a_meeting, another}
use Rattle.laws_step.specs.WrongOfficeReads.{ReadsTooFew, lone_office, reads_no_presence}
use Rattle.laws_step.specs.WrongOwnThings.{meeting_with_presence, quiet_meeting}

-- what is decided of the office's request, by what is ruled on it
abbrev decided_by : Request → Ruling Change → Answer Change
decided_by request ruled = ruled_answer (record { cases = side_cases caller.Office request ++ ruled.cases; accepted = ruled.accepted })

pub lists_enough : RulingsReadNoMore → ListsReadAreEnough lists_read
lists_enough law one other meeting now what agree =
    ap (λ (ruled : Ruling MeetingChange). decided_by (asked.Office meeting what) (map_ruling_change (InMeeting meeting) ruled))
    (law what now one.closed other.closed (meeting_at one meeting) (meeting_at other meeting) agree.closed agree.lists)

pub desk_enough : DeskReadIsEnough
desk_enough one other now (CallMeeting new) agree =
    λ i. decided_by (asked.Desk (CallMeeting new)) (ruling_of_call (agree.0 i) (agree.1 i) new)
desk_enough one other now (ClosedDays days) agree =
    λ i. decided_by (asked.Desk (ClosedDays days)) (closed_ruling (agree i) days)
desk_enough one other now (Keys rows) agree =
    λ i. decided_by (asked.Desk (Keys rows)) (keys_ruling (agree i) rows)

-- ---- a wrong reading

pub presence_unread : ReadsTooFew reads_no_presence (lone_office quiet_meeting) (lone_office meeting_with_presence) a_meeting (Presence another)
presence_unread = record {
  first = refl;
  second = refl;
  agree = record { closed = refl; lists = refl };
  apart = λ h. absurd (true≢false (ap (λ (a : Answer Change). is_some a.change) h));
}

pub presence_unread_caught : ListsReadAreEnough reads_no_presence → ⊥
presence_unread_caught law =
    presence_unread.apart (law (lone_office quiet_meeting) (lone_office meeting_with_presence) a_meeting 0 (Presence another) presence_unread.agree)
