-- More wrong ways to decide calls: what a party is told of one meeting is moved by what others do
-- in another.
use Rattle.std.specs.Prelude.{ℕ, ◌+◌, suc, List, [], ◌∷◌, length, codes, sum_by, if◌then◌else◌}
use Rattle.vocabulary.specs.Names.{in_places, same_name}
use Rattle.desk_words.specs.ViewTypes.{MeetingName}
use Rattle.desk_words.specs.declared.office.MeetingLists.{MeetingLists}
use Rattle.desk_words.specs.declared.office.OfficeLists.{OfficeLists}
use Rattle.desk_words.specs.declared.reply.Reply.{Reply}
use Rattle.desk_words.specs.declared.reply.Reply.TheVariants as reply
use Rattle.desk_words.specs.declared.request.Call.{Call}
use Rattle.desk_words.specs.declared.request.PartyRequest.TheVariants.{Appoint, Notice}
use Rattle.desk_words.specs.declared.request.Request.TheVariants as asked
use Rattle.laws_step.specs.Loads.{Deciding}
use Rattle.laws_step.specs.Worlds.{Answering, party_answer}
use Rattle.laws_step.specs.WrongAnswers.{a_member, another, meeting_with_casts, opened_meeting}
use Rattle.laws_run.specs.WrongWays.{an_appointment, call_by, deciding_by, member_appoints}

-- how many appointments stand in the meetings of other names
abbrev pub appointments_elsewhere : MeetingName → List MeetingLists → ℕ
appointments_elsewhere meeting [] = 0
appointments_elsewhere meeting (m ∷ meetings) =
    (if same_name m.meeting.id meeting then 0 else length m.appointments)
    + appointments_elsewhere meeting meetings

-- the notice of a meeting shows a later record moment by as many seconds
abbrev pub moved_notice : ℕ → Reply → Reply
moved_notice seconds (reply.Notice notice) =
    reply.Notice (record notice { record_moment = notice.record_moment + seconds })
moved_notice seconds other = other

-- a party that asks for the notice of a meeting is answered so
abbrev pub moved_record : Answering
moved_record office party now (asked.Party meeting Notice) =
    let right = party_answer office party now (asked.Party meeting Notice) in record right {
      reply = moved_notice (appointments_elsewhere meeting office.meetings) right.reply;
    }
moved_record office party now request = party_answer office party now request

-- the eighth wrong way: the record moment of a meeting is moved by another meeting
abbrev pub moves_the_record : Deciding
moves_the_record = deciding_by moved_record

-- another meeting, without a poll
abbrev pub another_meeting : MeetingName
another_meeting = in_places 16 (codes "O")

abbrev pub meeting_elsewhere : MeetingLists
meeting_elsewhere = record (meeting_with_casts []) {
  meeting = record opened_meeting { id = another_meeting };
  polls = [];
}

-- an office of both meetings
abbrev pub office_of_both : OfficeLists
office_of_both = record {
  keys = [];
  closed = [];
  meetings = meeting_with_casts [] ∷ meeting_elsewhere ∷ [];
}

-- the member asks for the notice of the first meeting
abbrev pub asks_notice : List Call
asks_notice = call_by a_member Notice ∷ []

-- the other member appoints a proxy in the other meeting
abbrev pub appointed_elsewhere : Call
appointed_elsewhere = record (call_by another an_appointment) {
  request = asked.Party another_meeting an_appointment;
}

-- it does, and then the member asks
abbrev pub appoints_elsewhere : List Call
appoints_elsewhere = appointed_elsewhere ∷ asks_notice

-- ---- the row of an appointment among those of all meetings

-- where an appointment is recorded, its number in the reply is that of its row among those of all
-- meetings
abbrev pub shown_row : OfficeLists → Reply → Reply
shown_row office (reply.Appointed receipt) =
    reply.Appointed
    (record receipt {
      number = suc (sum_by (λ (m : MeetingLists). length m.appointments) office.meetings);
    })
shown_row office other = other

-- a member is answered with that number
abbrev pub numbered_by_rows : Answering
numbered_by_rows office party now (asked.Party meeting (Appoint new)) =
    let right = party_answer office party now (asked.Party meeting (Appoint new)) in record right {
      reply = shown_row office right.reply;
    }
numbered_by_rows office party now request = party_answer office party now request

-- the ninth wrong way: a member is told how many appointments were given in all meetings
abbrev pub shows_the_row : Deciding
shows_the_row = deciding_by numbered_by_rows

-- the other member appoints in the other meeting, and then the member appoints
abbrev pub both_appoint_apart : List Call
both_appoint_apart = appointed_elsewhere ∷ member_appoints
