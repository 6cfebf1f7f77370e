-- Wrong ways to decide calls, and for each two lists of calls that are one to a party by what is
-- shown of them, and that it distinguishes.
use Rattle.std.specs.Prelude.{◌≡◌, suc, List, [], ◌∷◌, length, codes, Option, Some, IsTrue}
use Rattle.std.specs.List.{list_all}
use Rattle.vocabulary.specs.Names.{in_places}
use Rattle.vocabulary.specs.declared.kinds.Capacity.TheVariants.{Member}
use Rattle.vocabulary.specs.declared.kinds.Instr.TheVariants.{Free}
use Rattle.vocabulary.specs.declared.kinds.Way.TheVariants.{For}
use Rattle.desk_words.specs.Office.{is_office}
use Rattle.desk_words.specs.ViewTypes.{Party}
use Rattle.desk_words.specs.declared.answer.Answer.{Answer}
use Rattle.desk_words.specs.declared.caller.Caller.{Caller}
use Rattle.desk_words.specs.declared.caller.Caller.TheVariants as caller
use Rattle.desk_words.specs.declared.change.Change.{Change}
use Rattle.desk_words.specs.declared.office.MeetingLists.{MeetingLists}
use Rattle.desk_words.specs.declared.office.OfficeLists.{OfficeLists}
use Rattle.desk_words.specs.declared.reply.Reply.{Reply}
use Rattle.desk_words.specs.declared.reply.Reply.TheVariants as reply
use Rattle.desk_words.specs.declared.request.Call.{Call}
use Rattle.desk_words.specs.declared.request.PartyRequest.{PartyRequest}
use Rattle.desk_words.specs.declared.request.PartyRequest.TheVariants.{Appoint, Cast}
use Rattle.desk_words.specs.declared.request.Request.TheVariants as asked
use Rattle.party_views.specs.Views.{meeting_at}
use Rattle.meeting_core.specs.Step.{decided}
use Rattle.laws_step.specs.Loads.{Deciding}
use Rattle.laws_step.specs.Worlds.{Answering, party_answer}
use Rattle.laws_step.specs.WrongAnswers.{a_meeting, a_member, another, own_vote, running_total}
use Rattle.laws_run.specs.Isolation.{AreIndistinguishable}
use Rattle.laws_run.specs.NearParts.{Viewer}
use Rattle.laws_run.specs.Traces.{is_near_call, replies_to, run_by, trace_of}

-- the answer to a call, by its caller: parties are answered so, and the office as by the desk
abbrev pub answer_by : Answering → OfficeLists → Call → Caller → Answer Change
answer_by answering office call caller.Office = decided office call
answer_by answering office call (caller.Party party) =
    answering office party call.moment call.request

-- calls of parties are decided so, and those of the office as by the desk
abbrev pub deciding_by : Answering → Deciding
deciding_by answering office call = answer_by answering office call call.caller

-- the first wrong way: a voter is told how the votes stood
abbrev pub shows_the_count : Deciding
shows_the_count = deciding_by running_total

-- where an appointment is recorded, its number in the reply counts the appointments of all members
abbrev pub shown_of_all : Option MeetingLists → Reply → Reply
shown_of_all (Some m) (reply.Appointed receipt) =
    reply.Appointed (record receipt { number = suc (length m.appointments) })
shown_of_all found other = other

-- a member is answered with that number
abbrev pub numbered_over_all : Answering
numbered_over_all office party now (asked.Party meeting (Appoint new)) =
    let right = party_answer office party now (asked.Party meeting (Appoint new)) in record right {
      reply = shown_of_all (meeting_at office meeting) right.reply;
    }
numbered_over_all office party now request = party_answer office party now request

-- the second wrong way: a member is told how many appointments were given by all
abbrev pub shows_all_numbers : Deciding
shows_all_numbers = deciding_by numbered_over_all

-- what a party asks in the meeting, as a call
abbrev pub call_by : Party → PartyRequest → Call
call_by party what = record {
  moment = 0;
  caller = caller.Party party;
  request = asked.Party a_meeting what;
}

-- the member, whom nobody names or authorises
abbrev pub the_member : Viewer
the_member = record { party = a_member; sources = [] }

-- the member votes
abbrev pub member_votes : List Call
member_votes = call_by a_member own_vote ∷ []

-- the vote of the other member on its own share
abbrev pub another_vote : PartyRequest
another_vote =
    Cast
    (record { resolution = 1; capacity = Member; member = another; from = 1; to = 1; way = For })

-- the other member votes, and then the member
abbrev pub both_vote : List Call
both_vote = call_by another another_vote ∷ member_votes

-- an appointment of a third party over one share
abbrev pub an_appointment : PartyRequest
an_appointment =
    Appoint
    (record { proxy = in_places 16 (codes "C"); from = 1; to = 1; instructions = Free ∷ [] })

-- the member appoints
abbrev pub member_appoints : List Call
member_appoints = call_by a_member an_appointment ∷ []

-- the other member appoints, and then the member
abbrev pub both_appoint : List Call
both_appoint = call_by another an_appointment ∷ member_appoints

-- two lists of calls in an office, which have the same trace for a viewer, are told apart by the
-- replies to it
pub record DistinguishesRuns (deciding : Deciding) (viewer : Viewer) (office : OfficeLists)
    (calls again : List Call) : Type 0 where
  pub is_one : IsTrue (is_office office)
  pub alike : AreIndistinguishable viewer office office
  pub near : IsTrue (list_all (is_near_call viewer) calls)
  pub near_again : IsTrue (list_all (is_near_call viewer) again)
  pub same : trace_of deciding viewer office calls ≡ trace_of deciding viewer office again
  pub apart : replies_to viewer.party calls (run_by deciding office calls).replies
      ≡ replies_to viewer.party again (run_by deciding office again).replies
      → ⊥
