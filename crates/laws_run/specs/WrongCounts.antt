-- Wrong ways to decide calls of the office, each of which tells it of votes before they are
-- declared.
use Rattle.std.specs.Prelude.{◌≡◌, ℕ, ◌*◌, Bool, nat_le, List, [], ◌∷◌, ◌++◌, length, codes, Option, Some, if◌then◌else◌, IsTrue}
use Rattle.std.specs.List.{list_any}
use Rattle.vocabulary.specs.Names.{in_places}
use Rattle.vocabulary.specs.declared.kinds.Company.TheVariants.{Private}
use Rattle.vocabulary.specs.declared.kinds.MeetingKind.TheVariants.{General}
use Rattle.vocabulary.specs.declared.refusal.Refusal.TheVariants.{NoQuorum, TooMany}
use Rattle.desk_words.specs.Office.{is_office}
use Rattle.desk_words.specs.Rulings.{refused}
use Rattle.desk_words.specs.ViewTypes.{Number}
use Rattle.desk_words.specs.declared.answer.Answer.{Answer}
use Rattle.desk_words.specs.declared.caller.Caller.TheVariants as caller
use Rattle.desk_words.specs.declared.change.Change.{Change}
use Rattle.desk_words.specs.declared.office.MeetingLists.{MeetingLists}
use Rattle.desk_words.specs.declared.office.OfficeLists.{OfficeLists}
use Rattle.desk_words.specs.declared.records.CastMark.{CastMark}
use Rattle.desk_words.specs.declared.reply.Reply.{Reply}
use Rattle.desk_words.specs.declared.reply.Reply.TheVariants as reply
use Rattle.desk_words.specs.declared.request.Call.{Call}
use Rattle.desk_words.specs.declared.request.DeskRequest.TheVariants.{CallMeeting}
use Rattle.desk_words.specs.declared.request.NewMeeting.{NewMeeting}
use Rattle.desk_words.specs.declared.request.OfficeRequest.{OfficeRequest}
use Rattle.desk_words.specs.declared.request.OfficeRequest.TheVariants.{Close, Declare}
use Rattle.desk_words.specs.declared.request.Request.{Request}
use Rattle.desk_words.specs.declared.request.Request.TheVariants as asked
use Rattle.party_views.specs.Views.{meeting_at}
use Rattle.meeting_core.specs.Step.{decided}
use Rattle.laws_step.specs.Loads.{Deciding}
use Rattle.laws_step.specs.Secrecy.{casts_off}
use Rattle.laws_step.specs.WrongAnswers.{a_meeting, another, meeting_with_casts, opened_meeting, started_poll, vote_of_another}
use Rattle.laws_run.specs.RunSecrecy.{replies_to_office}
use Rattle.laws_run.specs.Traces.{run_by}
use Rattle.laws_run.specs.SecretCalls.{Secret, all_parties, is_secret_call, without}
use Rattle.laws_run.specs.WrongWays.{another_vote, call_by}

-- what is made of the right answer to a request of the office in a meeting, where it is found
abbrev pub OfficeShowing : Type 0
OfficeShowing = Option MeetingLists → OfficeRequest → Answer Change → Answer Change

-- requests of the office in meetings are answered so
abbrev pub answer_shown : OfficeShowing → OfficeLists → Call → Request → Answer Change
answer_shown showing office call (asked.Office meeting what) =
    showing (meeting_at office meeting) what (decided office call)
answer_shown showing office call request = decided office call

-- and all other calls as by the desk
abbrev pub deciding_shown : OfficeShowing → Deciding
deciding_shown showing office call = answer_shown showing office call call.request

-- ---- the turnout

-- where the voting is closed, the reply tells how many votes the meeting has
abbrev pub shown_how_many : MeetingLists → Reply → Reply
shown_how_many m reply.VotingClosed = reply.Ended (length m.casts)
shown_how_many m other = other

-- the close of a poll is answered so
abbrev pub turnout_at_close : OfficeShowing
turnout_at_close (Some m) (Close resolution) right = record right {
  reply = shown_how_many m right.reply;
}
turnout_at_close found what right = right

-- the first wrong way: the office is told at the close how many votes there are
abbrev pub shows_turnout : Deciding
shows_turnout = deciding_shown turnout_at_close

-- where a resolution is declared, the reply tells in place of the votes that are withheld how many
-- votes are on the others
abbrev pub shown_of_others : MeetingLists → Number → Reply → Reply
shown_of_others m resolution (reply.Declared result) =
    reply.Declared
    (record result {
      tally = record result.tally { withheld = length (casts_off resolution m.casts) };
    })
shown_of_others m resolution other = other

-- the declaration of a resolution is answered so
abbrev pub turnout_of_others : OfficeShowing
turnout_of_others (Some m) (Declare resolution) right = record right {
  reply = shown_of_others m resolution right.reply;
}
turnout_of_others found what right = right

-- the second wrong way: the office is told at the declaration of one resolution how many votes
-- there are on the others
abbrev pub shows_turnout_of_others : Deciding
shows_turnout_of_others = deciding_shown turnout_of_others

-- ---- refusals

-- it is refused where the meeting has fewer votes than so many
abbrev pub unless_votes : ℕ → MeetingLists → Answer Change → Answer Change
unless_votes least m right = if nat_le least (length m.casts) then right else refused NoQuorum

-- the close of a poll is answered so, where there are none
abbrev pub no_close_without_votes : OfficeShowing
no_close_without_votes (Some m) (Close resolution) right = unless_votes 1 m right
no_close_without_votes found what right = right

-- the third wrong way: a poll is closed once somebody has voted
abbrev pub closes_after_votes : Deciding
closes_after_votes = deciding_shown no_close_without_votes

-- the declaration of a resolution is answered so, where there are fewer than five
abbrev pub no_result_of_few : OfficeShowing
no_result_of_few (Some m) (Declare resolution) right = unless_votes 5 m right
no_result_of_few found what right = right

-- the fourth wrong way: a resolution is declared once there are five votes
abbrev pub declares_after_five : Deciding
declares_after_five = deciding_shown no_result_of_few

-- a meeting has votes
abbrev pub has_votes : MeetingLists → Bool
has_votes m = nat_le 1 (length m.casts)

-- the call of a meeting is refused where some meeting has votes
abbrev pub call_without_votes : OfficeLists → Request → Answer Change → Answer Change
call_without_votes office (asked.Desk (CallMeeting new)) right =
    if list_any has_votes office.meetings then refused TooMany else right
call_without_votes office request right = right

-- the fifth wrong way: no meeting is called while votes stand
abbrev pub calls_without_votes : Deciding
calls_without_votes office call = call_without_votes office call.request (decided office call)

-- ---- what tells them apart

-- the office asks at the first moment
abbrev pub asked_by_office : Request → Call
asked_by_office request = record { moment = 0; caller = caller.Office; request = request }

-- the other member's vote on the first resolution
abbrev pub a_vote : Call
a_vote = call_by another another_vote

-- it votes, and then the office closes the poll
abbrev pub vote_and_close : List Call
vote_and_close = a_vote ∷ asked_by_office (asked.Office a_meeting (Close 1)) ∷ []

-- the meeting with a poll on a second resolution, which is closed
abbrev pub meeting_of_two : MeetingLists
meeting_of_two = record (meeting_with_casts []) {
  meeting = record opened_meeting {
    resolutions = opened_meeting.resolutions ++ opened_meeting.resolutions;
  };
  polls = started_poll ∷ record started_poll { resolution = 2; closed = Some 0 } ∷ [];
}

-- it votes, and then the office declares the second resolution
abbrev pub vote_and_declare_another : List Call
vote_and_declare_another = a_vote ∷ asked_by_office (asked.Office a_meeting (Declare 2)) ∷ []

-- four votes of the other member
abbrev pub four_votes : List CastMark
four_votes =
    vote_of_another ∷ vote_of_another ∷ vote_of_another ∷ vote_of_another ∷ []

-- it votes once more, and then the office closes the poll and declares the resolution
abbrev pub vote_and_declare : List Call
vote_and_declare = a_vote
    ∷ asked_by_office (asked.Office a_meeting (Close 1))
    ∷ asked_by_office (asked.Office a_meeting (Declare 1)) ∷ []

-- the meeting that is to be called twenty days after its notice
abbrev pub new_meeting : NewMeeting
new_meeting = record {
  meeting = in_places 16 (codes "N");
  company = Private;
  kind = General;
  given = 0;
  appointed = 20 * 86400;
  record_moment = 0;
  resolutions = opened_meeting.resolutions;
}

-- it votes, and then the office calls another meeting
abbrev pub vote_and_call : List Call
vote_and_call = a_vote ∷ asked_by_office (asked.Desk (CallMeeting new_meeting)) ∷ []

-- everybody's votes on the first resolution
abbrev pub all_votes : Secret
all_votes = record { voters = all_parties; meeting = a_meeting; resolution = 1 }

-- calls in an office have other replies to the office without the votes on the resolution
pub record ShowsVotes (deciding : Deciding) (office : OfficeLists) (calls : List Call)
    : Type 0 where
  pub is_one : IsTrue (is_office office)
  pub apart : let preserved = without (is_secret_call all_votes) calls in
      replies_to_office all_votes calls (run_by deciding office calls).replies
      ≡ replies_to_office all_votes preserved (run_by deciding office preserved).replies
      → ⊥
