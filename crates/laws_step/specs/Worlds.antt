-- What a party may learn: two offices that agree on what it may know are one to it.
use Rattle.std.specs.Prelude.{◌≡◌, ⊤, IsTrue}
use Rattle.desk_words.specs.Office.{is_office}
use Rattle.desk_words.specs.ViewTypes.{MeetingName, Moment, Party}
use Rattle.desk_words.specs.Rulings.{ruled_answer}
use Rattle.desk_words.specs.declared.answer.Answer.{Answer}
use Rattle.desk_words.specs.declared.caller.Caller.TheVariants as caller
use Rattle.desk_words.specs.declared.change.Change.{Change}
use Rattle.desk_words.specs.declared.office.OfficeLists.{OfficeLists}
use Rattle.desk_words.specs.declared.request.Request.{Request}
use Rattle.desk_words.specs.declared.request.Request.TheVariants as asked
use Rattle.party_views.specs.Views.{public_of, own_of}
use Rattle.desk_words.specs.Changes.{applied_if_any}
use Rattle.meeting_core.specs.Step.{ruling}

-- what answers a party: from an office, the party, the moment and its request, a reply and at most
-- one change
abbrev pub Answering : Type 0
Answering = OfficeLists → Party → Moment → Request → Answer Change

-- the answer to a party
abbrev pub party_answer : Answering
party_answer office party now request =
    ruled_answer (ruling office now (caller.Party party) request)

-- two offices agree on the public record and on a party's own things in a meeting
pub record Agree (one other : OfficeLists) (party : Party) (meeting : MeetingName) (now : Moment)
    : Type 0 where
  pub public : public_of one meeting ≡ public_of other meeting
  pub own : own_of one party meeting now ≡ own_of other party meeting now

-- they agree in the meeting in which a party asks; where it asks what only the office may, it may
-- know nothing
abbrev pub AgreeFor : OfficeLists → OfficeLists → Party → Moment → Request → Type 0
AgreeFor one other party now (asked.Party meeting what) = Agree one other party meeting now
AgreeFor one other party now request = ⊤

-- it reads the views alone: two offices that agree in the meeting in which a party asks give it the
-- same reply and the same change
abbrev pub ReadsTheViews : Answering → Type 0
ReadsTheViews answer =
    (one other : OfficeLists) (party : Party) (now : Moment) (request : Request)
    → AgreeFor one other party now request
    → answer one party now request ≡ answer other party now request

-- it leaves the public record of every meeting as it is
abbrev pub LeavesThePublicRecord : Answering → Type 0
LeavesThePublicRecord answer =
    (office : OfficeLists) (party : Party) (now : Moment) (request : Request)
    (meeting : MeetingName)
    → public_of (applied_if_any office (answer office party now request).change) meeting
    ≡ public_of office meeting

-- two offices that agree on what a party may know are distinguished by the answers to it
pub record Distinguishes (answer : Answering) (one other : OfficeLists) (party : Party)
    (now : Moment)
    (request : Request) : Type 0 where
  pub first : IsTrue (is_office one)
  pub second : IsTrue (is_office other)
  pub agree : AgreeFor one other party now request
  pub apart : answer one party now request ≡ answer other party now request → ⊥
