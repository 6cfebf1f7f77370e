-- A wrong way to count capacities in a session, and a meeting in which an ending between two
-- openings takes one.
use Rattle.std.specs.Prelude.{◌≡◌, IsTrue, [], ◌∷◌, Some}
use Rattle.desk_words.specs.Office.{is_meeting}
use Rattle.desk_words.specs.ViewTypes.{Party, SessionNumber}
use Rattle.desk_words.specs.declared.office.MeetingLists.{MeetingLists}
use Rattle.proxy_rules.specs.Cutoffs.{cutoffs_of}
use Rattle.proxy_rules.specs.Uses.{Votes}
use Rattle.poll_rules.specs.Roles.{roles_of}
use Rattle.laws_step.specs.Adjourned.{CapacityCutoffs, ended_before}
use Rattle.laws_step.specs.WrongAnswers.{a_member, opened_meeting}
use Rattle.laws_step.specs.WrongReplaced.{meeting_replaced}

-- the wrong way: an ending counts up to the opening of the session, as it does for votes
abbrev pub votes_cutoffs : CapacityCutoffs
votes_cutoffs meeting session closed now = cutoffs_of meeting (Votes session) closed now

-- the meeting in which the member appointed the proxy over its one share, and ended that between
-- the openings of two sessions
abbrev pub meeting_ended_between : MeetingLists
meeting_ended_between = record (meeting_replaced []) {
  meeting = record opened_meeting { later = record { appointed = 0; opened = Some 1 } ∷ [] };
  endings = record { member = a_member; number = 1; moment = 0 } ∷ [];
}

-- in a meeting that was first opened at the first moment of all, what was ended since takes a
-- person's capacity in a session
pub record TakesARole (cutoffs_in : CapacityCutoffs) (m : MeetingLists) (session : SessionNumber)
    (person : Party) : Type 0 where
  pub is_one : IsTrue (is_meeting m)
  pub opened : m.meeting.first.opened ≡ Some 0
  pub apart : (let cutoffs = cutoffs_in m.meeting session [] 0 in
      roles_of cutoffs m.register m.appointments m.endings m.authorities person
      ≡ roles_of cutoffs m.register m.appointments (ended_before 0 m.endings) m.authorities person)
      → ⊥
