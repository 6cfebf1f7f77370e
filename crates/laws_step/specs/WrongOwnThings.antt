-- Counterexamples: views of own things that leak, and for each two meetings that it distinguishes
-- and that differ in another member's record alone.
use Rattle.std.specs.Prelude.{◌≡◌, IsTrue, [], ◌∷◌, map}
use Rattle.desk_words.specs.Office.{is_meeting}
use Rattle.desk_words.specs.ViewTypes.{Party}
use Rattle.desk_words.specs.declared.office.MeetingLists.{MeetingLists}
use Rattle.desk_words.specs.declared.records.DemandMark.{DemandMark}
use Rattle.desk_words.specs.declared.records.PresenceMark.{PresenceMark}
use Rattle.party_views.specs.Views.{own_in}
use Rattle.party_views.specs.declared.own_rows.OwnCasts.TheVariants.{All}
use Rattle.laws_step.specs.OwnThings.{OwnThingsFunction, what_concerns}
use Rattle.laws_step.specs.WrongAnswers.{another, meeting_with_casts}

-- everybody's votes are shown as the party's
abbrev pub votes_of_all : OwnThingsFunction
votes_of_all m closed party now = record (own_in m closed party now) { casts = All m.casts }

-- the party is told that it is present in each session in which anybody is
abbrev pub presence_of_any : OwnThingsFunction
presence_of_any m closed party now = record (own_in m closed party now) {
  presences = map (λ (mark : PresenceMark). mark.session) m.presences;
}

-- a demand, as though the party had made it
abbrev pub as_demanded_by : Party → DemandMark → DemandMark
as_demanded_by party demand = record demand { party = party }

-- everybody's demands are shown as though the party had made them: it learns how many there are,
-- and nobody's name
abbrev pub demands_of_all : OwnThingsFunction
demands_of_all m closed party now = record (own_in m closed party now) {
  demands = map (as_demanded_by party) m.demands;
}

-- the meeting of two members, in which nothing is received
abbrev pub quiet_meeting : MeetingLists
quiet_meeting = meeting_with_casts []

-- the same meeting, where the other member is present
abbrev pub meeting_with_presence : MeetingLists
meeting_with_presence = record quiet_meeting {
  presences = record { session = 1; party = another; moment = 0 } ∷ [];
}

-- the same meeting, where the other member demanded the poll
abbrev pub meeting_with_demand : MeetingLists
meeting_with_demand = record quiet_meeting {
  demands = record { session = 1; resolution = 1; party = another; moment = 0 } ∷ [];
}

-- a view distinguishes two meetings that agree in what concerns a party
pub record ShowsMore (view : OwnThingsFunction) (one other : MeetingLists) (party : Party)
    : Type 0 where
  pub first : IsTrue (is_meeting one)
  pub second : IsTrue (is_meeting other)
  pub agree : what_concerns party one ≡ what_concerns party other
  pub apart : view one [] party 0 ≡ view other [] party 0 → ⊥
