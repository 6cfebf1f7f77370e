-- A wrong reading of a meeting for the office, and two offices that it does not distinguish.
use Rattle.std.specs.Prelude.{◌≡◌, IsTrue, [], ◌∷◌}
use Rattle.desk_words.specs.Office.{is_office}
use Rattle.desk_words.specs.ViewTypes.{MeetingName}
use Rattle.desk_words.specs.declared.office.MeetingLists.{MeetingLists}
use Rattle.desk_words.specs.declared.office.OfficeLists.{OfficeLists}
use Rattle.desk_words.specs.declared.request.OfficeRequest.{OfficeRequest}
use Rattle.office_decisions.specs.ListsRead.{lists_read}
use Rattle.meeting_core.specs.Decisions.{office_call}
use Rattle.meeting_core.specs.Step.{decided}
use Rattle.laws_step.specs.OfficeReads.{AgreeIn, ListsReading}

-- who is present is not read
abbrev pub reads_no_presence : ListsReading
reads_no_presence what m = record (lists_read what m) { presences = [] }

-- an office of one meeting
abbrev pub lone_office : MeetingLists → OfficeLists
lone_office m = record { keys = []; closed = []; meetings = m ∷ [] }

-- two offices that agree on what is read decide a request of the office otherwise
pub record ReadsTooFew (reading : ListsReading) (one other : OfficeLists) (meeting : MeetingName)
    (what : OfficeRequest) : Type 0 where
  pub first : IsTrue (is_office one)
  pub second : IsTrue (is_office other)
  pub agree : AgreeIn reading meeting what one other
  pub apart : decided one (office_call meeting 0 what)
      ≡ decided other (office_call meeting 0 what) → ⊥
