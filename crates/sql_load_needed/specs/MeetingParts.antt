-- A meeting with the lists that a request reads besides. For private contracts.
use Rattle.std.specs.Prelude.{◌≡◌, ℕ, List, Option}
use Rattle.std.specs.Option.{option_map_or}
use Rattle.desk_words.specs.declared.office.MeetingLists.{MeetingLists}
use Rattle.desk_words.specs.declared.office.OfficeLists.{OfficeLists}
use Rattle.desk_words.specs.declared.records.Meeting.{Meeting}
use Rattle.desk_words.specs.declared.request.OfficeRequest.{OfficeRequest}
use Rattle.office_decisions.specs.ListsRead.{days_read, lists_read}
use Rattle.row_source.specs.LookUps.{appointments_in, authorities_in, endings_in, register_in}
use Rattle.sql_load_needed.specs.declared.needed_lists.OfficeReads.{OfficeReads}

-- the lists of a meeting with what is read of the meeting that is found; where none is, as before
abbrev pub with_meeting_of : (Meeting → Meeting) → Option MeetingLists → MeetingLists → MeetingLists
with_meeting_of read found m = record m {
  meeting = option_map_or (λ (held : MeetingLists). read held.meeting) found m.meeting;
}

-- a meeting with the lists by which shares are counted, those of the meeting that is found; where
-- none is, nothing
abbrev pub with_shares_of : Option MeetingLists → MeetingLists → MeetingLists
with_shares_of found m = record m {
  register = register_in found;
  appointments = appointments_in found;
  endings = endings_in found;
  authorities = authorities_in found;
}

-- these are the closed days and the lists that are read
abbrev pub IsReadWith : List ℕ → List ℕ → MeetingLists → MeetingLists → Type 0
IsReadWith closed days lists read = (closed ≡ days) × (lists ≡ read)

-- these are the closed days and the lists of a meeting that the answer to a request reads
pub record AreReadFor (asked : OfficeRequest) (office : OfficeLists) (m : MeetingLists)
    (read : OfficeReads) : Type 0 where
  pub closed : read.closed ≡ days_read asked office.closed
  pub lists : read.lists ≡ lists_read asked m
