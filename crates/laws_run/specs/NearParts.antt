-- What of an office concerns a party: the public record of each meeting, and there what is the
-- party's own or of those who may name it.
use Rattle.std.specs.Prelude.{Bool, true, ◌&&◌, ◌||◌, List, [], filter, Option, Some, None, if◌then◌else◌, IsTrue}
use Rattle.std.specs.List.{list_all, list_any}
use Rattle.vocabulary.specs.Names.{same_name}
use Rattle.desk_words.specs.Office.{implies}
use Rattle.desk_words.specs.ViewTypes.{MeetingName, Party, SessionNumber}
use Rattle.desk_words.specs.declared.office.MeetingLists.{MeetingLists}
use Rattle.desk_words.specs.declared.office.OfficeLists.{OfficeLists}
use Rattle.desk_words.specs.declared.records.Appointment.{Appointment}
use Rattle.desk_words.specs.declared.records.Authority.{Authority}
use Rattle.desk_words.specs.declared.records.CastMark.{CastMark}
use Rattle.desk_words.specs.declared.records.DemandMark.{DemandMark}
use Rattle.desk_words.specs.declared.records.Ending.{Ending}
use Rattle.desk_words.specs.declared.records.RegisterRow.{RegisterRow}
use Rattle.proxy_rules.specs.Parties.{authorises, is_cast_by, is_demanded_by, names}
use Rattle.proxy_rules.specs.Shares.{row_of}
use Rattle.party_views.specs.Public.{PublicRecord}
use Rattle.party_views.specs.PartyRows.{presences_of}
use Rattle.party_views.specs.Views.{meeting_at, public_of}

-- a party, and its sources: the parties who may name it as proxy or authorise it (sections 323 and
-- 324)
pub record Viewer : Type 0 where
  pub party : Party
  pub sources : List Party

-- the party is one of the sources
abbrev pub is_source : Viewer → Party → Bool
is_source viewer party = list_any (same_name party) viewer.sources

-- the party is the viewer, or one of its sources
abbrev pub is_near : Viewer → Party → Bool
is_near viewer party = same_name party viewer.party || is_source viewer party

-- the rows of the viewer and its sources in a register, looked up by name
abbrev pub rows_near : Viewer → List RegisterRow → Party → Option RegisterRow
rows_near viewer register member =
    if is_near viewer member then row_of register member else None

-- what is near a viewer in a meeting: the rows of the register, the appointments, the endings and
-- the authorities of the viewer and its sources; and of presences, demands and votes its own alone
pub record Near : Type 0 where
  pub row : Party → Option RegisterRow
  pub appointments : List Appointment
  pub endings : List Ending
  pub authorities : List Authority
  pub presences : List SessionNumber
  pub demands : List DemandMark
  pub casts : List CastMark

-- what is near a viewer in a meeting that is found, and nothing where none is
abbrev pub near_in : Viewer → Option MeetingLists → Near
near_in viewer None = record {
  row = rows_near viewer [];
  appointments = [];
  endings = [];
  authorities = [];
  presences = [];
  demands = [];
  casts = [];
}
near_in viewer (Some m) = record {
  row = rows_near viewer m.register;
  appointments = filter (λ (a : Appointment). is_near viewer a.member) m.appointments;
  endings = filter (λ (e : Ending). is_near viewer e.member) m.endings;
  authorities = filter (λ (a : Authority). is_near viewer a.corporation) m.authorities;
  presences = presences_of viewer.party m.presences;
  demands = filter (is_demanded_by viewer.party) m.demands;
  casts = filter (is_cast_by viewer.party) m.casts;
}

-- the part of a meeting that concerns a viewer: its public record, and what is near the viewer
pub record Part : Type 0 where
  pub public : PublicRecord
  pub near : Near

-- the part of the meeting of a name in an office
abbrev pub part_of : Viewer → OfficeLists → MeetingName → Part
part_of viewer office meeting = record {
  public = public_of office meeting;
  near = near_in viewer (meeting_at office meeting);
}

-- in a meeting that is found, whoever named or authorised the viewer is near it
abbrev pub is_sourced_in : Viewer → Option MeetingLists → Bool
is_sourced_in viewer None = true
is_sourced_in viewer (Some m) =
    list_all
    (λ (a : Appointment). implies (names viewer.party a) (is_near viewer a.member))
    m.appointments
    && list_all
    (λ (a : Authority). implies (authorises viewer.party a) (is_near viewer a.corporation))
    m.authorities

-- in each meeting of an office, whoever named or authorised the viewer is near it
abbrev pub IsSourced : Viewer → OfficeLists → Type 0
IsSourced viewer office =
    (meeting : MeetingName) → IsTrue (is_sourced_in viewer (meeting_at office meeting))
