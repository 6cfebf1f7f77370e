-- The calling of a meeting, and the loading of its register.
use Rattle.std.specs.Prelude.{ℕ, Bool, false, ◌==◌, not, ◌/◌, nat_lt, nat_le, List, [], ◌∷◌, length, Some, None, is_some}
use Rattle.desk_words.specs.Finding.{meeting_named}
use Rattle.desk_words.specs.Refusals.{Case}
use Rattle.desk_words.specs.SameRows.{same_rows}
use Rattle.desk_words.specs.Rulings.{Ruling, loaded}
use Rattle.desk_words.specs.ViewTypes.{Day, Moment}
use Rattle.desk_words.specs.Sessions.{is_opened}
use Rattle.desk_words.specs.declared.limits.TheConstants.{MOST_MEETINGS}
use Rattle.desk_words.specs.declared.change.Change.{Change}
use Rattle.desk_words.specs.declared.change.Change.TheVariants.{AddMeeting}
use Rattle.desk_words.specs.declared.change.MeetingChange.{MeetingChange}
use Rattle.desk_words.specs.declared.change.MeetingChange.TheVariants.{SetRegister}
use Rattle.desk_words.specs.declared.office.MeetingLists.{MeetingLists}
use Rattle.desk_words.specs.declared.records.Meeting.{Meeting}
use Rattle.desk_words.specs.declared.reply.Reply.TheVariants.{Called}
use Rattle.desk_words.specs.declared.request.NewMeeting.{NewMeeting}
use Rattle.desk_words.specs.declared.request.NewRegister.{NewRegister}
use Rattle.vocabulary.specs.declared.refusal.Refusal.TheVariants.{Exists, ShortNotice, TooMany, OtherRecord, Opened, Early}
use Rattle.office_days.specs.Notice.{is_enough_notice}

-- the day of a moment
abbrev pub day_of_moment : Moment → Day
day_of_moment moment = moment / 86400

-- when a meeting is not called: one has that name, the notice is too short (sections 307 and 360),
-- or there are `MOST_MEETINGS`
abbrev pub cases_of_call : Bool → ℕ → NewMeeting → List Case
cases_of_call is_named held new =
    record { refusal = Exists; holds = is_named }
    ∷ record {
      refusal = ShortNotice;
      holds = not (is_enough_notice new.company new.kind new.given (day_of_moment new.appointed));
    }
    ∷ record { refusal = TooMany; holds = nat_le MOST_MEETINGS held } ∷ []

-- it is so by whether one of the meetings has that name, and by how many they are
abbrev pub call_cases : List MeetingLists → NewMeeting → List Case
call_cases meetings new =
    cases_of_call (is_some (meeting_named meetings new.meeting)) (length meetings) new

-- the meeting that is called, for one session (sections 302 and 307)
abbrev pub new_meeting_of : NewMeeting → Meeting
new_meeting_of new = record {
  id = new.meeting;
  company = new.company;
  kind = new.kind;
  given = new.given;
  first = record { appointed = new.appointed; opened = None };
  later = [];
  record_moment = new.record_moment;
  resolutions = new.resolutions;
  loaded = false;
}

-- a meeting is called, which adds it
abbrev pub ruling_of_call : Bool → ℕ → NewMeeting → Ruling Change
ruling_of_call is_named held new = record {
  cases = cases_of_call is_named held new;
  accepted = record { reply = Called; change = Some (AddMeeting (new_meeting_of new)) };
}

-- it is called beside the meetings that are held
abbrev pub call_ruling : List MeetingLists → NewMeeting → Ruling Change
call_ruling meetings new =
    ruling_of_call (is_some (meeting_named meetings new.meeting)) (length meetings) new

-- when a register is not loaded: after the meeting first opened, among others (section 113)
abbrev pub load_cases : Meeting → Moment → NewRegister → List Case
load_cases meeting now new =
    record { refusal = OtherRecord; holds = not (meeting.record_moment == new.record_moment) }
    ∷ record { refusal = Opened; holds = is_opened meeting.first }
    ∷ record { refusal = Early; holds = nat_lt now new.record_moment }
    ∷ []

-- a register is loaded, unless its rows are those that are held
abbrev pub load_ruling : MeetingLists → Moment → NewRegister → Ruling MeetingChange
load_ruling m now new = record {
  cases = load_cases m.meeting now new;
  accepted = loaded (same_rows m.register new.rows) (SetRegister new.rows);
}
