-- A proxy learns of its member's other appointments what they leave to it, and nothing else
-- (sections 324 and 330).
use Rattle.std.specs.Prelude.{◌≡◌, true, List, [], ◌++◌, All, filter, map, option_map}
use Rattle.std.specs.List.{AllZip}
use Rattle.desk_words.specs.Office.{is_meeting}
use Rattle.desk_words.specs.ViewTypes.{Day, Moment, Party, SessionNumber}
use Rattle.desk_words.specs.declared.office.MeetingLists.{MeetingLists}
use Rattle.desk_words.specs.declared.records.Appointment.{Appointment}
use Rattle.desk_words.specs.declared.records.Authority.{Authority}
use Rattle.desk_words.specs.declared.records.Poll.{Poll}
use Rattle.desk_words.specs.declared.records.RegisterRow.{RegisterRow}
use Rattle.proxy_rules.specs.Cutoffs.{cutoffs_of, is_late_poll}
use Rattle.proxy_rules.specs.Holdings.{is_ended_of, is_given_by}
use Rattle.proxy_rules.specs.Parties.{authorises, names}
use Rattle.proxy_rules.specs.Shares.{row_of}
use Rattle.proxy_rules.specs.Uses.{Acts, Votes, Vote}
use Rattle.proxy_rules.specs.declared.meeting_records.Cutoffs.{Cutoffs}
use Rattle.party_views.specs.SessionLists.{each_session}
use Rattle.laws_step.specs.DemandsAndGoverning.{shares_governed}
use Rattle.laws_step.specs.OwnThings.{OwnThingsFunction, what_concerns}

-- the cutoffs for acts in each session of a meeting, those for votes in each, and those for votes
-- on each of its late polls (sections 327 and 330)
abbrev pub all_cutoffs : MeetingLists → List Day → Moment → List Cutoffs
all_cutoffs m closed now =
    each_session (λ (session : SessionNumber). cutoffs_of m.meeting (Acts session) closed now)
    m.meeting
    ++ each_session (λ (session : SessionNumber). cutoffs_of m.meeting (Votes session) closed now)
    m.meeting
    ++ map (λ (poll : Poll). cutoffs_of m.meeting (Vote poll) closed now)
    (filter (is_late_poll closed) m.polls)

-- an appointment without its number, which counts what the member gave to others
abbrev pub without_number : Appointment → Appointment
without_number a = record a { number = 0 }

-- two appointments, each in its meeting, are one to the proxy whom they name: they are the same but
-- for their numbers, and govern the same shares, in each session and for each late poll (sections
-- 324, 327 and 330)
pub record AreSameToTheProxy (one other : MeetingLists) (closed : List Day) (now : Moment)
    (a b : Appointment) : Type 0 where
  pub same : without_number a ≡ without_number b
  pub governs : All (λ cutoffs. shares_governed one cutoffs a ≡ shares_governed other cutoffs b)
      (all_cutoffs one closed now)

-- a row of the register without the name of its member and the pence that are paid up
abbrev pub without_name_and_pence : RegisterRow → RegisterRow
without_name_and_pence row = record row { name = []; paid = 0 }

-- the rows of a corporation in two meetings differ in name and pence at most (section 113)
abbrev pub HoldsTheSame : MeetingLists → MeetingLists → Party → Type 0
HoldsTheSame one other corporation =
    option_map without_name_and_pence (row_of one.register corporation)
    ≡ option_map without_name_and_pence (row_of other.register corporation)

-- a meeting without its register, its appointments and its endings
abbrev pub without_holdings : MeetingLists → MeetingLists
without_holdings m = record m { register = []; appointments = []; endings = [] }

-- two meetings leave the same to a party: its own row, appointments and endings are the same; the
-- appointments that name it are one to it; the corporations that authorised it hold the same; and
-- nothing else differs that concerns it. What the members who named it gave to others and ended may
-- differ, and so may their rows (sections 323, 324 and 330)
pub record LeaveTheSame (closed : List Day) (party : Party) (now : Moment)
    (one other : MeetingLists) : Type 0 where
  pub row : row_of one.register party ≡ row_of other.register party
  pub given : filter (is_given_by party) one.appointments
      ≡ filter (is_given_by party) other.appointments
  pub ended : filter (is_ended_of party) one.endings ≡ filter (is_ended_of party) other.endings
  pub received : AllZip (AreSameToTheProxy one other closed now)
      (filter (names party) one.appointments) (filter (names party) other.appointments)
  pub corporations : All (λ (a : Authority). HoldsTheSame one other a.corporation)
      (filter (authorises party) one.authorities)
  pub rest : without_holdings (what_concerns party one)
      ≡ without_holdings (what_concerns party other)

-- it shows a party what is left to it: two meetings that leave the same to a party are one to it
abbrev pub DependsOnWhatIsLeft : OwnThingsFunction → Type 0
DependsOnWhatIsLeft view =
    (one other : MeetingLists) (closed : List Day) (party : Party) (now : Moment)
    → is_meeting one ≡ true → is_meeting other ≡ true
    → LeaveTheSame closed party now one other
    → view one closed party now ≡ view other closed party now

-- it shows nothing of the names and pence in the rows of others: two meetings are one to a party
-- whose registers differ in these alone, with its own row the same (section 113)
abbrev pub IgnoresNamesAndPence : OwnThingsFunction → Type 0
IgnoresNamesAndPence view =
    (m : MeetingLists) (rows : List RegisterRow) (closed : List Day) (party : Party) (now : Moment)
    → is_meeting m ≡ true → is_meeting (record m { register = rows }) ≡ true
    → map without_name_and_pence m.register ≡ map without_name_and_pence rows
    → row_of m.register party ≡ row_of rows party
    → view m closed party now ≡ view (record m { register = rows }) closed party now
