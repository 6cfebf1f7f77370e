-- Own things are one's own: what a party is told of a meeting as its own is read from the notice,
-- the polls, and the records that concern it.
use Rattle.std.specs.Prelude.{◌≡◌, Bool, ◌&&◌, ◌||◌, List, filter}
use Rattle.std.specs.List.{list_any}
use Rattle.std.specs.Option.{option_map_or}
use Rattle.vocabulary.specs.Names.{same_name}
use Rattle.desk_words.specs.ViewTypes.{Day, MeetingName, Moment, Party}
use Rattle.desk_words.specs.declared.office.MeetingLists.{MeetingLists}
use Rattle.desk_words.specs.declared.office.OfficeLists.{OfficeLists}
use Rattle.desk_words.specs.declared.records.Appointment.{Appointment}
use Rattle.desk_words.specs.declared.records.Authority.{Authority}
use Rattle.desk_words.specs.declared.records.Ending.{Ending}
use Rattle.desk_words.specs.declared.records.RegisterRow.{RegisterRow}
use Rattle.proxy_rules.specs.Holdings.{is_ended_of, is_given_by}
use Rattle.proxy_rules.specs.Parties.{authorises, is_authority_of, is_cast_by, is_demanded_by, is_presence_of, names}
use Rattle.party_views.specs.OwnViews.{nothing_of}
use Rattle.party_views.specs.Views.{meeting_at, own_in, own_of}
use Rattle.party_views.specs.declared.views.OwnView.{OwnView}

-- what shows a party its own things in a meeting, by the closed days as they stand, at a moment
abbrev pub OwnThingsFunction : Type 0
OwnThingsFunction = MeetingLists → List Day → Party → Moment → OwnView

-- the member named the party as its proxy (section 324)
abbrev pub has_named : MeetingLists → Party → Party → Bool
has_named m party member =
    list_any (λ (a : Appointment). names party a && is_given_by member a) m.appointments

-- the corporation authorised the party (section 323)
abbrev pub has_authorised : MeetingLists → Party → Party → Bool
has_authorised m party corporation =
    list_any (λ (a : Authority). authorises party a && is_authority_of corporation a) m.authorities

-- a row of the register concerns the party whose it is, the proxies whom its member named, and the
-- persons whom its corporation authorised
abbrev pub row_concerns : MeetingLists → Party → RegisterRow → Bool
row_concerns m party row =
    same_name row.member party || has_named m party row.member
    || has_authorised m party row.member

-- an appointment concerns the party that gave it, the proxy whom it names, and each other proxy
-- whom its member named: the later may replace the earlier (section 324)
abbrev pub appointment_concerns : MeetingLists → Party → Appointment → Bool
appointment_concerns m party a =
    is_given_by party a || names party a || has_named m party a.member

-- an ending concerns the party that made it, and each proxy whom its member named (section 330)
abbrev pub ending_concerns : MeetingLists → Party → Ending → Bool
ending_concerns m party e = is_ended_of party e || has_named m party e.member

-- an authority concerns the corporation that gave it and the person who has it (section 323)
abbrev pub authority_concerns : Party → Authority → Bool
authority_concerns party a = is_authority_of party a || authorises party a

-- what of a meeting concerns a party: the notice and the polls, which are public, and those records
-- that concern it, in their order; of presences, demands and votes its own alone
abbrev pub what_concerns : Party → MeetingLists → MeetingLists
what_concerns party m = record m {
  register = filter (row_concerns m party) m.register;
  appointments = filter (appointment_concerns m party) m.appointments;
  endings = filter (ending_concerns m party) m.endings;
  authorities = filter (authority_concerns party) m.authorities;
  presences = filter (is_presence_of party) m.presences;
  demands = filter (is_demanded_by party) m.demands;
  casts = filter (is_cast_by party) m.casts;
}

-- it shows own things alone: two meetings that agree in what concerns a party are one to it
abbrev pub DependsOnOwnAlone : OwnThingsFunction → Type 0
DependsOnOwnAlone view =
    (one other : MeetingLists) (closed : List Day) (party : Party) (now : Moment)
    → what_concerns party one ≡ what_concerns party other
    → view one closed party now ≡ view other closed party now

-- the own things of a party in an office are those in the meeting of the name, and none where there
-- is no such meeting
abbrev pub OwnThingsAreOfTheMeeting : Type 0
OwnThingsAreOfTheMeeting =
    (office : OfficeLists) (party : Party) (meeting : MeetingName) (now : Moment)
    → own_of office party meeting now
    ≡ option_map_or (λ m. own_in m office.closed party now) (meeting_at office meeting)
    (nothing_of party)
