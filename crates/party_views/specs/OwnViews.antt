-- A party's own things, from its rows in a meeting and the public record of the meeting.
use Rattle.std.specs.Prelude.{ℕ, Bool, false, ◌==◌, List, [], map, filter, find, reverse, Option, Some, None, option_map, if◌then◌else◌}
use Rattle.std.specs.Option.{option_map_or}
use Rattle.desk_words.specs.Names.{same_name}
use Rattle.desk_words.specs.ViewTypes.{Day, Moment, Number, Party, SessionNumber}
use Rattle.desk_words.specs.declared.own_things.Authorised.{Authorised}
use Rattle.desk_words.specs.declared.own_things.Given.{Given}
use Rattle.desk_words.specs.declared.own_things.PollGoverned.{PollGoverned}
use Rattle.desk_words.specs.declared.own_things.Received.{Received}
use Rattle.desk_words.specs.declared.own_things.SessionGoverned.{SessionGoverned}
use Rattle.desk_words.specs.declared.records.Appointment.{Appointment}
use Rattle.desk_words.specs.declared.records.Ending.{Ending}
use Rattle.desk_words.specs.declared.records.Meeting.{Meeting}
use Rattle.desk_words.specs.declared.records.Poll.{Poll}
use Rattle.desk_words.specs.declared.records.RegisterRow.{RegisterRow}
use Rattle.vocabulary.specs.Places.{Places}
use Rattle.vocabulary.specs.declared.kinds.HolderKind.{HolderKind}
use Rattle.vocabulary.specs.declared.kinds.HolderKind.TheVariants.{Individual, Corporation, Treasury}
use Rattle.proxy_rules.specs.Cutoffs.{cutoffs_of, is_late_poll}
use Rattle.proxy_rules.specs.Governing.{governed_in}
use Rattle.proxy_rules.specs.Holdings.{is_valid_holding}
use Rattle.proxy_rules.specs.Shares.{is_individual}
use Rattle.proxy_rules.specs.Uses.{Acts, Votes, Vote}
use Rattle.proxy_rules.specs.declared.holdings.Holding.{Holding}
use Rattle.proxy_rules.specs.declared.meeting_records.Cutoffs.{Cutoffs}
use Rattle.party_views.specs.declared.own_rows.AuthorityRows.{AuthorityRows}
use Rattle.party_views.specs.declared.own_rows.MemberRows.{MemberRows}
use Rattle.party_views.specs.declared.own_rows.OwnCasts.TheVariants.{All}
use Rattle.party_views.specs.declared.own_rows.OwnRows.{OwnRows}
use Rattle.party_views.specs.declared.views.OwnView.{OwnView}
use Rattle.party_views.specs.Public.{PublicRecord}
use Rattle.party_views.specs.SessionLists.{each_session}

-- the moment at which the party ended its appointment of a number, of whose endings there is one at
-- most (section 330)
abbrev pub ended_at : List Ending → Number → Option Moment
ended_at ended number =
    option_map (λ (e : Ending). e.moment)
    (find (λ (e : Ending). e.number == number) (reverse ended))

-- an appointment of the party's, with its ending (section 330)
abbrev pub given_in : List Ending → Appointment → Given
given_in ended a = record { appointment = a; ended = ended_at ended a.number }

-- the shares of a holding if a corporation holds them, and else 0
abbrev pub shares_of_kind : HolderKind → ℕ → ℕ
shares_of_kind Corporation shares = shares
shares_of_kind Individual shares = 0
shares_of_kind Treasury shares = 0

-- the shares of a row, 0 where it is no corporation's
abbrev pub shares_in : Option RegisterRow → ℕ
shares_in None = 0
shares_in (Some row) = shares_of_kind row.kind row.shares

-- shares are held as an individual
abbrev pub holds_as_individual : Option RegisterRow → Bool
holds_as_individual None = false
holds_as_individual (Some row) = is_individual row.kind

-- an authority's corporation, with its shares in the register (section 323)
abbrev pub authorised_in_rows : AuthorityRows → Authorised
authorised_in_rows rows = record {
  corporation = rows.authority.corporation;
  shares = shares_in rows.row;
}

-- the places that the appointment of a number governs in a holding that an office keeps; in any
-- other it governs none (section 324)
abbrev pub governed_in_holding : Cutoffs → Holding → Number → List Places
governed_in_holding cutoffs holding number =
    if is_valid_holding holding then governed_in cutoffs holding number else []

-- the rows of a member, of which there are one at most
abbrev pub rows_by : List MemberRows → Party → Option MemberRows
rows_by members member =
    find (λ (rows : MemberRows). same_name rows.member member) (reverse members)

-- the places that a member's appointment of a number governs, by the member's shares, appointments
-- and endings (section 324)
abbrev pub governed_by : List MemberRows → Cutoffs → Party → Number → List Places
governed_by members cutoffs member number =
    option_map_or (λ (rows : MemberRows). governed_in_holding cutoffs rows.holding number)
    (rows_by members member) []

-- what it governs in the session of a number: for acts, and for votes (sections 327 and 330)
abbrev pub session_governed : List MemberRows → List Day → Meeting → Moment → Party → Number
    → SessionNumber → SessionGoverned
session_governed members closed meeting now member number session = record {
  acts = governed_by members (cutoffs_of meeting (Acts session) closed now) member number;
  votes = governed_by members (cutoffs_of meeting (Votes session) closed now) member number;
}

-- what it governs for votes on a poll (section 327)
abbrev pub poll_governed : List MemberRows → List Day → Meeting → Moment → Party → Number → Poll
    → PollGoverned
poll_governed members closed meeting now member number poll = record {
  resolution = poll.resolution;
  governs = governed_by members (cutoffs_of meeting (Vote poll) closed now) member number;
}

-- an appointment as its proxy knows it, with the places that it governs: without its number, which
-- counts what the member gave to others (sections 324 and 324A)
abbrev pub known_to_proxy : Appointment → List SessionGoverned → List PollGoverned → Received
known_to_proxy a sessions polls = record {
  member = a.member;
  range = a.range;
  instructions = a.instructions;
  moment = a.moment;
  sessions = sessions;
  polls = polls;
}

-- an appointment as its proxy knows it, with what it governs in each session, and for votes on each
-- late poll, by the closed days as they stand (section 324)
abbrev pub received_by : List MemberRows → List Day → Meeting → List Poll → Moment → Appointment
    → Received
received_by members closed meeting polls now a =
    known_to_proxy a
    (each_session (session_governed members closed meeting now a.member a.number) meeting)
    (map (poll_governed members closed meeting now a.member a.number)
    (filter (is_late_poll closed) polls))

-- the own things of a party where there is no meeting
abbrev pub nothing_of : Party → OwnView
nothing_of party = record {
  party = party;
  row = None;
  given = [];
  given_count = 0;
  persons = [];
  received = [];
  authorised = [];
  presences = [];
  demands = [];
  casts = All [];
}

-- the own things of a party in a meeting, by the closed days as they stand and by these polls, at a
-- moment
abbrev pub own_by : OwnRows → List Day → Meeting → List Poll → Moment → OwnView
own_by rows closed meeting polls now = record {
  party = rows.party;
  row = rows.row;
  given = map (given_in rows.ended) rows.given;
  given_count = rows.given_count;
  persons = rows.persons;
  received = map (received_by rows.members closed meeting polls now) rows.received;
  authorised = map authorised_in_rows rows.authorised;
  presences = rows.presences;
  demands = rows.demands;
  casts = rows.casts;
}

-- the own things of a party at a moment, from its rows in a meeting and the public record of the
-- meeting
abbrev pub own_from : OwnRows → PublicRecord → Moment → OwnView
own_from rows public now =
    option_map_or (λ meeting. own_by rows public.closed meeting public.polls now) public.meeting
    (nothing_of rows.party)
