-- What of a party's own things the answer to its request reads.
use Rattle.std.specs.Prelude.{Bool, List, [], map, filter, Option, None, ◌==◌, if◌then◌else◌, is_some, Some}
use Rattle.std.specs.List.{list_any}
use Rattle.desk_words.specs.Names.{same_name}
use Rattle.desk_words.specs.ViewTypes.{Number}
use Rattle.vocabulary.specs.declared.kinds.Capacity.{Capacity}
use Rattle.vocabulary.specs.declared.kinds.Capacity.TheVariants.{Member, Rep, Proxy}
use Rattle.desk_words.specs.declared.own_things.Authorised.{Authorised}
use Rattle.desk_words.specs.declared.own_things.PollGoverned.{PollGoverned}
use Rattle.desk_words.specs.declared.own_things.Received.{Received}
use Rattle.desk_words.specs.declared.records.Appointment.{Appointment}
use Rattle.desk_words.specs.declared.records.Poll.{Poll}
use Rattle.desk_words.specs.declared.records.RegisterRow.{RegisterRow}
use Rattle.desk_words.specs.declared.request.NewCast.{NewCast}
use Rattle.desk_words.specs.declared.request.PartyRequest.{PartyRequest}
use Rattle.desk_words.specs.declared.request.PartyRequest.TheVariants.{Notice, Mine, Appoint, End, Authorise, Attend, Demand, Cast, Instructed}
use Rattle.proxy_rules.specs.Holdings.{is_given_by}
use Rattle.proxy_rules.specs.Instructions.{instructed_on}
use Rattle.party_views.specs.OwnCasts.{counted_on}
use Rattle.party_views.specs.OwnViews.{holds_as_individual, nothing_of}
use Rattle.party_views.specs.PartyRows.{no_own_rows}
use Rattle.party_views.specs.declared.reads.Reads.{Reads}
use Rattle.party_views.specs.declared.reads.Reads.TheVariants.{Nothing, Everything, Given, GivenCount, Persons, Presence, Standing, Vote, AsInstructed}
use Rattle.party_views.specs.declared.own_rows.AuthorityRows.{AuthorityRows}
use Rattle.party_views.specs.declared.own_rows.MemberRows.{MemberRows}
use Rattle.party_views.specs.declared.own_rows.OwnRows.{OwnRows}
use Rattle.party_views.specs.declared.views.OwnView.{OwnView}

-- the poll on a resolution, if there is one
abbrev pub polls_on : Number → List Poll → List Poll
polls_on resolution polls = filter (λ (p : Poll). p.resolution == resolution) polls

-- an appointment, with what it governs in each session and for the late poll on a resolution, and
-- for no other poll
abbrev pub for_poll : Number → Received → Received
for_poll resolution r = record r {
  polls = filter (λ (p : PollGoverned). p.resolution == resolution) r.polls;
}

-- what others gave a party is read for its demand of a poll unless it holds as an individual, since
-- a member may demand one (sections 321 and 329)
abbrev pub unless_individual : {A : Type 0} → Option RegisterRow → List A → List A
unless_individual row list = if holds_as_individual row then [] else list

-- what a vote reads of the party's own row: as a member, the row
abbrev pub row_read : Option RegisterRow → Capacity → Option RegisterRow
row_read row Member = row
row_read row other = None

-- what a vote reads of the corporations that authorised the party: as a representative, that of the
-- member
abbrev pub authorised_read : NewCast → List Authorised → Capacity → List Authorised
authorised_read new authorised Rep =
    filter (λ (a : Authorised). same_name a.corporation new.member) authorised
authorised_read new authorised other = []

-- what a vote reads of the appointments that name the party: as a proxy, those of the member
abbrev pub received_read : NewCast → List Received → Capacity → List Received
received_read new received Proxy =
    map (for_poll new.resolution)
    (filter (λ (r : Received). same_name r.member new.member) received)
received_read new received other = []

-- an appointment instructs its proxy on a resolution (section 324A)
abbrev pub is_instructing : Number → Appointment → Bool
is_instructing resolution a = is_some (instructed_on resolution a.instructions)

-- and as its proxy knows it
abbrev pub is_instructed_by : Number → Received → Bool
is_instructed_by resolution r = is_some (instructed_on resolution r.instructions)

-- the member gave one of the appointments
abbrev pub gave_one_of : List Appointment → MemberRows → Bool
gave_one_of given rows = list_any (is_given_by rows.member) given

-- what of a party's own things the answer to a request reads
abbrev pub reads_of : PartyRequest → Reads
reads_of Notice = Nothing
reads_of Mine = Everything
reads_of (Appoint new) = GivenCount
reads_of (End number) = Given
reads_of (Authorise person) = Persons
reads_of Attend = Presence
reads_of (Demand resolution) = Standing
reads_of (Cast new) = Vote new
reads_of (Instructed resolution) = AsInstructed resolution

-- those of the own things that are read, and nothing in place of the others
abbrev pub own_part : Reads → OwnView → OwnView
own_part Nothing own = nothing_of own.party
own_part Everything own = own
own_part Given own = record (nothing_of own.party) { given = own.given }
own_part GivenCount own = record (nothing_of own.party) { given_count = own.given_count }
own_part Persons own = record (nothing_of own.party) { persons = own.persons }
own_part Presence own = record (nothing_of own.party) { presences = own.presences }
own_part Standing own = record (nothing_of own.party) {
  row = own.row;
  received = unless_individual own.row own.received;
  authorised = unless_individual own.row own.authorised;
  presences = own.presences;
  demands = own.demands;
}
own_part (Vote new) own = record (nothing_of own.party) {
  row = row_read own.row new.capacity;
  received = received_read new own.received new.capacity;
  authorised = authorised_read new own.authorised new.capacity;
  casts = counted_on new.resolution own.casts;
}
own_part (AsInstructed resolution) own = record (nothing_of own.party) {
  received = map (for_poll resolution) (filter (is_instructed_by resolution) own.received);
  casts = counted_on resolution own.casts;
}

-- those of the own things that the answer to a request reads
abbrev pub own_read : PartyRequest → OwnView → OwnView
own_read asked own = own_part (reads_of asked) own

-- what a vote reads of the authorities that were given to the party: as a representative, that of
-- the member
abbrev pub authorities_read : NewCast → List AuthorityRows → Capacity → List AuthorityRows
authorities_read new authorised Rep =
    filter (λ (rows : AuthorityRows). same_name rows.authority.corporation new.member) authorised
authorities_read new authorised other = []

-- what a vote reads of the appointments that name the party: as a proxy, those of the member
abbrev pub appointments_read : NewCast → List Appointment → Capacity → List Appointment
appointments_read new received Proxy = filter (is_given_by new.member) received
appointments_read new received other = []

-- what a vote reads of the members who named the party: as a proxy, the member
abbrev pub members_read : NewCast → List MemberRows → Capacity → List MemberRows
members_read new members Proxy =
    filter (λ (rows : MemberRows). same_name rows.member new.member) members
members_read new members other = []

-- of the rows of a party the appointments that it gave, and their endings
abbrev pub given_read : OwnRows → OwnRows
given_read rows = record (no_own_rows rows.party) { given = rows.given; ended = rows.ended }

-- those of the rows from which what is read is made, and nothing in place of the others
abbrev pub own_rows_part : Reads → OwnRows → OwnRows
own_rows_part Nothing rows = no_own_rows rows.party
own_rows_part Everything rows = rows
own_rows_part Given rows = given_read rows
own_rows_part GivenCount rows = record (no_own_rows rows.party) { given_count = rows.given_count }
own_rows_part Persons rows = record (no_own_rows rows.party) { persons = rows.persons }
own_rows_part Presence rows = record (no_own_rows rows.party) { presences = rows.presences }
own_rows_part Standing rows = record (no_own_rows rows.party) {
  row = rows.row;
  received = unless_individual rows.row rows.received;
  members = unless_individual rows.row rows.members;
  authorised = unless_individual rows.row rows.authorised;
  presences = rows.presences;
  demands = rows.demands;
}
own_rows_part (Vote new) rows = record (no_own_rows rows.party) {
  row = row_read rows.row new.capacity;
  received = appointments_read new rows.received new.capacity;
  members = members_read new rows.members new.capacity;
  authorised = authorities_read new rows.authorised new.capacity;
  casts = counted_on new.resolution rows.casts;
}
own_rows_part (AsInstructed resolution) rows =
    let instructing = filter (is_instructing resolution) rows.received in
    record (no_own_rows rows.party) {
      received = instructing;
      members = filter (gave_one_of instructing) rows.members;
      casts = counted_on resolution rows.casts;
    }

-- those of the rows from which what the answer to a request reads is made
abbrev pub own_rows_read : PartyRequest → OwnRows → OwnRows
own_rows_read asked rows = own_rows_part (reads_of asked) rows

-- the resolution on whose poll alone it is: that of a vote; else none is named
abbrev pub resolution_read : Reads → Option Number
resolution_read (Vote new) = Some new.resolution
resolution_read (AsInstructed resolution) = Some resolution
resolution_read other = None

-- the polls on a resolution, or all where none is named
abbrev pub polls_if_on : Option Number → List Poll → List Poll
polls_if_on None polls = polls
polls_if_on (Some resolution) polls = polls_on resolution polls

-- the polls for which what appointments govern is read: of a vote that on its resolution, and else
-- all
abbrev pub polls_part : Reads → List Poll → List Poll
polls_part reads polls = polls_if_on (resolution_read reads) polls

-- the polls for which the answer to a request reads what appointments govern
abbrev pub polls_read : PartyRequest → List Poll → List Poll
polls_read asked polls = polls_part (reads_of asked) polls
