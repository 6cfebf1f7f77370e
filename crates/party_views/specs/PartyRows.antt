-- The rows of a meeting from which a party's own things are made: look-ups and filters alone.
use Rattle.std.specs.Prelude.{not, List, [], ◌∷◌, length, map, filter, Option, Some, None}
use Rattle.desk_words.specs.Names.{same_name}
use Rattle.desk_words.specs.ViewTypes.{Party, SessionNumber}
use Rattle.desk_words.specs.declared.office.MeetingLists.{MeetingLists}
use Rattle.desk_words.specs.declared.records.Appointment.{Appointment}
use Rattle.desk_words.specs.declared.records.Authority.{Authority}
use Rattle.desk_words.specs.declared.records.PresenceMark.{PresenceMark}
use Rattle.proxy_rules.specs.Holdings.{claims_of, holding_of, is_ended_of, is_given_by}
use Rattle.proxy_rules.specs.Parties.{authorises, is_authority_of, is_cast_by, is_demanded_by, is_presence_of, names}
use Rattle.proxy_rules.specs.Shares.{row_of}
use Rattle.party_views.specs.declared.own_rows.AuthorityRows.{AuthorityRows}
use Rattle.party_views.specs.declared.own_rows.MemberRows.{MemberRows}
use Rattle.party_views.specs.declared.own_rows.OwnCasts.TheVariants.{All}
use Rattle.party_views.specs.declared.own_rows.OwnRows.{OwnRows}

-- the parties, each once, where it first stands
abbrev pub parties_once : List Party → List Party
parties_once [] = []
parties_once (party ∷ parties) =
    party ∷ filter (λ other. not (same_name other party)) (parties_once parties)

-- the members who gave these appointments, each once
abbrev pub givers : List Appointment → List Party
givers given = parties_once (map (λ (a : Appointment). a.member) given)

-- a member, with its shares, the claims of its appointments, and its endings in a meeting
abbrev pub member_in : MeetingLists → Party → MemberRows
member_in m member = record {
  member = member;
  holding = claims_of (holding_of m.register m.appointments m.endings member);
}

-- an authority, with its corporation's row in the register of a meeting
abbrev pub authority_rows_in : MeetingLists → Authority → AuthorityRows
authority_rows_in m a = record { authority = a; row = row_of m.register a.corporation }

-- the sessions in which a party is marked present, in order of receipt
abbrev pub presences_of : Party → List PresenceMark → List SessionNumber
presences_of party presences =
    map (λ (mark : PresenceMark). mark.session) (filter (is_presence_of party) presences)

-- the rows of a party in a meeting
abbrev pub own_rows : MeetingLists → Party → OwnRows
own_rows m party = record {
  party = party;
  row = row_of m.register party;
  given = filter (is_given_by party) m.appointments;
  given_count = length (filter (is_given_by party) m.appointments);
  ended = filter (is_ended_of party) m.endings;
  persons = filter (is_authority_of party) m.authorities;
  received = filter (names party) m.appointments;
  members = map (member_in m) (givers (filter (names party) m.appointments));
  authorised = map (authority_rows_in m) (filter (authorises party) m.authorities);
  presences = presences_of party m.presences;
  demands = filter (is_demanded_by party) m.demands;
  casts = All (filter (is_cast_by party) m.casts);
}

-- the rows of a party where there is no meeting
abbrev pub no_own_rows : Party → OwnRows
no_own_rows party = record {
  party = party;
  row = None;
  given = [];
  given_count = 0;
  ended = [];
  persons = [];
  received = [];
  members = [];
  authorised = [];
  presences = [];
  demands = [];
  casts = All [];
}

-- the rows of a party in a meeting, if there is one
abbrev pub own_rows_in : Option MeetingLists → Party → OwnRows
own_rows_in None party = no_own_rows party
own_rows_in (Some m) party = own_rows m party
