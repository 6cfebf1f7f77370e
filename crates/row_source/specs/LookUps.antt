-- What a meeting that is found holds, list by list; where none is found, nothing.
use Rattle.std.specs.Prelude.{List, [], filter, map, Option, Some, None}
use Rattle.std.specs.List.{list_any}
use Rattle.std.specs.Option.{option_map_or}
use Rattle.desk_words.specs.ViewTypes.{Number, Party}
use Rattle.desk_words.specs.declared.office.MeetingLists.{MeetingLists}
use Rattle.desk_words.specs.declared.records.Appointment.{Appointment}
use Rattle.desk_words.specs.declared.records.Authority.{Authority}
use Rattle.desk_words.specs.declared.records.CastMark.{CastMark}
use Rattle.desk_words.specs.declared.records.DemandMark.{DemandMark}
use Rattle.desk_words.specs.declared.records.Ending.{Ending}
use Rattle.desk_words.specs.declared.records.PresenceMark.{PresenceMark}
use Rattle.desk_words.specs.declared.records.RegisterRow.{RegisterRow}
use Rattle.proxy_rules.specs.Holdings.{claim_of, claims_of, holding_of, is_ended_of, is_given_by}
use Rattle.proxy_rules.specs.Parties.{authorises, is_authority_of, is_cast_by, is_demanded_by, names}
use Rattle.proxy_rules.specs.Shares.{row_of, shares_by}
use Rattle.party_views.specs.OwnCasts.{counted_on}
use Rattle.party_views.specs.declared.own_rows.OwnCasts.TheVariants.{All}
use Rattle.party_views.specs.RowsRead.{is_instructing}
use Rattle.party_views.specs.PartyRows.{givers, no_own_rows, presences_of}
use Rattle.party_views.specs.declared.own_rows.AuthorityRows.{AuthorityRows}
use Rattle.party_views.specs.declared.own_rows.MemberRows.{MemberRows}
use Rattle.party_views.specs.declared.own_rows.OwnRows.{OwnRows}
use Rattle.row_source.specs.declared.members.ReceivedRows.{ReceivedRows}
use Rattle.row_source.specs.declared.needed_rows.ActingRows.{ActingRows}
use Rattle.row_source.specs.declared.needed_rows.OwnMarks.{OwnMarks}
use Rattle.row_source.specs.declared.source.GivenTo.{GivenTo}

-- a list of a meeting that is found
abbrev pub list_in : {A : Type 0} → (MeetingLists → List A) → Option MeetingLists → List A
list_in list found = option_map_or list found []

-- its register (section 113)
abbrev pub register_in : Option MeetingLists → List RegisterRow
register_in found = list_in (λ m. m.register) found

-- its appointments (section 324)
abbrev pub appointments_in : Option MeetingLists → List Appointment
appointments_in found = list_in (λ m. m.appointments) found

-- its endings (section 330)
abbrev pub endings_in : Option MeetingLists → List Ending
endings_in found = list_in (λ m. m.endings) found

-- its authorities (section 323)
abbrev pub authorities_in : Option MeetingLists → List Authority
authorities_in found = list_in (λ m. m.authorities) found

-- its presences (section 318)
abbrev pub presences_in : Option MeetingLists → List PresenceMark
presences_in found = list_in (λ m. m.presences) found

-- its demands (sections 321 and 329)
abbrev pub demands_in : Option MeetingLists → List DemandMark
demands_in found = list_in (λ m. m.demands) found

-- its votes (sections 284 and 322)
abbrev pub casts_in : Option MeetingLists → List CastMark
casts_in found = list_in (λ m. m.casts) found

-- its appointments that name a party (section 324)
abbrev pub naming_in : Option MeetingLists → Party → List Appointment
naming_in found party = filter (names party) (appointments_in found)

-- those of them that a member gave
abbrev pub naming_by_in : Option MeetingLists → Party → Party → List Appointment
naming_by_in found member party = filter (is_given_by member) (naming_in found party)

-- and what of all that the member gave decides which shares they govern
abbrev pub given_to_in : Option MeetingLists → Party → Party → GivenTo
given_to_in found member party = record {
  received = naming_by_in found member party;
  claims = map claim_of (filter (is_given_by member) (appointments_in found));
}

-- its authorities that a party was given (section 323)
abbrev pub trusting_in : Option MeetingLists → Party → List Authority
trusting_in found party = filter (authorises party) (authorities_in found)

-- those of them that a corporation gave
abbrev pub trusting_for_in : Option MeetingLists → Party → Party → List Authority
trusting_for_in found corporation party =
    filter (is_authority_of corporation) (trusting_in found party)

-- or of all, where no giver is named
abbrev pub trusting_from : Option MeetingLists → Option Party → Party → List Authority
trusting_from found None party = trusting_in found party
trusting_from found (Some corporation) party = trusting_for_in found corporation party

-- its votes that a party cast
abbrev pub casts_by : Option MeetingLists → Party → List CastMark
casts_by found party = filter (is_cast_by party) (casts_in found)

-- a member, with its shares, these claims of its appointments, and its endings
abbrev pub member_with : Option MeetingLists → Party → List Appointment → MemberRows
member_with found member claims = record {
  member = member;
  holding = record {
    shares = shares_by (register_in found) member;
    appointed = claims;
    ended = filter (is_ended_of member) (endings_in found);
  };
}

-- a member, with its shares, the claims of its appointments, and its endings
abbrev pub member_at : Option MeetingLists → Party → MemberRows
member_at found member = record {
  member = member;
  holding =
      claims_of (holding_of (register_in found) (appointments_in found) (endings_in found) member);
}

-- of the members who gave these appointments, each once, those who gave one of those
abbrev pub givers_among : List Appointment → List Appointment → List Party
givers_among given those = filter (λ member. list_any (is_given_by member) those) (givers given)

-- of these appointments those that instruct on a resolution, or all where none is named (section
-- 324A)
abbrev pub chosen : Option Number → List Appointment → List Appointment
chosen None given = given
chosen (Some resolution) given = filter (is_instructing resolution) given

-- the members who gave those, in the order in which they first gave one of all
abbrev pub chosen_givers : Option Number → List Appointment → List Party
chosen_givers None given = givers given
chosen_givers (Some resolution) given =
    givers_among given (filter (is_instructing resolution) given)

-- those of these appointments that instruct on a resolution, or all where none is named; and the
-- members who gave them
abbrev pub with_givers : Option MeetingLists → Option Number → List Appointment → ReceivedRows
with_givers found on given = record {
  received = chosen on given;
  members = map (member_at found) (chosen_givers on given);
}

-- an authority, with its corporation's row in the register
abbrev pub authority_at : Option MeetingLists → Authority → AuthorityRows
authority_at found a = record { authority = a; row = row_of (register_in found) a.corporation }

-- what others gave a party to act by: the appointments that name it, with the members who gave
-- them, and the authorities (sections 323 and 324)
abbrev pub acting_for : Option MeetingLists → Party → ActingRows
acting_for found party = record {
  received = naming_in found party;
  members = (with_givers found None (naming_in found party)).members;
  authorised = map (authority_at found) (trusting_in found party);
}

-- a party's own row, its presence and its demands (sections 113, 318 and 321)
abbrev pub own_marks : Option MeetingLists → Party → OwnMarks
own_marks found party = record {
  row = row_of (register_in found) party;
  presences = presences_of party (presences_in found);
  demands = filter (is_demanded_by party) (demands_in found);
}

-- what a vote as a member reads: the party's own row, and how many votes it cast on that resolution
abbrev pub for_member : Option MeetingLists → Party → Number → OwnRows
for_member found party resolution = record (no_own_rows party) {
  row = row_of (register_in found) party;
  casts = counted_on resolution (All (casts_by found party));
}
