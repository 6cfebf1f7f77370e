-- The part of a meeting that concerns a viewer, what it tells, and how what is entered changes it.
use Rattle.std.proofs.Common.{◌≡◌, ℕ, Bool, true, false, ◌||◌, cond, List, [], ◌∷◌, ◌++◌, length, map, filter, refl, ap, sym, ◌∙◌}
use Rattle.std.specs.Prelude.{Option, Some, None, option_map}
use Rattle.std.specs.Cmp.{first_so, second_so}
use Rattle.std.specs.Cmp.Derive.{both_true}
use Rattle.std.specs.List.{list_all}
use Rattle.std.specs.Option.{option_map_or}
use Rattle.std.proofs.lemmas.List.Folds.{list_all-map}
use Rattle.vocabulary.specs.Names.{same_name}
use Rattle.desk_words.proofs.WordRowLemmas.{same_name-true, same_name-refl}
use Rattle.desk_words.specs.Changes.{change_meeting, entered}
use Rattle.desk_words.specs.Office.{implies}
use Rattle.desk_words.specs.declared.change.Entry.{Entry}
use Rattle.desk_words.specs.declared.change.Entry.TheVariants as entry
use Rattle.desk_words.specs.declared.office.MeetingLists.{MeetingLists}
use Rattle.desk_words.specs.declared.office.OfficeLists.{OfficeLists}
use Rattle.desk_words.specs.declared.records.Appointment.{Appointment}
use Rattle.desk_words.specs.declared.records.Authority.{Authority}
use Rattle.desk_words.specs.declared.records.Ending.{Ending}
use Rattle.desk_words.specs.declared.records.Meeting.{Meeting}
use Rattle.desk_words.specs.declared.records.PresenceMark.{PresenceMark}
use Rattle.desk_words.specs.declared.records.RegisterRow.{RegisterRow}
use Rattle.proxy_rules.specs.Holdings.{claim_of, is_ended_of, is_given_by}
use Rattle.proxy_rules.specs.Parties.{authorises, is_authority_of, is_cast_by, is_demanded_by, is_presence_of, names}
use Rattle.proxy_rules.specs.Shares.{row_of, shares_of}
use Rattle.party_views.specs.declared.own_rows.OwnCasts.TheVariants.{All}
use Rattle.party_views.specs.PartyRows.{authority_rows_in, givers, member_in, no_own_rows, own_rows_in, own_rows}
use Rattle.party_views.specs.Views.{meeting_at, public_of}
use Rattle.party_views.specs.declared.own_rows.AuthorityRows.{AuthorityRows}
use Rattle.party_views.specs.declared.own_rows.MemberRows.{MemberRows}
use Rattle.party_views.specs.declared.own_rows.OwnRows.{OwnRows}
use Rattle.laws_run.specs.NearParts.{IsSourced, Near, Viewer, is_near, is_source, is_sourced_in, near_in, rows_near}
use Rattle.laws_run.proofs.RunsFoundLemmas.{after_entry, entered-name, found-changed}
use Rattle.laws_run.proofs.RunsListLemmas.{all-each_once, all-more, all-of, all-within, filter-among, filter-more, implied, made-more, map-among}

-- ---- rows from what is near

-- the viewer is near itself
pub near-itself : (viewer : Viewer) → is_near viewer viewer.party ≡ true
near-itself viewer = ap (λ b. b || is_source viewer viewer.party) (same_name-refl viewer.party)

-- a row that is near
row-near : (viewer : Viewer) (register : List RegisterRow) (member : List ℕ) → is_near viewer member ≡ true → rows_near viewer register member ≡ row_of register member
row-near viewer register member near = ap (λ b. cond b (row_of register member) None) near

-- who has the name of one who is near is near
named-near : (viewer : Viewer) (name member : List ℕ) → is_near viewer member ≡ true → same_name name member ≡ true → is_near viewer name ≡ true
named-near viewer name member near same = ap (is_near viewer) (same_name-true name member same) ∙ near

abbrev member_near : Near → List ℕ → MemberRows
member_near near member = record {
  member = member;
  holding = record {
    shares = option_map_or shares_of (near.row member) 0;
    appointed = map claim_of (filter (is_given_by member) near.appointments);
    ended = filter (is_ended_of member) near.endings;
  };
}

abbrev authority_near : Near → Authority → AuthorityRows
authority_near near a = record { authority = a; row = near.row a.corporation }

-- the rows of a viewer, from what is near it
abbrev pub rows_from : Viewer → Near → OwnRows
rows_from viewer near = record {
  party = viewer.party;
  row = near.row viewer.party;
  given = filter (is_given_by viewer.party) near.appointments;
  given_count = length (filter (is_given_by viewer.party) near.appointments);
  ended = filter (is_ended_of viewer.party) near.endings;
  persons = filter (is_authority_of viewer.party) near.authorities;
  received = filter (names viewer.party) near.appointments;
  members = map (member_near near) (givers (filter (names viewer.party) near.appointments));
  authorised = map (authority_near near) (filter (authorises viewer.party) near.authorities);
  presences = near.presences;
  demands = near.demands;
  casts = All near.casts;
}

-- the appointments, endings and authorities that one who is near gave
given-near : (viewer : Viewer) (given : List Appointment) (member : List ℕ) → is_near viewer member ≡ true
    → filter (is_given_by member) (filter (λ (a : Appointment). is_near viewer a.member) given) ≡ filter (is_given_by member) given
given-near viewer given member near =
    filter-among (is_given_by member) (λ (a : Appointment). is_near viewer a.member) given
    (all-of (λ (a : Appointment). implies (is_given_by member a) (is_near viewer a.member)) given (λ a. implied (is_given_by member a) (is_near viewer a.member) (named-near viewer a.member member near)))

ended-near : (viewer : Viewer) (ended : List Ending) (member : List ℕ) → is_near viewer member ≡ true
    → filter (is_ended_of member) (filter (λ (e : Ending). is_near viewer e.member) ended) ≡ filter (is_ended_of member) ended
ended-near viewer ended member near =
    filter-among (is_ended_of member) (λ (e : Ending). is_near viewer e.member) ended
    (all-of (λ (e : Ending). implies (is_ended_of member e) (is_near viewer e.member)) ended (λ e. implied (is_ended_of member e) (is_near viewer e.member) (named-near viewer e.member member near)))

persons-near : (viewer : Viewer) (given : List Authority) (member : List ℕ) → is_near viewer member ≡ true
    → filter (is_authority_of member) (filter (λ (a : Authority). is_near viewer a.corporation) given) ≡ filter (is_authority_of member) given
persons-near viewer given member near =
    filter-among (is_authority_of member) (λ (a : Authority). is_near viewer a.corporation) given
    (all-of (λ (a : Authority). implies (is_authority_of member a) (is_near viewer a.corporation)) given (λ a. implied (is_authority_of member a) (is_near viewer a.corporation) (named-near viewer a.corporation member near)))

-- what is kept of a member who is near
member-alike : (viewer : Viewer) (m : MeetingLists) (member : List ℕ) → is_near viewer member ≡ true → member_near (near_in viewer (Some m)) member ≡ member_in m member
member-alike viewer m member near =
    let row = row-near viewer m.register member near in
    let appointed = given-near viewer m.appointments member near in
    let ended = ended-near viewer m.endings member near in
    λ i. record { member = member; holding = record { shares = option_map_or shares_of (row i) 0; appointed = map claim_of (appointed i); ended = ended i } }

authority-alike : (viewer : Viewer) (m : MeetingLists) (a : Authority) → is_near viewer a.corporation ≡ true → authority_near (near_in viewer (Some m)) a ≡ authority_rows_in m a
authority-alike viewer m a near =
    let row = row-near viewer m.register a.corporation near in λ i. record { authority = a; row = row i }

-- in a meeting where whoever named or authorised the viewer is near it
rows-of : (viewer : Viewer) (m : MeetingLists) → is_sourced_in viewer (Some m) ≡ true → rows_from viewer (near_in viewer (Some m)) ≡ own_rows m viewer.party
rows-of viewer m h =
    let party = viewer.party in
    let near = near_in viewer (Some m) in
    let itself = near-itself viewer in
    let named = list_all (λ (a : Appointment). implies (names party a) (is_near viewer a.member)) m.appointments in
    let allowed = list_all (λ (a : Authority). implies (authorises party a) (is_near viewer a.corporation)) m.authorities in
    let by_name : named ≡ true = first_so named allowed h in
    let by_authority : allowed ≡ true = second_so named allowed h in
    let row = row-near viewer m.register party itself in
    let given = given-near viewer m.appointments party itself in
    let ended = ended-near viewer m.endings party itself in
    let persons = persons-near viewer m.authorities party itself in
    let received = filter-among (names party) (λ (a : Appointment). is_near viewer a.member) m.appointments by_name in
    let all = filter (names party) m.appointments in
    let who : list_all (is_near viewer) (givers all) ≡ true = all-each_once (is_near viewer) (map (λ (a : Appointment). a.member) all)
    (list_all-map (is_near viewer) (λ (a : Appointment). a.member) all ∙ all-within (λ (a : Appointment). is_near viewer a.member) (names party) m.appointments by_name) in
    let members = ap (λ found. map (member_near near) (givers found)) received
    ∙ map-among (member_near near) (member_in m) (is_near viewer) (givers all) who (member-alike viewer m) in
    let mine = filter-among (authorises party) (λ (a : Authority). is_near viewer a.corporation) m.authorities by_authority in
    let authorised = ap (λ found. map (authority_near near) found) mine
    ∙ map-among (authority_near near) (authority_rows_in m) (λ (a : Authority). is_near viewer a.corporation) (filter (authorises party) m.authorities)
    (all-within (λ (a : Authority). is_near viewer a.corporation) (authorises party) m.authorities by_authority) (authority-alike viewer m) in
    λ i. record {
      party = party;
      row = row i;
      given = given i;
      given_count = length (given i);
      ended = ended i;
      persons = persons i;
      received = received i;
      members = members i;
      authorised = authorised i;
      presences = near.presences;
      demands = near.demands;
      casts = All near.casts;
    }

pub rows-near : (viewer : Viewer) (found : Option MeetingLists) → is_sourced_in viewer found ≡ true → rows_from viewer (near_in viewer found) ≡ own_rows_in found viewer.party
rows-near viewer None h =
    let row = row-near viewer [] viewer.party (near-itself viewer) in λ i. record (no_own_rows viewer.party) { row = row i }
rows-near viewer (Some m) h = rows-of viewer m h

-- the appointments and endings of one who is near, from what is near
pub giving-near : (viewer : Viewer) (found : Option MeetingLists) (member : List ℕ) → is_near viewer member ≡ true
    → record (no_own_rows member) {
      given = filter (is_given_by member) (near_in viewer found).appointments;
      ended = filter (is_ended_of member) (near_in viewer found).endings;
    } ≡ record (no_own_rows member) { given = (own_rows_in found member).given; ended = (own_rows_in found member).ended }
giving-near viewer None member near = refl
giving-near viewer (Some m) member near =
    let given = given-near viewer m.appointments member near in
    let ended = ended-near viewer m.endings member near in
    λ i. record (no_own_rows member) { given = given i; ended = ended i }

-- and how many appointments one who is near gave
pub counting-near : (viewer : Viewer) (found : Option MeetingLists) (member : List ℕ) → is_near viewer member ≡ true
    → record (no_own_rows member) { given_count = length (filter (is_given_by member) (near_in viewer found).appointments) } ≡ record (no_own_rows member) { given_count = (own_rows_in found member).given_count }
counting-near viewer None member near = refl
counting-near viewer (Some m) member near =
    let given = given-near viewer m.appointments member near in λ i. record (no_own_rows member) { given_count = length (given i) }

pub authorising-near : (viewer : Viewer) (found : Option MeetingLists) (member : List ℕ) → is_near viewer member ≡ true
    → record (no_own_rows member) { persons = filter (is_authority_of member) (near_in viewer found).authorities } ≡ record (no_own_rows member) { persons = (own_rows_in found member).persons }
authorising-near viewer None member near = refl
authorising-near viewer (Some m) member near =
    let persons = persons-near viewer m.authorities member near in λ i. record (no_own_rows member) { persons = persons i }

-- ---- what is entered

-- what is near after something is entered into the meeting
abbrev pub near_entered : Viewer → Entry → Near → Near
near_entered viewer (entry.Appointment a) n = record n { appointments = cond (is_near viewer a.member) (n.appointments ++ a ∷ []) n.appointments }
near_entered viewer (entry.Ending e) n = record n { endings = cond (is_near viewer e.member) (n.endings ++ e ∷ []) n.endings }
near_entered viewer (entry.Authority a) n = record n { authorities = cond (is_near viewer a.corporation) (n.authorities ++ a ∷ []) n.authorities }
near_entered viewer (entry.Presence mark) n = record n { presences = cond (is_presence_of viewer.party mark) (n.presences ++ mark.session ∷ []) n.presences }
near_entered viewer (entry.Demand demand) n = record n { demands = cond (is_demanded_by viewer.party demand) (n.demands ++ demand ∷ []) n.demands }
near_entered viewer (entry.Cast cast) n = record n { casts = cond (is_cast_by viewer.party cast) (n.casts ++ cast ∷ []) n.casts }

pub near-entry : (viewer : Viewer) (e : Entry) (m : MeetingLists) → near_in viewer (Some (entered e m)) ≡ near_entered viewer e (near_in viewer (Some m))
near-entry viewer (entry.Appointment a) m = λ i. record (near_in viewer (Some m)) { appointments = filter-more (λ (b : Appointment). is_near viewer b.member) m.appointments a i }
near-entry viewer (entry.Ending e) m = λ i. record (near_in viewer (Some m)) { endings = filter-more (λ (d : Ending). is_near viewer d.member) m.endings e i }
near-entry viewer (entry.Authority a) m = λ i. record (near_in viewer (Some m)) { authorities = filter-more (λ (b : Authority). is_near viewer b.corporation) m.authorities a i }
near-entry viewer (entry.Presence mark) m = λ i. record (near_in viewer (Some m)) { presences = made-more (λ (p : PresenceMark). p.session) (is_presence_of viewer.party) m.presences mark i }
near-entry viewer (entry.Demand demand) m = λ i. record (near_in viewer (Some m)) { demands = filter-more (is_demanded_by viewer.party) m.demands demand i }
near-entry viewer (entry.Cast cast) m = λ i. record (near_in viewer (Some m)) { casts = filter-more (is_cast_by viewer.party) m.casts cast i }

-- where a meeting stands, what is near is changed
abbrev pub near_if : Option Meeting → (Near → Near) → Near → Near
near_if None g n = n
near_if (Some meeting) g n = g n

-- in the meeting of a name it is changed, where that meeting stands
abbrev pub near_at : List ℕ → List ℕ → Option Meeting → (Near → Near) → Near → Near
near_at at id meeting g n = cond (same_name at id) (near_if meeting g n) n

pub near_at-stays : (at id : List ℕ) (meeting : Option Meeting) (g : Near → Near) (n : Near) → g n ≡ n → near_at at id meeting g n ≡ n
near_at-stays at id meeting g n stays =
    elim (same_name at id) as (λ b. cond b (near_if meeting g n) n ≡ n) [
      | true ↦ elim (meeting) as (λ found. near_if found g n ≡ n) [ None ↦ refl | Some x ↦ stays ]
      | false ↦ refl
    ]

-- what is near after a change of the meeting of a name
pub near-changed : (viewer : Viewer) (o : OfficeLists) (f : MeetingLists → MeetingLists) (g : Near → Near) (at id : List ℕ) → ((m : MeetingLists) → (f m).meeting.id ≡ m.meeting.id)
    → ((m : MeetingLists) → near_in viewer (Some (f m)) ≡ g (near_in viewer (Some m)))
    → near_in viewer (meeting_at (change_meeting f at o) id) ≡ near_at at id (public_of o id).meeting g (near_in viewer (meeting_at o id))
near-changed viewer o f g at id named each =
    ap (near_in viewer) (found-changed f at id o.meetings named)
    ∙ elim (same_name at id) as (λ b. near_in viewer (cond b (option_map f (meeting_at o id)) (meeting_at o id))
    ≡ cond b (near_if (public_of o id).meeting g (near_in viewer (meeting_at o id))) (near_in viewer (meeting_at o id))) [
      | true ↦ elim (meeting_at o id) as (λ found. near_in viewer (option_map f found) ≡ near_if (option_map (λ (m : MeetingLists). m.meeting) found) g (near_in viewer found))
          [ None ↦ refl | Some m ↦ each m ]
      | false ↦ refl
    ]

-- what is near after something is entered, if anything is
abbrev pub near_some : Viewer → Option Entry → Near → Near
near_some viewer None n = n
near_some viewer (Some e) n = near_entered viewer e n

pub near-after : (viewer : Viewer) (o : OfficeLists) (at : List ℕ) (entry : Option Entry) (id : List ℕ)
    → near_in viewer (meeting_at (after_entry o at entry) id) ≡ near_at at id (public_of o id).meeting (near_some viewer entry) (near_in viewer (meeting_at o id))
near-after viewer o at None id = sym (near_at-stays at id (public_of o id).meeting (λ n. n) (near_in viewer (meeting_at o id)) refl)
near-after viewer o at (Some e) id = near-changed viewer o (entered e) (near_entered viewer e) at id (entered-name e) (near-entry viewer e)

-- ---- who named and authorised the viewer

-- what is entered is of one who is near, where it names or authorises the viewer
abbrev pub is_near_entry : Viewer → Entry → Bool
is_near_entry viewer (entry.Appointment a) = implies (names viewer.party a) (is_near viewer a.member)
is_near_entry viewer (entry.Authority a) = implies (authorises viewer.party a) (is_near viewer a.corporation)
is_near_entry viewer other = true

sourced-entered : (viewer : Viewer) (e : Entry) (m : MeetingLists) → is_near_entry viewer e ≡ true → is_sourced_in viewer (Some m) ≡ true → is_sourced_in viewer (Some (entered e m)) ≡ true
sourced-entered viewer (entry.Appointment a) m good h =
    let test = λ (b : Appointment). implies (names viewer.party b) (is_near viewer b.member) in
    let allowed = list_all (λ (b : Authority). implies (authorises viewer.party b) (is_near viewer b.corporation)) m.authorities in
    both_true (all-more test m.appointments a (first_so (list_all test m.appointments) allowed h) good) (second_so (list_all test m.appointments) allowed h)
sourced-entered viewer (entry.Authority a) m good h =
    let named = list_all (λ (b : Appointment). implies (names viewer.party b) (is_near viewer b.member)) m.appointments in
    let test = λ (b : Authority). implies (authorises viewer.party b) (is_near viewer b.corporation) in
    both_true (first_so named (list_all test m.authorities) h) (all-more test m.authorities a (second_so named (list_all test m.authorities) h) good)
sourced-entered viewer other m good h = h

abbrev pub is_near_some : Viewer → Option Entry → Bool
is_near_some viewer None = true
is_near_some viewer (Some e) = is_near_entry viewer e

pub sourced-entry : (viewer : Viewer) (o : OfficeLists) (at : List ℕ) (entry : Option Entry) → is_near_some viewer entry ≡ true → IsSourced viewer o → IsSourced viewer (after_entry o at entry)
sourced-entry viewer o at None good h = h
sourced-entry viewer o at (Some e) good h = λ id.
    ap (is_sourced_in viewer) (found-changed (entered e) at id o.meetings (entered-name e))
    ∙ elim (same_name at id) as (λ b. is_sourced_in viewer (cond b (option_map (entered e) (meeting_at o id)) (meeting_at o id)) ≡ true) [
      | true ↦ (elim (meeting_at o id) as (λ found. is_sourced_in viewer found ≡ true → is_sourced_in viewer (option_map (entered e) found) ≡ true) [
        | None ↦ λ _. refl
        | Some m ↦ sourced-entered viewer e m good
      ]) (h id)
      | false ↦ h id
    ]
