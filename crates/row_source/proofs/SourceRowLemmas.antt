-- A party's rows, from what was looked up of each list.
use Rattle.std.proofs.Common.{◌≡◌, ◌+◌, ◌<◌, ℕ, true, false, cond, List, [], ◌∷◌, ◌++◌, length, get_or, map, take, filter, Option, Some, None, sym, ap, ◌∙◌, refl}
use Rattle.std.proofs.lemmas.List.{map-append, take_more}
use Rattle.vocabulary.specs.Names.{same_name}
use Rattle.vocabulary.specs.declared.kinds.Capacity.{Capacity}
use Rattle.vocabulary.specs.declared.kinds.Capacity.TheVariants as capacity
use Rattle.desk_words.specs.ViewTypes.{Party}
use Rattle.desk_words.specs.declared.office.MeetingLists.{MeetingLists}
use Rattle.desk_words.specs.declared.request.NewCast.{NewCast}
use Rattle.party_views.specs.OwnViews.{holds_as_individual}
use Rattle.party_views.specs.OwnCasts.{counted_on}
use Rattle.party_views.specs.declared.own_rows.OwnCasts.TheVariants.{All}
use Rattle.party_views.specs.RowsRead.{gave_one_of, is_instructing, own_rows_part}
use Rattle.party_views.specs.PartyRows.{authority_rows_in, givers, member_in, no_own_rows, presences_of, own_rows_in, own_rows}
use Rattle.party_views.specs.declared.reads.Reads.TheVariants as reads
use Rattle.party_views.specs.declared.own_rows.AuthorityRows.{AuthorityRows}
use Rattle.party_views.specs.declared.own_rows.OwnRows.{OwnRows}
use Rattle.party_views.proofs.OwnLemmas.{filter-map}
use Rattle.proxy_rules.specs.Holdings.{is_ended_of, is_given_by}
use Rattle.proxy_rules.specs.Parties.{is_authority_of, names}
use Rattle.proxy_rules.specs.Shares.{row_of}
use Rattle.row_source.specs.LookUps.{acting_for, appointments_in, authorities_in, authority_at, casts_by, endings_in, for_member, naming_by_in, naming_in, own_marks, presences_in, register_in, trusting_for_in, trusting_in, with_givers}
use Rattle.row_source.proofs.MemberLemmas.{members-read}

-- one record more, each made into something
pub made_more : {X Y : Type 0} (make : X → Y) (xs : List X) (i : ℕ) (x : X) (made after : List Y) (y : Y) → i < length xs → x ≡ get_or xs i x → made ≡ map make (take i xs) → y ≡ make x → after ≡ made ++ y ∷ []
    → after ≡ map make (take (i + 1) xs)
made_more make xs i x made after y h is so_far new put =
    put ∙ (λ j. so_far j ++ new j ∷ []) ∙ sym (map-append make (take i xs) (x ∷ [])) ∙ ap (map make) (sym (take_more xs i x h ∙ ap (λ z. take i xs ++ z ∷ []) (sym is)))

-- ---- all rows

-- the rows are what it may act by, and the rest
pub rows_are : (found : Option MeetingLists) (party : Party)
    → record (no_own_rows party) {
      received = (acting_for found party).received;
      members = (acting_for found party).members;
      authorised = (acting_for found party).authorised;
      row = (own_marks found party).row;
      presences = (own_marks found party).presences;
      demands = (own_marks found party).demands;
      given = filter (is_given_by party) (appointments_in found);
      given_count = length (filter (is_given_by party) (appointments_in found));
      ended = filter (is_ended_of party) (endings_in found);
      persons = filter (is_authority_of party) (authorities_in found);
      casts = All (casts_by found party);
    } ≡ own_rows_in found party
rows_are None party = refl
rows_are (Some m) party = refl

-- one who holds as an individual may demand a poll, whatever others gave it
pub standing_alone : (found : Option MeetingLists) (party : Party) → holds_as_individual (row_of (register_in found) party) ≡ true
    → record (no_own_rows party) {
      row = (own_marks found party).row;
      presences = (own_marks found party).presences;
      demands = (own_marks found party).demands;
    } ≡ own_rows_part reads.Standing (own_rows_in found party)
standing_alone None party individual = refl
standing_alone (Some m) party individual = λ i. record (own_rows_part reads.Standing (own_rows m party)) {
  received = cond (sym individual i) [] (naming_in (Some m) party);
  members = cond (sym individual i) [] (acting_for (Some m) party).members;
  authorised = cond (sym individual i) [] (acting_for (Some m) party).authorised;
}

-- of any other it is asked what others gave it
pub standing_are : (found : Option MeetingLists) (party : Party) → holds_as_individual (row_of (register_in found) party) ≡ false
    → record (no_own_rows party) {
      received = (acting_for found party).received;
      members = (acting_for found party).members;
      authorised = (acting_for found party).authorised;
      row = (own_marks found party).row;
      presences = (own_marks found party).presences;
      demands = (own_marks found party).demands;
    } ≡ own_rows_part reads.Standing (own_rows_in found party)
standing_are None party other = refl
standing_are (Some m) party other = λ i. record (own_rows_part reads.Standing (own_rows m party)) {
  received = cond (sym other i) [] (naming_in (Some m) party);
  members = cond (sym other i) [] (acting_for (Some m) party).members;
  authorised = cond (sym other i) [] (acting_for (Some m) party).authorised;
}

pub instructed_are : (found : Option MeetingLists) (party : Party) (resolution : ℕ)
    → record (no_own_rows party) {
      received = (with_givers found (Some resolution) (naming_in found party)).received;
      members = (with_givers found (Some resolution) (naming_in found party)).members;
      casts = (for_member found party resolution).casts;
    } ≡ own_rows_part (reads.AsInstructed resolution) (own_rows_in found party)
instructed_are None party resolution = refl
instructed_are (Some m) party resolution =
    let received = filter (names party) m.appointments in
    let members = sym (filter-map (gave_one_of (filter (is_instructing resolution) received)) (member_in m) (givers received)) in
    λ i. record (own_rows_part (reads.AsInstructed resolution) (own_rows m party)) { members = members i }

pub given_are : (found : Option MeetingLists) (party : Party)
    → record (no_own_rows party) {
      given = filter (is_given_by party) (appointments_in found);
      ended = filter (is_ended_of party) (endings_in found);
    } ≡ own_rows_part reads.Given (own_rows_in found party)
given_are None party = refl
given_are (Some m) party = refl

pub count_is : (found : Option MeetingLists) (party : Party)
    → record (no_own_rows party) { given_count = length (filter (is_given_by party) (appointments_in found)) } ≡ own_rows_part reads.GivenCount (own_rows_in found party)
count_is None party = refl
count_is (Some m) party = refl

pub persons_are : (found : Option MeetingLists) (party : Party)
    → record (no_own_rows party) { persons = filter (is_authority_of party) (authorities_in found) } ≡ own_rows_part reads.Persons (own_rows_in found party)
persons_are None party = refl
persons_are (Some m) party = refl

pub presence_is : (found : Option MeetingLists) (party : Party)
    → record (no_own_rows party) { presences = presences_of party (presences_in found) } ≡ own_rows_part reads.Presence (own_rows_in found party)
presence_is None party = refl
presence_is (Some m) party = refl

pub nothing_is : (found : Option MeetingLists) (party : Party) → no_own_rows party ≡ own_rows_part reads.Nothing (own_rows_in found party)
nothing_is None party = refl
nothing_is (Some m) party = refl

-- ---- a vote

-- what it reads in a capacity
abbrev read_as : Option MeetingLists → Party → NewCast → Capacity → OwnRows
read_as found party new capacity = own_rows_part (reads.Vote (record new { capacity = capacity })) (own_rows_in found party)

vote_preserved : (found : Option MeetingLists) (party : Party) (new : NewCast) (as_what : Capacity) → new.capacity ≡ as_what → read_as found party new as_what ≡ own_rows_part (reads.Vote new) (own_rows_in found party)
vote_preserved found party new as_what is = ap (read_as found party new) (sym is)

pub member_is : (found : Option MeetingLists) (party : Party) (new : NewCast) → new.capacity ≡ capacity.Member → for_member found party new.resolution ≡ own_rows_part (reads.Vote new) (own_rows_in found party)
member_is found party new is = go found ∙ vote_preserved found party new capacity.Member is
  where
    go : (found : Option MeetingLists) → for_member found party new.resolution ≡ read_as found party new capacity.Member
    go None = refl
    go (Some m) = refl

pub rep_is : (found : Option MeetingLists) (party : Party) (new : NewCast) → new.capacity ≡ capacity.Rep
    → record (no_own_rows party) { authorised = map (authority_at found) (trusting_for_in found new.member party); casts = counted_on new.resolution (All (casts_by found party)) } ≡ own_rows_part (reads.Vote new) (own_rows_in found party)
rep_is found party new is = go found ∙ vote_preserved found party new capacity.Rep is
  where
    go : (found : Option MeetingLists) → record (no_own_rows party) { authorised = map (authority_at found) (trusting_for_in found new.member party); casts = counted_on new.resolution (All (casts_by found party)) } ≡ read_as found party new capacity.Rep
    go None = refl
    go (Some m) =
        let those = filter-map (λ (rows : AuthorityRows). same_name rows.authority.corporation new.member) (authority_rows_in m) (trusting_in (Some m) party) in
        λ i. record (no_own_rows party) { authorised = sym those i; casts = counted_on new.resolution (All (casts_by (Some m) party)) }

pub proxy_is : (found : Option MeetingLists) (party : Party) (new : NewCast) → new.capacity ≡ capacity.Proxy
    → record (no_own_rows party) {
      received = naming_by_in found new.member party;
      members = (with_givers found None (naming_by_in found new.member party)).members;
      casts = counted_on new.resolution (All (casts_by found party));
    } ≡ own_rows_part (reads.Vote new) (own_rows_in found party)
proxy_is found party new is = go found ∙ vote_preserved found party new capacity.Proxy is
  where
    go : (found : Option MeetingLists)
        → record (no_own_rows party) {
          received = naming_by_in found new.member party;
          members = (with_givers found None (naming_by_in found new.member party)).members;
          casts = counted_on new.resolution (All (casts_by found party));
        } ≡ read_as found party new capacity.Proxy
    go None = refl
    go (Some m) = λ i. record (no_own_rows party) {
      received = naming_by_in (Some m) new.member party;
      members = members-read m new capacity.Proxy (naming_in (Some m) party) i;
      casts = counted_on new.resolution (All (casts_by (Some m) party));
    }
