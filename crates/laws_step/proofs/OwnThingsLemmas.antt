-- What of a meeting concerns a party gives it the same rows as the meeting.
use Rattle.std.proofs.Common.{◌≡◌, ℕ, Bool, true, false, ◌&&◌, ◌||◌, cond, List, [], ◌∷◌, length, map, filter, refl, ap, sym, ◌∙◌, inl, inr}
use Rattle.std.specs.Prelude.{Some, None, find}
use Rattle.std.specs.List.{list_any}
use Rattle.std.specs.Option.{option_map_or}
use Rattle.std.specs.Cmp.Derive.{both_true}
use Rattle.std.proofs.lemmas.Bool.{or_right}
use Rattle.seq.proofs.Filtered.{any-filter}
use Rattle.vocabulary.specs.Names.{same_name}
use Rattle.desk_words.proofs.WordRowLemmas.{same_name-true, same_name-refl}
use Rattle.desk_words.specs.Office.{is_meeting}
use Rattle.desk_words.specs.declared.office.MeetingLists.{MeetingLists}
use Rattle.desk_words.specs.declared.records.Appointment.{Appointment}
use Rattle.desk_words.specs.declared.records.Authority.{Authority}
use Rattle.desk_words.specs.declared.records.Poll.{Poll}
use Rattle.desk_words.specs.declared.records.PresenceMark.{PresenceMark}
use Rattle.desk_words.specs.declared.records.RegisterRow.{RegisterRow}
use Rattle.proxy_rules.specs.Cutoffs.{cutoffs_of, is_late_poll}
use Rattle.proxy_rules.specs.Uses.{Acts, Votes, Vote}
use Rattle.proxy_rules.specs.Holdings.{claim_of, is_ended_of, is_given_by}
use Rattle.proxy_rules.specs.Parties.{authorises, is_authority_of, is_cast_by, is_demanded_by, is_presence_of, names}
use Rattle.proxy_rules.specs.Shares.{row_of, shares_of}
use Rattle.proxy_rules.specs.declared.meeting_records.Cutoffs.{Cutoffs}
use Rattle.party_views.specs.declared.own_rows.OwnCasts.TheVariants.{All}
use Rattle.party_views.specs.OwnViews.{governed_by, known_to_proxy, nothing_of, own_from, received_by}
use Rattle.party_views.specs.PartyRows.{authority_rows_in, givers, member_in, own_rows_in, own_rows}
use Rattle.party_views.specs.SessionLists.{each_session}
use Rattle.party_views.specs.Views.{meeting_at, own_in, public_in}
use Rattle.laws_step.specs.DemandsAndGoverning.{OwnThingsShowWhatGoverns, known_in, shares_governed}
use Rattle.laws_step.specs.OwnThings.{OwnThingsAreOfTheMeeting, DependsOnOwnAlone, appointment_concerns, authority_concerns, ending_concerns, has_authorised, has_named, row_concerns, what_concerns}
use Rattle.laws_step.proofs.AnyLemmas.{any-In}
use Rattle.laws_step.proofs.CapacityLemmas.{facts, valid_in}
use Rattle.laws_step.proofs.GovernedLemmas.{any-each_once, any-givers, governed-by_member, of}
use Rattle.laws_step.proofs.StepNumberLemmas.{In, In-filter}
use Rattle.laws_step.proofs.SecrecyLemmas.{filter-within}

-- ---- parts of lists

-- where what passes one test passes another too, the first of it is found among what passes that
find-within : {X : Type 0} (test wider : X → Bool) (xs : List X) → ((x : X) → test x ≡ true → wider x ≡ true) → find test (filter wider xs) ≡ find test xs
find-within test wider [] within = refl
find-within test wider (x ∷ xs) within =
    (elim (wider x) as (λ w. wider x ≡ w → find test (cond w (x ∷ filter wider xs) (filter wider xs)) ≡ find test (x ∷ xs)) [
      | true ↦ λ stays. ap (λ o. cond (test x) (Some x) o) (find-within test wider xs within)
      | false ↦ λ goes. (elim (test x) as (λ t. test x ≡ t → find test (filter wider xs) ≡ cond t (Some x) (find test xs)) [
        | true ↦ λ passes. absurd (let is : wider x ≡ true = within x passes in cc)
        | false ↦ λ fails. find-within test wider xs within
      ]) refl
    ]) refl

-- two functions that make the same of each value of a list
pub map-alike : {X Y : Type 0} (f h : X → Y) (xs : List X) → ((x : X) → In x xs → f x ≡ h x) → map f xs ≡ map h xs
map-alike f h [] same = refl
map-alike f h (x ∷ xs) same =
    let head : f x ≡ h x = same x (inl refl) in
    let tail : map f xs ≡ map h xs = map-alike f h xs (λ y here. same y (inr here)) in
    λ i. head i ∷ tail i

-- what passes a test passes one of two
pub or-left : (a b : Bool) → a ≡ true → (a || b) ≡ true
or-left a b h = ap (λ c. c || b) h

-- and the first, the second or the third of three
first-of : (a b c : Bool) → a ≡ true → (a || b || c) ≡ true
first-of a b c h = or-left (a || b) c (or-left a b h)

second-of : (a b c : Bool) → b ≡ true → (a || b || c) ≡ true
second-of a b c h = or-left (a || b) c (or_right a b h)

third-of : (a b c : Bool) → c ≡ true → (a || b || c) ≡ true
third-of a b c h = or_right (a || b) c h

-- ---- who named and who authorised a party

-- a member who gave one of the appointments that name the party named it
givers-named : (m : MeetingLists) (party member : List ℕ) → In member (givers (filter (names party) m.appointments)) → has_named m party member ≡ true
givers-named m party member here =
    let received = filter (names party) m.appointments in
    let one : list_any (of member) (givers received) ≡ true = any-In (of member) (givers received) member here (same_name-refl member) in
    let gave : list_any (of member) (givers received) ≡ list_any (is_given_by member) received =
    any-each_once member (map (λ (a : Appointment). a.member) received) ∙ any-givers member received in
    sym (any-filter (is_given_by member) (names party) m.appointments) ∙ sym gave ∙ one

-- a corporation of one of the authorities that are the party's authorised it
authorities-given : (m : MeetingLists) (party : List ℕ) (a : Authority) → In a (filter (authorises party) m.authorities) → has_authorised m party a.corporation ≡ true
authorities-given m party a here =
    let preserved = In-filter (authorises party) m.authorities a here in
    any-In (λ (b : Authority). authorises party b && is_authority_of a.corporation b) m.authorities a preserved.here (both_true preserved.passes (same_name-refl a.corporation))

-- ---- the rows of a party

-- the row of a name is found among those that concern the party, where each row of that name does
row-alike : (m : MeetingLists) (party member : List ℕ) → ((row : RegisterRow) → row.member ≡ member → row_concerns m party row ≡ true)
    → row_of (what_concerns party m).register member ≡ row_of m.register member
row-alike m party member concerns =
    find-within (λ (row : RegisterRow). same_name row.member member) (row_concerns m party) m.register
    (λ row is. concerns row (same_name-true row.member member is))

-- its own
own-row : (m : MeetingLists) (party : List ℕ) → row_of (what_concerns party m).register party ≡ row_of m.register party
own-row m party =
    find-within (λ (row : RegisterRow). same_name row.member party) (row_concerns m party) m.register
    (λ row is. first-of (same_name row.member party) (has_named m party row.member) (has_authorised m party row.member) is)

-- what is kept of a member who named it
member-alike : (m : MeetingLists) (party member : List ℕ) → has_named m party member ≡ true → member_in (what_concerns party m) member ≡ member_in m member
member-alike m party member named =
    let row = row-alike m party member
    (λ row same. second-of (same_name row.member party) (has_named m party row.member) (has_authorised m party row.member)
    (ap (has_named m party) same ∙ named)) in
    let appointed = filter-within (is_given_by member) (appointment_concerns m party) m.appointments
    (λ a is. third-of (is_given_by party a) (names party a) (has_named m party a.member)
    (ap (has_named m party) (same_name-true a.member member is) ∙ named)) in
    let ended = filter-within (is_ended_of member) (ending_concerns m party) m.endings
    (λ e is. or_right (is_ended_of party e) (has_named m party e.member) (ap (has_named m party) (same_name-true e.member member is) ∙ named)) in
    λ i. record {
      member = member;
      holding = record { shares = option_map_or shares_of (row i) 0; appointed = map claim_of (appointed i); ended = ended i };
    }

-- an authority that is the party's, with its corporation's row
authority-alike : (m : MeetingLists) (party : List ℕ) (a : Authority) → has_authorised m party a.corporation ≡ true → authority_rows_in (what_concerns party m) a ≡ authority_rows_in m a
authority-alike m party a given =
    let row = row-alike m party a.corporation
    (λ row same. third-of (same_name row.member party) (has_named m party row.member) (has_authorised m party row.member)
    (ap (has_authorised m party) same ∙ given)) in
    λ i. record { authority = a; row = row i }

-- what concerns a party gives it the rows that the meeting gives it
rows-alike : (m : MeetingLists) (party : List ℕ) → own_rows (what_concerns party m) party ≡ own_rows m party
rows-alike m party =
    let about = what_concerns party m in
    let row = own-row m party in
    let given = filter-within (is_given_by party) (appointment_concerns m party) m.appointments
    (λ a is. first-of (is_given_by party a) (names party a) (has_named m party a.member) is) in
    let ended = filter-within (is_ended_of party) (ending_concerns m party) m.endings (λ e is. or-left (is_ended_of party e) (has_named m party e.member) is) in
    let persons = filter-within (is_authority_of party) (authority_concerns party) m.authorities
    (λ a is. or-left (is_authority_of party a) (authorises party a) is) in
    let received = filter-within (names party) (appointment_concerns m party) m.appointments
    (λ a is. second-of (is_given_by party a) (names party a) (has_named m party a.member) is) in
    let members = ap (λ found. map (member_in about) (givers found)) received
    ∙ map-alike (member_in about) (member_in m) (givers (filter (names party) m.appointments))
    (λ member here. member-alike m party member (givers-named m party member here)) in
    let mine = filter-within (authorises party) (authority_concerns party) m.authorities
    (λ a is. or_right (is_authority_of party a) (authorises party a) is) in
    let authorised = ap (λ found. map (authority_rows_in about) found) mine
    ∙ map-alike (authority_rows_in about) (authority_rows_in m) (filter (authorises party) m.authorities)
    (λ a here. authority-alike m party a (authorities-given m party a here)) in
    let presences = ap (map (λ (mark : PresenceMark). mark.session))
    (filter-within (is_presence_of party) (is_presence_of party) m.presences (λ mark is. is)) in
    let demands = filter-within (is_demanded_by party) (is_demanded_by party) m.demands (λ d is. is) in
    let casts = filter-within (is_cast_by party) (is_cast_by party) m.casts (λ c is. is) in
    λ i. record {
      party = party;
      row = row i;
      given = given i;
      given_count = length (given i);
      ended = ended i;
      persons = persons i;
      received = received i;
      members = members i;
      authorised = authorised i;
      presences = presences i;
      demands = demands i;
      casts = All (casts i);
    }

-- what concerns a party tells it what the meeting tells it
own-alike : (m : MeetingLists) (closed party : List ℕ) (now : ℕ) → own_in (what_concerns party m) closed party now ≡ own_in m closed party now
own-alike m closed party now = ap (λ rows. own_from rows (public_in (Some m) closed) now) (rows-alike m party)

pub own_alone : DependsOnOwnAlone own_in
own_alone one other closed party now same =
    sym (own-alike one closed party now) ∙ ap (λ m. own_in m closed party now) same ∙ own-alike other closed party now

pub of_the_meeting : OwnThingsAreOfTheMeeting
of_the_meeting office party id now =
    elim (meeting_at office id) as (λ found. own_from (own_rows_in found party) (public_in found office.closed) now
    ≡ option_map_or (λ m. own_in m office.closed party now) found (nothing_of party)) [
      | Some m ↦ refl
      | None ↦ refl
    ]

-- ---- what governs

-- what an appointment that names the party governs, by the rows of those who named it, it governs by the rules
governed-alike : (m : MeetingLists) (party : List ℕ) (a : Appointment) (cutoffs : Cutoffs) → is_meeting m ≡ true → In a (filter (names party) m.appointments)
    → governed_by (map (member_in m) (givers (filter (names party) m.appointments))) cutoffs a.member a.number ≡ shares_governed m cutoffs a
governed-alike m party a cutoffs h here =
    let received = filter (names party) m.appointments in
    governed-by_member m cutoffs received a.member a.number (valid_in m a.member (facts m h))
    (any-In (is_given_by a.member) received a here (same_name-refl a.member))

pub what_governs : OwnThingsShowWhatGoverns
what_governs m closed party now h =
    let received = filter (names party) m.appointments in
    let members = map (member_in m) (givers received) in
    map-alike (received_by members closed m.meeting m.polls now) (known_in m closed now) received (λ a here.
    let governs : (cutoffs : Cutoffs) → governed_by members cutoffs a.member a.number ≡ shares_governed m cutoffs a = λ cutoffs. governed-alike m party a cutoffs h here in
    λ i. known_to_proxy a
    (each_session (λ session. record {
      acts = governs (cutoffs_of m.meeting (Acts session) closed now) i;
      votes = governs (cutoffs_of m.meeting (Votes session) closed now) i;
    }) m.meeting)
    (map (λ (poll : Poll). record { resolution = poll.resolution; governs = governs (cutoffs_of m.meeting (Vote poll) closed now) i }) (filter (is_late_poll closed) m.polls)))
