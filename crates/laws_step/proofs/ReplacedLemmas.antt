-- What is left to a party gives it the same own things.
use Rattle.std.proofs.Common.{◌≡◌, ℕ, suc, Bool, true, false, cond, List, [], ◌∷◌, ◌++◌, length, map, filter, refl, ap, sym, ◌∙◌}
use Rattle.std.specs.Prelude.{All, None, Some, Option, option_map}
use Rattle.std.specs.List.{AllZip, slice_index_or}
use Rattle.std.specs.Option.{option_map_or}
use Rattle.std.proofs.lemmas.Bool.{or_right}
use Rattle.std.proofs.lemmas.List.Elements.{All-cons, All-head, All-nil, All-tail}
use Rattle.vocabulary.specs.Names.{same_name}
use Rattle.desk_words.specs.Sessions.{sessions_of}
use Rattle.desk_words.specs.declared.office.MeetingLists.{MeetingLists}
use Rattle.desk_words.specs.declared.own_things.PollGoverned.{PollGoverned}
use Rattle.desk_words.specs.declared.own_things.Received.{Received}
use Rattle.desk_words.specs.declared.own_things.SessionGoverned.{SessionGoverned}
use Rattle.desk_words.specs.declared.records.Appointment.{Appointment}
use Rattle.desk_words.specs.declared.records.Authority.{Authority}
use Rattle.desk_words.specs.declared.records.Meeting.{Meeting}
use Rattle.desk_words.specs.declared.records.Poll.{Poll}
use Rattle.desk_words.specs.declared.records.PresenceMark.{PresenceMark}
use Rattle.desk_words.specs.declared.records.RegisterRow.{RegisterRow}
use Rattle.desk_words.specs.declared.records.Session.{Session}
use Rattle.proxy_rules.specs.Cutoffs.{cutoffs_of, is_late_poll}
use Rattle.proxy_rules.specs.Uses.{Acts, Votes, Vote}
use Rattle.proxy_rules.specs.Governing.{governed_in}
use Rattle.proxy_rules.specs.Holdings.{holding_with, is_ended_of, is_given_by}
use Rattle.proxy_rules.specs.Parties.{authorises, is_authority_of, names}
use Rattle.proxy_rules.specs.Shares.{row_of, shares_of}
use Rattle.proxy_rules.specs.declared.meeting_records.Cutoffs.{Cutoffs}
use Rattle.party_views.specs.declared.own_rows.OwnCasts.TheVariants as own_casts
use Rattle.party_views.specs.OwnViews.{authorised_in_rows, given_in, known_to_proxy, shares_in}
use Rattle.party_views.specs.PartyRows.{authority_rows_in}
use Rattle.party_views.specs.SessionLists.{each_session, enumerate_from}
use Rattle.party_views.specs.Views.{own_in}
use Rattle.laws_step.specs.DemandsAndGoverning.{shares_governed}
use Rattle.laws_step.specs.OwnThings.{authority_concerns}
use Rattle.laws_step.specs.Replaced.{AreSameToTheProxy, HoldsTheSame, IgnoresNamesAndPence, DependsOnWhatIsLeft, all_cutoffs, without_name_and_pence}
use Rattle.laws_step.proofs.OwnThingsLemmas.{or-left, what_governs}
use Rattle.laws_step.proofs.SecrecyLemmas.{filter-within}
use Rattle.laws_step.proofs.StepSessionLemmas.{in_session}

-- what holds of two lists together holds of each

all-first : {X : Type 0} (P : X → Type 0) (xs ys : List X) → All P (xs ++ ys) → All P xs
all-first P [] ys all = All-nil P
all-first P (x ∷ xs) ys all = All-cons P x xs (All-head P x (xs ++ ys) all) (all-first P xs ys (All-tail P x (xs ++ ys) all))

all-last : {X : Type 0} (P : X → Type 0) (xs ys : List X) → All P (xs ++ ys) → All P ys
all-last P [] ys all = all
all-last P (x ∷ xs) ys all = all-last P xs ys (All-tail P x (xs ++ ys) all)

-- ---- appointments that name the party

module _ (one other : MeetingLists) (closed : List ℕ) (now : ℕ) where
  -- what an appointment governs for votes on a poll, by this notice
  abbrev for_poll_by : Meeting → MeetingLists → Appointment → Poll → PollGoverned
  for_poll_by meeting m a poll = record { resolution = poll.resolution; governs = shares_governed m (cutoffs_of meeting (Vote poll) closed now) a }

  -- what two appointments govern for polls
  late-alike : (meeting : Meeting) (a b : Appointment) (polls : List Poll)
      → All (λ cutoffs. shares_governed one cutoffs a ≡ shares_governed other cutoffs b) (map (λ (poll : Poll). cutoffs_of meeting (Vote poll) closed now) polls)
      → map (for_poll_by meeting one a) polls ≡ map (for_poll_by meeting other b) polls
  late-alike meeting a b [] all = refl
  late-alike meeting a b (poll ∷ polls) all =
      let alike : Cutoffs → Type 0 = λ cutoffs. shares_governed one cutoffs a ≡ shares_governed other cutoffs b in
      let rest = map (λ (p : Poll). cutoffs_of meeting (Vote p) closed now) polls in
      let governs = All-head alike (cutoffs_of meeting (Vote poll) closed now) rest all in
      let head : for_poll_by meeting one a poll ≡ for_poll_by meeting other b poll = λ i. record { resolution = poll.resolution; governs = governs i } in
      let tail = late-alike meeting a b polls (All-tail alike (cutoffs_of meeting (Vote poll) closed now) rest all) in
      λ i. head i ∷ tail i

  -- what it governs in a session, by this notice
  abbrev in_session_by : Meeting → MeetingLists → Appointment → ℕ → SessionGoverned
  in_session_by meeting m a = in_session meeting closed now (λ cutoffs. shares_governed m cutoffs a)

  -- what two appointments govern in sessions
  sessions-alike : (meeting : Meeting) (a b : Appointment) (n : ℕ) (sessions : List Session)
      → All (λ cutoffs. shares_governed one cutoffs a ≡ shares_governed other cutoffs b) (enumerate_from (λ number (s : Session). cutoffs_of meeting (Acts number) closed now) n sessions)
      → All (λ cutoffs. shares_governed one cutoffs a ≡ shares_governed other cutoffs b) (enumerate_from (λ number (s : Session). cutoffs_of meeting (Votes number) closed now) n sessions)
      → enumerate_from (λ number (s : Session). in_session_by meeting one a number) n sessions ≡ enumerate_from (λ number (s : Session). in_session_by meeting other b number) n sessions
  sessions-alike meeting a b n [] acts votes = refl
  sessions-alike meeting a b n (s ∷ sessions) acts votes =
      let alike : Cutoffs → Type 0 = λ cutoffs. shares_governed one cutoffs a ≡ shares_governed other cutoffs b in
      let later_acts = enumerate_from (λ number (s : Session). cutoffs_of meeting (Acts number) closed now) (suc n) sessions in
      let later_votes = enumerate_from (λ number (s : Session). cutoffs_of meeting (Votes number) closed now) (suc n) sessions in
      let for_acts = All-head alike (cutoffs_of meeting (Acts n) closed now) later_acts acts in
      let for_votes = All-head alike (cutoffs_of meeting (Votes n) closed now) later_votes votes in
      let head : in_session_by meeting one a n ≡ in_session_by meeting other b n = λ i. record { acts = for_acts i; votes = for_votes i } in
      let tail = sessions-alike meeting a b (suc n) sessions
      (All-tail alike (cutoffs_of meeting (Acts n) closed now) later_acts acts)
      (All-tail alike (cutoffs_of meeting (Votes n) closed now) later_votes votes) in
      λ i. head i ∷ tail i

  -- an appointment as its proxy is to know it, by this notice and these polls
  abbrev known_by : Meeting → List Poll → MeetingLists → Appointment → Received
  known_by meeting polls m a =
      known_to_proxy a (each_session (in_session_by meeting m a) meeting)
      (map (for_poll_by meeting m a) (filter (is_late_poll closed) polls))

  -- two appointments that are one to their proxy are known alike
  known-alike : (a b : Appointment) → AreSameToTheProxy one other closed now a b → known_by one.meeting one.polls one a ≡ known_by one.meeting one.polls other b
  known-alike a b alike =
      let same : Cutoffs → Type 0 = λ cutoffs. shares_governed one cutoffs a ≡ shares_governed other cutoffs b in
      let meeting = one.meeting in
      let late = filter (is_late_poll closed) one.polls in
      let for_acts = each_session (λ number. cutoffs_of meeting (Acts number) closed now) meeting in
      let for_votes = each_session (λ number. cutoffs_of meeting (Votes number) closed now) meeting in
      let for_late = map (λ (p : Poll). cutoffs_of meeting (Vote p) closed now) late in
      let in_time = all-first same (for_acts ++ for_votes) for_late alike.governs in
      let sessions = sessions-alike meeting a b 1 (sessions_of meeting) (all-first same for_acts for_votes in_time) (all-last same for_acts for_votes in_time) in
      let polls = late-alike meeting a b late (all-last same (for_acts ++ for_votes) for_late alike.governs) in
      λ i. known_to_proxy (alike.same i) (sessions i) (polls i)

  all-alike : (xs ys : List Appointment) → AllZip (AreSameToTheProxy one other closed now) xs ys
      → map (known_by one.meeting one.polls one) xs ≡ map (known_by one.meeting one.polls other) ys
  all-alike [] [] alike = refl
  all-alike [] (b ∷ ys) alike = absurd alike
  all-alike (a ∷ xs) [] alike = absurd alike
  all-alike (a ∷ xs) (b ∷ ys) alike =
      let head = known-alike a b alike.0 in
      let tail = all-alike xs ys alike.1 in
      λ i. head i ∷ tail i

-- ---- corporations that authorised the party

-- rows that differ in name and pence alone have the same shares
shares-alike : (o p : Option RegisterRow) → option_map without_name_and_pence o ≡ option_map without_name_and_pence p → shares_in o ≡ shares_in p
shares-alike o p same = bare o ∙ ap shares_in same ∙ sym (bare p)
  where
    bare : (o : Option RegisterRow) → shares_in o ≡ shares_in (option_map without_name_and_pence o)
    bare None = refl
    bare (Some row) = refl

authorised-alike : (one other : MeetingLists) (given : List Authority) → All (λ (a : Authority). HoldsTheSame one other a.corporation) given
    → map authorised_in_rows (map (authority_rows_in one) given) ≡ map authorised_in_rows (map (authority_rows_in other) given)
authorised-alike one other [] all = refl
authorised-alike one other (a ∷ given) all =
    let holds : Authority → Type 0 = λ (b : Authority). HoldsTheSame one other b.corporation in
    let shares = shares-alike (row_of one.register a.corporation) (row_of other.register a.corporation) (All-head holds a given all) in
    let tail = authorised-alike one other given (All-tail holds a given all) in
    λ i. record { corporation = a.corporation; shares = shares i } ∷ tail i

-- ---- own things

pub what_is_left : DependsOnWhatIsLeft own_in
what_is_left one other closed party now h k left =
    let meeting = ap (λ (m : MeetingLists). m.meeting) left.rest in
    let polls = ap (λ (m : MeetingLists). m.polls) left.rest in
    let authorities = ap (λ (m : MeetingLists). m.authorities) left.rest in
    let within = λ (test : Authority → Bool) (concerns : (a : Authority) → test a ≡ true → authority_concerns party a ≡ true).
    sym (filter-within test (authority_concerns party) one.authorities concerns)
    ∙ ap (filter test) authorities
    ∙ filter-within test (authority_concerns party) other.authorities concerns in
    let persons = within (is_authority_of party) (λ a is. or-left (is_authority_of party a) (authorises party a) is) in
    let mine = within (authorises party) (λ a is. or_right (is_authority_of party a) (authorises party a) is) in
    let given : map (given_in (filter (is_ended_of party) one.endings)) (filter (is_given_by party) one.appointments)
    ≡ map (given_in (filter (is_ended_of party) other.endings)) (filter (is_given_by party) other.appointments) =
    λ i. map (given_in (left.ended i)) (left.given i) in
    let received = what_governs one closed party now h
    ∙ all-alike one other closed now (filter (names party) one.appointments) (filter (names party) other.appointments) left.received
    ∙ (λ i. map (known_by one other closed now (meeting i) (polls i) other) (filter (names party) other.appointments))
    ∙ sym (what_governs other closed party now k) in
    let authorised = authorised-alike one other (filter (authorises party) one.authorities) left.corporations
    ∙ ap (λ found. map authorised_in_rows (map (authority_rows_in other) found)) mine in
    let presences = ap (λ (m : MeetingLists). map (λ (mark : PresenceMark). mark.session) m.presences) left.rest in
    let demands = ap (λ (m : MeetingLists). m.demands) left.rest in
    let casts = ap (λ (m : MeetingLists). m.casts) left.rest in
    λ i. record {
      party = party;
      row = left.row i;
      given = given i;
      given_count = length (left.given i);
      persons = persons i;
      received = received i;
      authorised = authorised i;
      presences = presences i;
      demands = demands i;
      casts = own_casts.All (casts i);
    }

-- ---- names and pence

-- the row of a member in a register without names and pence
row-bare : (rows : List RegisterRow) (member : List ℕ) → row_of (map without_name_and_pence rows) member ≡ option_map without_name_and_pence (row_of rows member)
row-bare [] member = refl
row-bare (row ∷ rows) member =
    elim (same_name row.member member) as (λ b. cond b (Some (without_name_and_pence row)) (row_of (map without_name_and_pence rows) member)
    ≡ option_map without_name_and_pence (cond b (Some row) (row_of rows member))) [
      | true ↦ refl
      | false ↦ row-bare rows member
    ]

-- rows that differ in name and pence alone are of as many shares
held-alike : (o p : Option RegisterRow) → option_map without_name_and_pence o ≡ option_map without_name_and_pence p → option_map_or shares_of o 0 ≡ option_map_or shares_of p 0
held-alike o p same = bare o ∙ ap (λ r. option_map_or shares_of r 0) same ∙ sym (bare p)
  where
    bare : (o : Option RegisterRow) → option_map_or shares_of o 0 ≡ option_map_or shares_of (option_map without_name_and_pence o) 0
    bare None = refl
    bare (Some row) = refl

-- each appointment is one to its proxy where it governs the same shares by all cutoffs
zip-same : (one other : MeetingLists) (closed : List ℕ) (now : ℕ) → ((cutoffs : Cutoffs) (a : Appointment) → shares_governed one cutoffs a ≡ shares_governed other cutoffs a)
    → (xs : List Appointment) → AllZip (AreSameToTheProxy one other closed now) xs xs
zip-same one other closed now governs [] = tt
zip-same one other closed now governs (a ∷ xs) = (record { same = refl; governs = λ k d within. governs (slice_index_or (all_cutoffs one closed now) k d) a }, zip-same one other closed now governs xs)

pub no_name_or_pence : IgnoresNamesAndPence own_in
no_name_or_pence m rows closed party now h k same own =
    let renamed : MeetingLists = record m { register = rows } in
    let bare : (member : List ℕ) → HoldsTheSame m renamed member = λ member.
    sym (row-bare m.register member) ∙ ap (λ l. row_of l member) same ∙ row-bare rows member in
    let held = λ (member : List ℕ). held-alike (row_of m.register member) (row_of rows member) (bare member) in
    let governs : (cutoffs : Cutoffs) (a : Appointment) → shares_governed m cutoffs a ≡ shares_governed renamed cutoffs a = λ cutoffs a.
    ap (λ shares. governed_in cutoffs (holding_with shares m.appointments m.endings a.member) a.number) (held a.member) in
    what_is_left m renamed closed party now h k
    (record {
      row = own;
      given = refl;
      ended = refl;
      received = zip-same m renamed closed now governs (filter (names party) m.appointments);
      corporations = λ n d within. bare (slice_index_or (filter (authorises party) m.authorities) n d).corporation;
      rest = refl;
    })
