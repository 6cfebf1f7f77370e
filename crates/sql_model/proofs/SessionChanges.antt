-- A further session of a meeting that is opened.
use Rattle.std.proofs.Common.{◌≡◌, ℕ, suc, ◌+◌, ◌-◌, ◌==◌, Bool, true, false, ◌&&◌, if◌then◌else◌, List, [], ◌∷◌, length, map, slice_get, slice_set, Some, refl, sym, ap, ◌∙◌, arith, nat_le}
use Rattle.std.specs.List.{list_all}
use Rattle.std.proofs.lemmas.Bool.Decides.{nat_tests}
use Rattle.std.proofs.lemmas.List.{map-id}
use Rattle.seq.specs.Ordered.{differ_by}
use Rattle.seq.specs.Sorting.{sort_by}
use Rattle.vocabulary.specs.Names.{same_name}
use Rattle.desk_words.specs.Office.{implies, same_meeting}
use Rattle.desk_words.specs.Sessions.{last_number, open_last, open_there, opened_at}
use Rattle.desk_words.specs.declared.office.MeetingLists.{MeetingLists}
use Rattle.desk_words.specs.declared.office.OfficeLists.{OfficeLists}
use Rattle.desk_words.specs.declared.records.Resolution.{Resolution}
use Rattle.desk_words.specs.declared.records.Session.{Session}
use Rattle.sql_rows.proofs.RowMeaningLemmas.{bound}
use Rattle.sql_rows.specs.declared.stored_records.InMeeting.{InMeeting}
use Rattle.sql_rows.specs.declared.stored_records.MeetingRow.{MeetingRow}
use Rattle.sql_rows.specs.declared.stored_records.Numbered.{Numbered}
use Rattle.sql_schema.specs.Contents.{numbered_opened_at, session_opened_at}
use Rattle.sql_model.specs.OfficeRecords.{FlatLists, lists_with, number_before, numbered_from, of_meeting, office_of_records, further_sessions, whole_meeting}
use Rattle.sql_model.proofs.FlatChanges.{only_is, some_is}
use Rattle.sql_model.proofs.ModelListLemmas.{sort_by-map}
use Rattle.sql_model.proofs.Names.ListName.{Register}
use Rattle.sql_model.proofs.ModelOfficeLemmas.{AllStand, AreOf, have_all, office_changed, with_changed}
use Rattle.sql_model.proofs.ModelRecordLemmas.{of_meeting-changed, of_meeting-unchanged, stand-map}

-- the last of the further sessions of a meeting has this number
abbrev pub is_adjourned_to : List ℕ → ℕ → MeetingLists → Bool
is_adjourned_to id k x = implies (same_name x.meeting.id id) (nat_le 2 k && (last_number x.meeting == k))

module _ (moment : ℕ) where
  -- the last of some sessions opened
  abbrev open_end : List Session → List Session
  open_end [] = []
  open_end (x ∷ []) = opened_at moment x ∷ []
  open_end (x ∷ y ∷ s) = x ∷ open_end (y ∷ s)

  ends : (x : Session) (s : List Session) → (last : Session) × (slice_get (x ∷ s) (length s) ≡ Some last) × (slice_set (x ∷ s) (length s) (opened_at moment last) ≡ open_end (x ∷ s))
  ends x [] = (x, refl, refl)
  ends x (y ∷ s) = let rest = ends y s in (rest.0, rest.1, ap (λ l. x ∷ l) rest.2)

  one_less : (n : ℕ) → suc n - 1 ≡ n
  one_less n = omega arith

  -- so the last session of a meeting with further sessions is opened
  last_opened : (m : MeetingRow) (x : Session) (s : List Session) (rs : List Resolution) → open_last moment (whole_meeting m (x ∷ s) rs) ≡ whole_meeting m (open_end (x ∷ s)) rs
  last_opened m x s rs =
      let it = whole_meeting m (x ∷ s) rs in
      let last = ends x s in
      ap (open_there moment it) (ap (slice_get (x ∷ s)) (one_less (length s)) ∙ last.1)
      ∙ ap (λ l. whole_meeting m l rs) (ap (λ at. slice_set (x ∷ s) at (opened_at moment last.0)) (one_less (length s)) ∙ last.2)

  -- ---- the rows of the sessions of a meeting

  abbrev open_at : ℕ → Numbered Session → Numbered Session
  open_at k r = if r.number == k then numbered_opened_at moment r else r

  same_number : (k : ℕ) (r : Numbered Session) → (open_at k r).number ≡ r.number
  same_number k r = elim (r.number == k) as (λ b. (if b then numbered_opened_at moment r else r).number ≡ r.number) [ true ↦ refl | false ↦ refl ]

  at_end : (m n : ℕ) → (m == n) ≡ true → (m == n + 0) ≡ true
  at_end m n h = grind (arith, nat_tests)

  before_end : (m n l : ℕ) → (m == n) ≡ true → (m == n + suc l) ≡ false
  before_end m n l h = grind (arith, nat_tests)

  one_on : (n l : ℕ) → n + suc l ≡ suc n + l
  one_on n l = omega arith

  none_left : (n : ℕ) (rows : List (Numbered Session)) → numbered_from n rows ≡ Some [] → rows ≡ []
  none_left n [] h = refl
  none_left n (r ∷ rest) h =
      let here = only_is (r.number == n) _ [] h in
      let later = bound (numbered_from (suc n) rest) _ [] here.1 in
      absurd (let e : r.item ∷ later.0 ≡ [] = some_is later.2 in cc)

  -- of rows numbered on from a number the last is opened by its number
  numbered_opened : (n : ℕ) (rows : List (Numbered Session)) (x : Session) (s : List Session) → numbered_from n rows ≡ Some (x ∷ s) → numbered_from n (map (open_at (n + length s)) rows) ≡ Some (open_end (x ∷ s))
  numbered_opened n [] x s h = absurd cc
  numbered_opened n (r ∷ rest) x s h =
      let here = only_is (r.number == n) _ (x ∷ s) h in
      let later = bound (numbered_from (suc n) rest) _ (x ∷ s) here.1 in
      let are : r.item ∷ later.0 ≡ x ∷ s = some_is later.2 in
      let first : r.item ≡ x = cc in
      let others : later.0 ≡ s = cc in
      go s (later.1 ∙ ap (λ l. Some l) others) here.0 first (numbered_opened (suc n) rest)
    where
      go : (s : List Session) → numbered_from (suc n) rest ≡ Some s → (r.number == n) ≡ true → r.item ≡ x
          → ((y : Session) (more : List Session) → numbered_from (suc n) rest ≡ Some (y ∷ more) → numbered_from (suc n) (map (open_at (suc n + length more)) rest) ≡ Some (open_end (y ∷ more)))
          → numbered_from n (map (open_at (n + length s)) (r ∷ rest)) ≡ Some (open_end (x ∷ s))
      go [] known is first next = rw (none_left (suc n) rest known, at_end r.number n is, is, first) refl
      go (y ∷ s) known is first next =
          let rest_is = ap (λ k. numbered_from (suc n) (map (open_at k) rest)) (one_on n (length s)) ∙ next y s known in
          rw (before_end r.number n (length s) is, is, rest_is, first) refl

-- ---- the sessions of all meetings

module _ (flat : FlatLists) (id : List ℕ) (k moment : ℕ) where
  abbrev now_opened : FlatLists
  now_opened = record flat { sessions = map (session_opened_at id k moment) flat.sessions }

  abbrev has_number : Numbered Session → Bool
  has_number r = r.number == k

  number_is : (l : ℕ) → (nat_le 2 k && (suc (suc l) == k)) ≡ true → k ≡ 2 + l
  number_is l h = grind (arith, nat_tests)

  none_short : (nat_le 2 k && (1 == k)) ≡ true → ⊥
  none_short h = grind (arith, nat_tests)

  sessions_here : (m : MeetingRow) (s : List Session) (rs : List Resolution) → is_adjourned_to id k (lists_with flat m s rs) ≡ true → same_name m.id id ≡ true → further_sessions m.id flat.sessions ≡ Some s
      → further_sessions m.id now_opened.sessions ≡ Some (open_end moment s)
  sessions_here m [] rs good is known = absurd (none_short (rw is at good))
  sessions_here m (x ∷ s) rs good is known =
      let number = number_is (length s) (rw is at good) in
      ap (λ l. numbered_from 2 (sort_by number_before l)) (of_meeting-changed id has_number (numbered_opened_at moment) m.id flat.sessions is)
      ∙ ap (numbered_from 2) (sort_by-map number_before (open_at moment k) (λ a b. rw (same_number moment k a, same_number moment k b) refl) (of_meeting m.id flat.sessions))
      ∙ ap (λ n. numbered_from 2 (map (open_at moment n) (sort_by number_before (of_meeting m.id flat.sessions)))) number
      ∙ numbered_opened moment 2 (sort_by number_before (of_meeting m.id flat.sessions)) x s known

  sessions_there : (m : MeetingRow) → same_name m.id id ≡ false → further_sessions m.id now_opened.sessions ≡ further_sessions m.id flat.sessions
  sessions_there m other = ap (λ l. numbered_from 2 (sort_by number_before l)) (of_meeting-unchanged id has_number (numbered_opened_at moment) m.id flat.sessions other)

  here : (m : MeetingRow) (s : List Session) (rs : List Resolution) → is_adjourned_to id k (lists_with flat m s rs) ≡ true → same_name m.id id ≡ true
      → lists_with now_opened m (open_end moment s) rs ≡ (let x = lists_with flat m s rs in record x { meeting = open_last moment x.meeting })
  here m [] rs good is = absurd (none_short (rw is at good))
  here m (x ∷ s) rs good is = ap (λ w. record (lists_with flat m (x ∷ s) rs) { meeting = w }) (sym (last_opened moment m x s rs))

  still_stand : AllStand flat → AllStand now_opened
  still_stand stand = record {
    sessions = stand-map flat.meetings (session_opened_at id k moment) keeps flat.sessions ∙ stand.sessions;
    resolutions = stand.resolutions;
    lists = elim [ Register ↦ stand.lists Register | n ↦ stand.lists n ];
  }
    where
      keeps : (r : InMeeting (Numbered Session)) → (session_opened_at id k moment r).meeting ≡ r.meeting
      keeps r = elim (same_name r.meeting id && (r.item.number == k)) as (λ b. (if b then record r { item = numbered_opened_at moment r.item } else r).meeting ≡ r.meeting) [ true ↦ refl | false ↦ refl ]

  -- the last session of a meeting that was adjourned is opened
  pub session_opened : (office : OfficeLists) → AreOf flat office → differ_by same_meeting office.meetings ≡ true → list_all (is_adjourned_to id k) office.meetings ≡ true
      → office_of_records now_opened ≡ Some (with_changed id (λ x. record x { meeting = open_last moment x.meeting }) office)
  session_opened office of differ last =
      office_changed flat now_opened (λ m. m) id (λ x. record x { meeting = open_last moment x.meeting }) (is_adjourned_to id k) (record {
        meetings = rw (map-id flat.meetings) refl;
        named = λ m. refl;
        resolutions = refl;
        later = open_end moment;
        sessions_here = sessions_here;
        sessions_there = sessions_there;
        here = here;
        there = λ m s rs other. refl;
        keys = refl;
        closed = refl;
      }) office of (have_all now_opened (still_stand of.stand)) differ last
