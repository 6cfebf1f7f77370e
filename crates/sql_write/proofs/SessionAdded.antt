-- A further session that is added: a row behind the others is the last session of its meeting.
use Rattle.std.proofs.Common.{◌≡◌, ℕ, suc, ◌+◌, ◌==◌, Bool, true, false, List, [], ◌∷◌, ◌++◌, length, Option, Some, refl, sym, ap, subst, ◌∙◌, arith, nat_lt}
use Rattle.std.specs.List.{list_all, list_any}
use Rattle.std.specs.Ordering.{nat_cmp}
use Rattle.std.proofs.lemmas.Bool.Decides.{nat_tests}
use Rattle.std.proofs.lemmas.Cmp.{nat_cmp_total}
use Rattle.std.proofs.lemmas.List.{map-id}
use Rattle.seq.specs.Ordered.{ascends_by, differ_by, key_before}
use Rattle.seq.specs.Sorting.{insert_by, sort_by}
use Rattle.seq.proofs.Numbers.{is_lt-nat_cmp}
use Rattle.vocabulary.specs.Names.{same_name}
use Rattle.vocabulary.specs.OptionSteps.{◌>>=◌, guard}
use Rattle.desk_words.specs.Office.{implies, same_meeting}
use Rattle.desk_words.specs.Sessions.{last_number}
use Rattle.desk_words.specs.declared.office.MeetingLists.{MeetingLists}
use Rattle.desk_words.specs.declared.office.OfficeLists.{OfficeLists}
use Rattle.desk_words.specs.declared.records.Session.{Session}
use Rattle.sql_rows.proofs.RowMeaningLemmas.{bound}
use Rattle.sql_rows.specs.declared.stored_records.Numbered.{Numbered}
use Rattle.sql_model.specs.OfficeRecords.{FlatLists, number_before, numbered_from, of_meeting, office_of_records}
use Rattle.sql_model.proofs.FlatChanges.{only_is, some_is}
use Rattle.sql_model.proofs.ModelListLemmas.{sort_by-last}
use Rattle.sql_model.proofs.Names.ListName.{Register}
use Rattle.sql_model.proofs.ModelOfficeLemmas.{AllStand, AreOf, have_all, office_changed, stands_there, with_changed}
use Rattle.sql_model.proofs.ModelRecordLemmas.{in_meeting, of_meeting-last, of_meeting-same, stand-append, stand-own}

abbrev its_number : Numbered Session → ℕ
its_number r = r.number

by_number : ◌≡◌ {A = Numbered Session → Numbered Session → Bool} number_before (key_before its_number nat_cmp)
by_number = λ i a b. sym (is_lt-nat_cmp a.number b.number) i

up : (a b n : ℕ) → (a == n) ≡ true → (b == suc n) ≡ true → nat_lt a b ≡ true
up a b n h k = grind (arith, nat_tests)

same_as : (a n : ℕ) → a ≡ n + 0 → (a == n) ≡ true
same_as a n h = grind (arith, nat_tests)

not_before : (a b n l : ℕ) → a ≡ suc n + l → (b == n) ≡ true → nat_lt a b ≡ false
not_before a b n l h k = grind (arith, nat_tests)

one_further : (a n l : ℕ) → a ≡ n + suc l → a ≡ suc n + l
one_further a n l h = omega (arith, h)

-- rows numbered on stand in the order of their numbers
numbered_rises : (n : ℕ) (rows : List (Numbered Session)) (s : List Session) → numbered_from n rows ≡ Some s → ascends_by number_before rows ≡ true
numbered_rises n [] s h = refl
numbered_rises n (x ∷ []) s h = refl
numbered_rises n (x ∷ y ∷ rows) s h =
    let here = only_is (x.number == n) _ s h in
    let later = bound (numbered_from (suc n) (y ∷ rows)) _ s here.1 in
    let next = only_is (y.number == suc n) _ later.0 later.1 in
    rw (up x.number y.number n here.0 next.0, numbered_rises (suc n) (y ∷ rows) later.0 later.1) refl

-- a row with the next number goes behind them
goes_behind : (n : ℕ) (rows : List (Numbered Session)) (s : List Session) (r : Numbered Session) → numbered_from n rows ≡ Some s → r.number ≡ n + length s → insert_by number_before r rows ≡ rows ++ r ∷ []
goes_behind n [] s r h is = refl
goes_behind n (x ∷ rows) s r h is =
    let here = only_is (x.number == n) _ s h in
    let later = bound (numbered_from (suc n) rows) _ s here.1 in
    let count = one_further r.number n (length later.0) (is ∙ ap (λ l. n + length l) (sym (some_is later.2))) in
    rw (not_before r.number x.number n (length later.0) count here.0) (ap (λ l. x ∷ l) (goes_behind (suc n) rows later.0 r later.1 count))

joined : (b : Bool) (o : Option (List Session)) (x : Session) (s : List Session) → b ≡ true → o ≡ Some s → (guard b >>= λ _. o >>= λ l. Some (x ∷ l)) ≡ Some (x ∷ s)
joined b o x s is h = rw (is, h) refl

-- and is numbered on with them
numbered_behind : (n : ℕ) (rows : List (Numbered Session)) (s : List Session) (r : Numbered Session) → numbered_from n rows ≡ Some s → r.number ≡ n + length s → numbered_from n (rows ++ r ∷ []) ≡ Some (s ++ r.item ∷ [])
numbered_behind n [] s r h is =
    let none : [] ≡ s = some_is h in
    let first = same_as r.number n (is ∙ ap (λ l. n + length l) (sym none)) in
    rw (← none, first) refl
numbered_behind n (x ∷ rows) s r h is =
    let here = only_is (x.number == n) _ s h in
    let later = bound (numbered_from (suc n) rows) _ s here.1 in
    let are : x.item ∷ later.0 ≡ s = some_is later.2 in
    let count = one_further r.number n (length later.0) (is ∙ ap (λ l. n + length l) (sym are)) in
    let rest = numbered_behind (suc n) rows later.0 r later.1 count in
    joined (x.number == n) (numbered_from (suc n) (rows ++ r ∷ [])) x.item (later.0 ++ r.item ∷ []) here.0 rest ∙ ap (λ l. Some (l ++ r.item ∷ [])) are

last_row : (xs : List (Numbered Session)) (r : Numbered Session) → ascends_by number_before (insert_by number_before r (sort_by number_before xs)) ≡ true → sort_by number_before (xs ++ r ∷ []) ≡ insert_by number_before r (sort_by number_before xs)
last_row xs r =
    subst (λ before. ascends_by before (insert_by before r (sort_by before xs)) ≡ true → sort_by before (xs ++ r ∷ []) ≡ insert_by before r (sort_by before xs)) (sym by_number)
    (sort_by-last nat_cmp_total its_number xs r)

-- so the rows in order are those before and that one
sorted_behind : (n : ℕ) (xs : List (Numbered Session)) (s : List Session) (r : Numbered Session) → numbered_from n (sort_by number_before xs) ≡ Some s → r.number ≡ n + length s
    → numbered_from n (sort_by number_before (xs ++ r ∷ [])) ≡ Some (s ++ r.item ∷ [])
sorted_behind n xs s r known is =
    let rows = sort_by number_before xs in
    let behind = goes_behind n rows s r known is in
    let numbered = numbered_behind n rows s r known is in
    ap (numbered_from n) (last_row xs r (ap (ascends_by number_before) behind ∙ numbered_rises n (rows ++ r ∷ []) (s ++ r.item ∷ []) numbered) ∙ behind) ∙ numbered

-- the next session of a meeting has this number
abbrev pub goes_on_with : List ℕ → ℕ → MeetingLists → Bool
goes_on_with id k x = implies (same_name x.meeting.id id) (suc (last_number x.meeting) == k)

module _ (flat : FlatLists) (id : List ℕ) (k : ℕ) (added : Session) where
  abbrev its_row : Numbered Session
  its_row = record { number = k; item = added }

  abbrev with_row : FlatLists
  with_row = record flat { sessions = flat.sessions ++ in_meeting id its_row ∷ [] }

  abbrev one_more : MeetingLists → MeetingLists
  one_more x = record x { meeting = record x.meeting { later = x.meeting.later ++ added ∷ [] } }

  next_is : (l : ℕ) → (suc (suc l) == k) ≡ true → k ≡ 2 + l
  next_is l h = grind (arith, nat_tests)

  -- a session more of a meeting, with the next number, stands behind its others
  pub session_added : (office : OfficeLists) → AreOf flat office → differ_by same_meeting office.meetings ≡ true → list_any (λ (x : MeetingLists). same_name x.meeting.id id) office.meetings ≡ true
      → list_all (goes_on_with id k) office.meetings ≡ true → office_of_records with_row ≡ Some (with_changed id one_more office)
  session_added office of differ one next =
      office_changed flat with_row (λ m. m) id one_more (goes_on_with id k) (record {
        meetings = rw (map-id flat.meetings) refl;
        named = λ m. refl;
        resolutions = refl;
        later = λ s. s ++ added ∷ [];
        sessions_here = λ m s rs good is known.
            ap (λ l. numbered_from 2 (sort_by number_before l)) (of_meeting-last id m.id flat.sessions its_row is)
            ∙ sorted_behind 2 (of_meeting m.id flat.sessions) s its_row known (next_is (length s) (rw is at good));
        sessions_there = λ m other. ap (λ l. numbered_from 2 (sort_by number_before l)) (of_meeting-same id m.id flat.sessions its_row other);
        here = λ m s rs good is. refl;
        there = λ m s rs other. refl;
        keys = refl;
        closed = refl;
      }) office of (have_all with_row still_stand) differ next
    where
      still_stand : AllStand with_row
      still_stand = record {
        sessions = stand-append flat.meetings flat.sessions (in_meeting id its_row ∷ []) of.stand.sessions (stand-own flat.meetings id (its_row ∷ []) (sym (stands_there flat office id of) ∙ one));
        resolutions = of.stand.resolutions;
        lists = elim [ Register ↦ of.stand.lists Register | n ↦ of.stand.lists n ];
      }
