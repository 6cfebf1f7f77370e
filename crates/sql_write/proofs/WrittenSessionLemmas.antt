-- How many sessions a meeting has.
use Rattle.std.proofs.Common.{◌≡◌, inl, inr, ℕ, suc, ◌+◌, ◌==◌, Bool, true, false, ◌&&◌, if◌then◌else◌, List, [], ◌∷◌, ◌++◌, length, filter, take, Option, Some, nat_le, refl, sym, ap, ◌∙◌, true≢false, arith}
use Rattle.std.specs.Cmp.{first_so, second_so}
use Rattle.std.specs.List.{list_all}
use Rattle.std.proofs.lemmas.Bool.{cases_Bool}
use Rattle.std.proofs.lemmas.Bool.Decides.{nat_tests}
use Rattle.std.proofs.lemmas.List.{length-map}
use Rattle.std.proofs.lemmas.List.Folds.{list_all-append}
use Rattle.sqlite.specs.Order.{Row}
use Rattle.seq.specs.Sorting.{insert_by, sort_by}
use Rattle.vocabulary.specs.Names.{same_name}
use Rattle.desk_words.proofs.OfficeFacts.{meeting_facts}
use Rattle.desk_words.proofs.WordRowLemmas.{same_name-true}
use Rattle.desk_words.specs.Changes.{new_lists}
use Rattle.desk_words.specs.Office.{implies, is_meeting, no_rows}
use Rattle.desk_words.specs.Registers.{is_register}
use Rattle.desk_words.specs.Sessions.{is_opened}
use Rattle.desk_words.specs.declared.office.MeetingLists.{MeetingLists}
use Rattle.desk_words.specs.declared.office.OfficeLists.{OfficeLists}
use Rattle.desk_words.specs.declared.records.Meeting.{Meeting}
use Rattle.desk_words.specs.declared.records.Session.{Session}
use Rattle.sql_rows.proofs.RowMeaningLemmas.{bound}
use Rattle.sql_rows.specs.Meanings.{all_meanings}
use Rattle.sql_rows.specs.declared.stored_records.InMeeting.{InMeeting}
use Rattle.sql_rows.specs.declared.stored_records.MeetingRow.{MeetingRow}
use Rattle.sql_rows.specs.declared.stored_records.Numbered.{Numbered}
use Rattle.sql_model.specs.OfficeRecords.{FlatLists, lists_of, lists_of_all, number_before, numbered_from, of_meeting}
use Rattle.sql_model.proofs.FlatChanges.{only_is, some_is}
use Rattle.sql_model.proofs.MeetingChanges.{is_alone}
use Rattle.sql_model.proofs.ModelOfficeLemmas.{AreOf, given, named_so}
use Rattle.sql_model.proofs.SessionChanges.{is_adjourned_to}
use Rattle.sql_write.proofs.SessionAdded.{goes_on_with}

-- ---- rows, and what they mean

-- rows mean as many records
pub as_many_mean : {A : Type 0} (means : Row → Option A) (rows : List Row) (xs : List A) → all_meanings means rows ≡ Some xs → length rows ≡ length xs
as_many_mean means [] xs h = ap length (some_is h)
as_many_mean means (row ∷ rows) xs h =
    let first = bound (means row) _ xs h in
    let rest = bound (all_meanings means rows) _ xs first.2 in
    ap suc (as_many_mean means rows rest.0 rest.1) ∙ ap length (some_is rest.2)

as_many_numbered : {A : Type 0} (n : ℕ) (rows : List (Numbered A)) (xs : List A) → numbered_from n rows ≡ Some xs → length rows ≡ length xs
as_many_numbered n [] xs h = ap length (some_is h)
as_many_numbered n (r ∷ rest) xs h =
    let here = only_is (r.number == n) _ xs h in
    let later = bound (numbered_from (suc n) rest) _ xs here.1 in
    ap suc (as_many_numbered (suc n) rest later.0 later.1) ∙ ap length (some_is later.2)

as_many_inserted : {X : Type 0} (before : X → X → Bool) (x : X) (ys : List X) → length (insert_by before x ys) ≡ suc (length ys)
as_many_inserted before x [] = refl
as_many_inserted before x (y ∷ ys) =
    elim (before x y) as (λ b. length (if b then x ∷ y ∷ ys else y ∷ insert_by before x ys) ≡ suc (suc (length ys)))
    [ true ↦ refl | false ↦ ap suc (as_many_inserted before x ys) ]

as_many_sorted : {X : Type 0} (before : X → X → Bool) (xs : List X) → length (sort_by before xs) ≡ length xs
as_many_sorted before [] = refl
as_many_sorted before (x ∷ xs) = as_many_inserted before x (sort_by before xs) ∙ ap suc (as_many_sorted before xs)

-- ---- the further sessions of a meeting

-- the records of the further sessions of a meeting
abbrev pub further_in : List ℕ → List (InMeeting (Numbered Session)) → List (InMeeting (Numbered Session))
further_in id records = filter (λ (it : InMeeting (Numbered Session)). same_name it.meeting id) records

-- are as many as it has
as_many_later : (flat : FlatLists) (id : List ℕ) (m : MeetingRow) (x : MeetingLists) → lists_of flat m ≡ Some x → same_name x.meeting.id id ≡ true → length x.meeting.later ≡ length (further_in id flat.sessions)
as_many_later flat id m x h named =
    let it = given flat m x h in
    let name : m.id ≡ id = sym (named_so flat m x h) ∙ same_name-true x.meeting.id id named in
    ap (λ (y : MeetingLists). length y.meeting.later) (sym it.is)
    ∙ sym (as_many_numbered 2 (sort_by number_before (of_meeting m.id flat.sessions)) it.later it.sessions)
    ∙ as_many_sorted number_before (of_meeting m.id flat.sessions)
    ∙ length-map (further_in m.id flat.sessions) (λ (r : InMeeting (Numbered Session)). r.item)
    ∙ ap (λ n. length (further_in n flat.sessions)) name

each_so : (flat : FlatLists) (test : MeetingLists → Bool) (rows : List MeetingRow) (lists : List MeetingLists) → lists_of_all flat rows ≡ Some lists → ((m : MeetingRow) (x : MeetingLists) → lists_of flat m ≡ Some x → test x ≡ true) → list_all test lists ≡ true
each_so flat test [] lists h so = let nothing : [] ≡ lists = some_is h in rw (← nothing) refl
each_so flat test (m ∷ rest) lists h so =
    let first = bound (lists_of flat m) _ lists h in
    let later = bound (lists_of_all flat rest) _ lists first.2 in
    let are : first.0 ∷ later.0 ≡ lists = some_is later.2 in
    rw (← are, so m first.0 first.1, each_so flat test rest later.0 later.1 so) refl

module _ (flat : FlatLists) (office : OfficeLists) (id : List ℕ) (k : ℕ) (of : AreOf flat office) (count : k ≡ length (further_in id flat.sessions)) where
  -- where there is none, it has one session
  pub has_one : k ≡ 0 → list_all (is_alone id) office.meetings ≡ true
  has_one none = each_so flat (is_alone id) flat.meetings office.meetings of.lists λ m x h. elim (cases_Bool (same_name x.meeting.id id)) [
    | inl is ↦ rw is (ap (λ n. n == 0) (as_many_later flat id m x h is ∙ sym count ∙ none))
    | inr other ↦ rw other refl
  ]

  -- else the last has the number behind theirs
  pub has_last : (number : ℕ) → number ≡ k + 1 → (number == 1) ≡ false → list_all (is_adjourned_to id number) office.meetings ≡ true
  has_last number is some = each_so flat (is_adjourned_to id number) flat.meetings office.meetings of.lists λ m x h. elim (cases_Bool (same_name x.meeting.id id)) [
    | inl named ↦ rw named (ap (λ n. nat_le 2 number && (suc n == number)) (as_many_later flat id m x h named ∙ sym count) ∙ right k number is some)
    | inr other ↦ rw other refl
  ]
    where
      right : (k number : ℕ) → number ≡ k + 1 → (number == 1) ≡ false → (nat_le 2 number && (suc k == number)) ≡ true
      right k number is some = grind (arith, nat_tests)

  -- and the next has the one behind that
  pub has_next : (number : ℕ) → number ≡ k + 2 → list_all (goes_on_with id number) office.meetings ≡ true
  has_next number is = each_so flat (goes_on_with id number) flat.meetings office.meetings of.lists λ m x h. elim (cases_Bool (same_name x.meeting.id id)) [
    | inl named ↦ rw named (ap (λ n. suc (suc n) == number) (as_many_later flat id m x h named ∙ sym count) ∙ right k number is)
    | inr other ↦ rw other refl
  ]
    where
      right : (k number : ℕ) → number ≡ k + 2 → (suc (suc k) == number) ≡ true
      right k number is = grind (arith, nat_tests)

-- ---- a meeting that is called

-- the last passes what all do
pub last_passes : {X : Type 0} (test : X → Bool) (xs : List X) (x : X) → list_all test (xs ++ x ∷ []) ≡ true → test x ≡ true
last_passes test xs x h = first_so (test x) true (second_so (list_all test xs) (test x && true) (sym (list_all-append test xs (x ∷ [])) ∙ h))

-- it has no further session, since its first is not opened, as it has no register
pub called_with_one : (m : Meeting) → is_meeting (new_lists m) ≡ true → m.later ≡ []
called_with_one m good =
    let f = meeting_facts (new_lists m) good in
    go m.later m.loaded m.first (second_so _ _ f.sessions) f.loaded
  where
    go : (later : List Session) (loaded : Bool) (first : Session) → list_all is_opened (take (length later) (first ∷ later)) ≡ true → ((if loaded then is_register [] else no_rows []) && implies (is_opened first) loaded) ≡ true → later ≡ []
    go [] loaded first each h = refl
    go (s ∷ later) true first each h = absurd (true≢false (sym h))
    go (s ∷ later) false first each h =
        let opened = first_so (is_opened first) (list_all is_opened (take (length later) (s ∷ later))) each in
        absurd (true≢false (sym h ∙ ap (λ b. implies b false) opened))
