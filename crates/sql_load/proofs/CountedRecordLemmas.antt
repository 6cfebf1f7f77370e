-- The public record without its resolutions, from the readings of its parts.
use Rattle.std.proofs.Common.{◌≡◌, ◌⊎◌, inl, inr, ◌≤◌, ◌<◌, ◌+◌, ℕ, suc, Bool, true, false, ◌&&◌, cond, nat_le, List, [], ◌∷◌, filter, find, length, map, Option, Some, None, Ok, Err, Result, OnOk, IfOk, IsTrue, refl, sym, ap, subst, ◌∙◌, arith}
use Rattle.std.specs.Prelude.{MatchResult, option_map, is_some, ◌==◌}
use Rattle.std.specs.List.{All, AllByRecursion, list_all, slice_get}
use Rattle.std.specs.Cmp.{first_so, second_so}
use Rattle.std.specs.Cmp.Derive.{both_true}
use Rattle.std.proofs.lemmas.Bool.Decides.{nat_tests}
use Rattle.std.proofs.lemmas.List.{get_or-map, length-map}
use Rattle.std.proofs.lemmas.List.Elements.{All-contains, All-from_recursion, All-map, recursion_from_All}
use Rattle.std.proofs.lemmas.List.Sorted.{All-permutation, IsPermutation-sym, length_permutation}
use Rattle.sqlite.specs.declared.error.Error.{Error}
use Rattle.sqlite.specs.Held.{Held, state}
use Rattle.sqlite.specs.Order.{Row}
use Rattle.sqlite.specs.State.{IsUnchanged}
use Rattle.sqlite.specs.Tree.{Trees}
use Rattle.sqlite_trees.proofs.ListLemmas as trees
use Rattle.sqlite_trees.specs.declared.store.Store as store
use Rattle.seq.specs.Ordered.{ascends_by}
use Rattle.seq.specs.Sorting.{sort_by}
use Rattle.seq.proofs.Differing.{all_weaker}
use Rattle.seq.proofs.Filtered.{all-filter}
use Rattle.seq.proofs.SortingLemmas.{IsPermutation-sort_by}
use Rattle.vocabulary.specs.Names.{same_name}
use Rattle.vocabulary.specs.OptionSteps.{guard}
use Rattle.desk_words.specs.Finding.{meeting_named, poll_on}
use Rattle.desk_words.specs.Office.{implies, is_declared_right, is_office, is_poll, is_resolution, poll_before}
use Rattle.desk_words.specs.Sessions.{is_opened_session}
use Rattle.desk_words.specs.declared.limits.TheConstants.{MOST_RESOLUTIONS}
use Rattle.desk_words.specs.declared.office.MeetingLists.{MeetingLists}
use Rattle.desk_words.specs.declared.office.OfficeLists.{OfficeLists}
use Rattle.desk_words.specs.declared.records.Meeting.{Meeting}
use Rattle.desk_words.specs.declared.records.Poll.{Poll}
use Rattle.desk_words.specs.declared.records.Resolution.{Resolution}
use Rattle.desk_words.specs.declared.records.Session.{Session}
use Rattle.desk_words.proofs.OfficeFacts.{find-passes, found_facts}
use Rattle.sql_rows.specs.declared.stored_records.InMeeting.{InMeeting}
use Rattle.sql_rows.specs.declared.stored_records.MeetingRow.{MeetingRow}
use Rattle.sql_rows.specs.declared.stored_records.Numbered.{Numbered}
use Rattle.sql_rows.proofs.RowMeaningLemmas.{bound}
use Rattle.sql_schema.specs.Statements.{ChangesNothing, IsRead, TableOf, records_in}
use Rattle.sql_rows.specs.Meanings.{all_meanings}
use Rattle.sql_queries.specs.LastRecords.{FindsLast, IsLastOf}
use Rattle.sql_model.specs.OfficeRecords.{FlatLists, flat_in, number_before, numbered_from, office_of_records, whole_meeting}
use Rattle.sql_model.proofs.ModelOfficeLemmas.{AreOf, are_of}
use Rattle.sql_load.specs.declared.fault.LoadError.{LoadError}
use Rattle.sql_load.specs.LoadResults.{ReadAgrees, any_at_all, fault_of_error}
use Rattle.party_views.specs.PublicRead.{stand_ins, unread, up_to, with_unread}
use Rattle.party_views.specs.RowsRead.{polls_on}
use Rattle.party_views.specs.Views.{polls_in}
use Rattle.sql_load.specs.MeetingRecords.{AreOnItsResolutions, MayHave, are_on, last_number, later_in, may_have, without_meeting}
use Rattle.sql_load.specs.TableLookUps.{HoldsOfStoredOffice, HoldsOrFails}
use Rattle.sql_load.proofs.FoundRecordLemmas.{error_returns, says, yields_return}
use Rattle.sql_load.proofs.NamedMeetingLemmas.{HoldAll, all_held, the_same}
use Rattle.sql_load.proofs.PublicRecordLemmas.{IsRow, IsRowOf, no_meeting, resolutions_so}

-- ---- the last record that a query found

module _ {V A S : Type 0} (g : store.Ghosts S) (a b : Held S) (rows_in : V → List Row) (table : TableOf A) (test : A → Bool) (number : A → ℕ) (R : List A → Type 0) where
  -- what is read of the rows of the last record, where it follows from what that is
  last_said : (was : List A) → records_in table (state g a).now.trees ≡ Some was → ((last : List A) → IsLastOf number (filter test was) last → R last) → (rows : Result V Error) (r : Result (List A) LoadError)
      → MatchResult rows (λ v. ReadAgrees any_at_all r (all_meanings table.means (rows_in v))) (λ e. r ≡ Err (fault_of_error e)) → IfOk rows (λ v. FindsLast g a b table test number (rows_in v)) → HoldsOrFails R r
  last_said was held so (Ok v) r found h =
      let last = h.0 was held in
      says R last.0 r (so last.0 last.2) (yields_return any_at_all r last.0 (all_meanings table.means (rows_in v)) found last.1 refl)
  last_said was held so (Err e) r found h = subst (HoldsOrFails R) (sym found) (error_returns R e)

module _ {V A S : Type 0} (g : store.Ghosts S) (a b : Held S) (rows_in : V → List Row) (table : TableOf A) (test : A → Bool) (number : A → ℕ) where
  last_same : (rows : Result V Error) (r : Result (List A) LoadError) → MatchResult rows (λ v. ReadAgrees any_at_all r (all_meanings table.means (rows_in v))) (λ e. r ≡ Err (fault_of_error e))
      → IfOk rows (λ v. FindsLast g a b table test number (rows_in v)) → OnOk r (IsUnchanged (state g a) (state g b))
  last_same (Ok v) r found h = on_any r h.1
    where
      on_any : (q : Result (List A) LoadError) → IsUnchanged (state g a) (state g b) → OnOk q (IsUnchanged (state g a) (state g b))
      on_any (Ok x) same = same
      on_any (Err e) same = tt
  last_same (Err e) r found h = subst (λ (q : Result (List A) LoadError). OnOk q (IsUnchanged (state g a) (state g b))) (sym found) tt

module _ {V A S : Type 0} (g : store.Ghosts S) (a b : Held S) (rows_in : V → List Row) (table : TableOf A) (all : FlatLists → List A) (held : (trees : Trees) (flat : FlatLists) → HoldAll trees flat → records_in table trees ≡ Some (all flat))
    (test : A → Bool) (number : A → ℕ) (rows : Result V Error) (finds : IsRead g a b → IfOk rows (λ v. FindsLast g a b table test number (rows_in v))) (changes : ChangesNothing g a b)
    (r : Result (List A) LoadError) (found : MatchResult rows (λ v. ReadAgrees any_at_all r (all_meanings table.means (rows_in v))) (λ e. r ≡ Err (fault_of_error e))) where
  pub last_holds : (R : OfficeLists → List A → Type 0) → ((flat : FlatLists) (office : OfficeLists) → AreOf flat office → (last : List A) → IsLastOf number (filter test (all flat)) last → R office last) → HoldsOfStoredOffice g a b r R
  last_holds R so = record {
    holds = λ read office holds preserved.
        let flat = bound (flat_in (state g a).now.trees) office_of_records office holds in
        last_said g a b rows_in table test number (R office) (all flat.0) (held (state g a).now.trees flat.0 (all_held (state g a).now.trees flat.0 flat.1)) (so flat.0 office (are_of flat.0 office flat.2)) rows r found (finds read);
    same = λ read. last_same g a b rows_in table test number rows r found (finds read);
    changes = changes;
  }

-- ---- how many resolutions there are

-- rows that are numbered on are as many as what they number
pub numbered_length : {A : Type 0} (n : ℕ) (rows : List (Numbered A)) (xs : List A) → numbered_from n rows ≡ Some xs → length xs ≡ length rows
numbered_length n [] xs h = let none : [] ≡ xs = the_same h in ap length (sym none)
numbered_length n (r ∷ rest) xs h =
    let here = bound (guard (r.number == n)) _ xs h in
    let later = bound (numbered_from (suc n) rest) _ xs here.2 in
    let is : r.item ∷ later.0 ≡ xs = the_same later.2 in
    ap length (sym is) ∙ ap suc (numbered_length (suc n) rest later.0 later.1)

guarded : (b : Bool) (u : Unit) → guard b ≡ Some u → b ≡ true
guarded true u h = refl
guarded false u h = absurd cc

-- none of them has a number past the last
numbered_below : {A : Type 0} (n : ℕ) (rows : List (Numbered A)) (xs : List A) → numbered_from n rows ≡ Some xs → AllByRecursion (λ (r : Numbered A). suc r.number ≤ n + length rows) rows
numbered_below n [] xs h = tt
numbered_below {A} n (r ∷ rest) xs h =
    let here = bound (guard (r.number == n)) _ xs h in
    let later = bound (numbered_from (suc n) rest) _ xs here.2 in
    let is : (r.number == n) ≡ true = guarded (r.number == n) here.0 here.1 in
    (grind (arith, nat_tests), trees.all_weaker (λ (q : Numbered A). suc q.number ≤ suc n + length rest) (λ (q : Numbered A). suc q.number ≤ n + suc (length rest)) (λ q le. omega arith) rest (numbered_below (suc n) rest later.0 later.1))

-- and the last has that number, so what is no less than each is no less than it
numbered_up_to : {A : Type 0} (n : ℕ) (rows : List (Numbered A)) (xs : List A) (most : ℕ) → numbered_from n rows ≡ Some xs → AllByRecursion (λ (r : Numbered A). r.number ≤ most) rows → (rows ≡ []) ⊎ (n + length rows ≤ suc most)
numbered_up_to n [] xs most h low = inl refl
numbered_up_to {A} n (r ∷ rest) xs most h low =
    let here = bound (guard (r.number == n)) _ xs h in
    let later = bound (numbered_from (suc n) rest) _ xs here.2 in
    let is : (r.number == n) ≡ true = guarded (r.number == n) here.0 here.1 in
    let first : n ≤ most = grind (arith, nat_tests, low.0) in
    inr (elim (numbered_up_to (suc n) rest later.0 most later.1 low.1) [
      | inl none ↦ subst (λ (l : List (Numbered A)). n + suc (length l) ≤ suc most) (sym none) (omega (arith, first))
      | inr le ↦ omega (arith, le)
    ])

-- the meeting of that name, if there is one, has so many resolutions
abbrev pub HasCount : List ℕ → OfficeLists → ℕ → Type 0
HasCount id office count = (m : MeetingLists) → meeting_named office.meetings id ≡ Some m → count ≡ length m.meeting.resolutions

abbrev pub Stored : Type 0
Stored = InMeeting (Numbered Resolution)

abbrev pub number_of : Stored → ℕ
number_of r = r.item.number

mapped_back : {X Y : Type 0} (f : X → Y) (P : Y → Type 0) (xs : List X) → All P (map f xs) → All (λ x. P (f x)) xs
mapped_back f P xs all k d lt = subst P (get_or-map f xs k d (f d) lt) (all k (f d) (subst (λ n. k < n) (sym (length-map xs f)) lt))

-- the last of rows that are numbered on from 1, once they are in order, has the number of all
last_counts : (found : List Stored) (xs : List Resolution) → numbered_from 1 (sort_by number_before (map without_meeting found)) ≡ Some xs → (last : List Stored) → IsLastOf number_of found last → last_number last ≡ length xs
last_counts found xs h last is =
    let rows = map without_meeting found in
    let sorted = sort_by number_before rows in
    let moved = IsPermutation-sort_by number_before rows in
    let long : length sorted ≡ length found = length_permutation rows sorted moved ∙ length-map found without_meeting in
    go last is sorted (numbered_length 1 sorted xs h) long
    (mapped_back without_meeting (λ (r : Numbered Resolution). suc r.number ≤ 1 + length sorted) found
    (All-permutation (λ (r : Numbered Resolution). suc r.number ≤ 1 + length sorted) sorted rows (IsPermutation-sym rows sorted moved) (All-from_recursion (λ (r : Numbered Resolution). suc r.number ≤ 1 + length sorted) sorted (numbered_below 1 sorted xs h))))
    (λ most low.
    numbered_up_to 1 sorted xs most h
    (recursion_from_All (λ (r : Numbered Resolution). r.number ≤ most) sorted (All-permutation (λ (r : Numbered Resolution). r.number ≤ most) rows sorted moved (All-map (λ (r : Numbered Resolution). r.number ≤ most) without_meeting found low))))
  where
    go : (last : List Stored) → IsLastOf number_of found last → (sorted : List (Numbered Resolution)) → length xs ≡ length sorted → length sorted ≡ length found → All (λ (r : Stored). suc r.item.number ≤ 1 + length sorted) found
        → ((most : ℕ) → All (λ (r : Stored). r.item.number ≤ most) found → (sorted ≡ []) ⊎ (1 + length sorted ≤ suc most)) → last_number last ≡ length xs
    go [] none sorted count long below up = let empty = ap length none in omega (arith, count, long, empty)
    go (one ∷ []) is sorted count long below up =
        let under : suc one.item.number ≤ 1 + length sorted = All-contains (λ (r : Stored). suc r.item.number ≤ 1 + length sorted) found one below is.0 in
        elim (up one.item.number is.1) [
          | inl none ↦ let empty = ap length none in let at = is.0.1 in absurd (omega (arith, long, empty, at))
          | inr le ↦ omega (arith, under, le, count)
        ]
    go (one ∷ two ∷ more) is sorted count long below up = absurd is

pub count_so : (id : List ℕ) (flat : FlatLists) (office : OfficeLists) → AreOf flat office → (last : List Stored) → IsLastOf number_of (filter (λ (it : Stored). same_name it.meeting id) flat.resolutions) last → HasCount id office (last_number last)
count_so id flat office of last is m found = last_counts (filter (λ (it : Stored). same_name it.meeting id) flat.resolutions) m.meeting.resolutions (resolutions_so id flat office of m found) last is

-- ---- the meeting

-- the meeting of that name, if there is one, with so many resolutions that it may have in place of its own
abbrev pub IsUnread : List ℕ → ℕ → OfficeLists → Option Meeting → Type 0
IsUnread id count office preserved = MayHave (meeting_named office.meetings id) count → preserved ≡ option_map (with_unread count) (option_map (λ (m : MeetingLists). m.meeting) (meeting_named office.meetings id))

-- the meeting of that name, if there is one, with as many resolutions in place of its own as stand for so many
abbrev pub IsReadAs : List ℕ → (ℕ → ℕ) → OfficeLists → Option Meeting → Type 0
IsReadAs id stands office preserved =
    preserved ≡ option_map (λ (m : Meeting). with_unread (stands (length m.resolutions)) m) (option_map (λ (m : MeetingLists). m.meeting) (meeting_named office.meetings id))

-- the row with the further sessions and so many resolutions is the meeting with these in place of its own
pub unread_so : (id : List ℕ) (office : OfficeLists) (meetings : List MeetingRow) (row : MeetingRow) → Some row ≡ slice_get meetings 0 → IsRow id office meetings
    → (later : List Session) → later ≡ later_in (meeting_named office.meetings id) → (count : ℕ) (resolutions : List Resolution) → (may_have count ≡ true → resolutions ≡ unread count) → IsUnread id count office (Some (whole_meeting row later resolutions))
unread_so id office meetings row first one later sessions count resolutions made = go (meeting_named office.meetings id) (subst (IsRowOf (meeting_named office.meetings id)) (sym first) one) sessions
  where
    go : (found : Option MeetingLists) → IsRowOf found (Some row) → later ≡ later_in found → MayHave found count
        → Some (whole_meeting row later resolutions) ≡ option_map (with_unread count) (option_map (λ (m : MeetingLists). m.meeting) found)
    go None none those may = absurd cc
    go (Some m) is those may =
        let its : resolutions ≡ unread count = made (may m refl) in
        ap (λ s. Some (whole_meeting row s resolutions)) those ∙ ap (λ rs. Some (whole_meeting row m.meeting.later rs)) its ∙ ap (option_map (with_unread count)) is

-- no row is no meeting
pub none_unread : (office : OfficeLists) (id : List ℕ) (meetings : List MeetingRow) (count : ℕ) → None ≡ slice_get meetings 0 → IsRow id office meetings → IsUnread id count office None
none_unread office id meetings count none one may = ap (option_map (with_unread count)) (no_meeting office id meetings none one)

-- ---- as many as a request asks for

few_up_to : (number count : ℕ) → may_have count ≡ true → may_have (up_to number count) ≡ true
few_up_to number count few =
    (elim (is_resolution count number) as (λ b. is_resolution count number ≡ b → may_have (cond b number count) ≡ true) [
      | true ↦ λ has.
          let within : nat_le number count ≡ true = second_so (nat_le 1 number) (nat_le number count) has in
          let most : nat_le count MOST_RESOLUTIONS ≡ true = second_so (nat_le 1 count) (nat_le count MOST_RESOLUTIONS) few in
          let below : nat_le number MOST_RESOLUTIONS ≡ true = grind (arith, nat_tests, within, most) in
          both_true (first_so (nat_le 1 number) (nat_le number count) has) below
      | false ↦ λ _. few
    ]) refl

-- in place of as many as a meeting may have stand as many as it may have
pub few_stand_in : (on : Option ℕ) (count : ℕ) → may_have count ≡ true → may_have (stand_ins on count) ≡ true
few_stand_in (Some number) count few = few_up_to number count few
few_stand_in None count few = refl

module _ (id : List ℕ) (stands : ℕ → ℕ) (office : OfficeLists) where
  -- the meeting with the right number of resolutions is the meeting as it is asked for
  read_as : (count : ℕ) (found : Option MeetingLists) → ((m : MeetingLists) → found ≡ Some m → count ≡ stands (length m.meeting.resolutions))
      → option_map (with_unread count) (option_map (λ (m : MeetingLists). m.meeting) found) ≡ option_map (λ (m : Meeting). with_unread (stands (length m.resolutions)) m) (option_map (λ (m : MeetingLists). m.meeting) found)
  read_as count None is = refl
  read_as count (Some m) is = ap (λ n. Some (with_unread n m.meeting)) (is m refl)

  -- where the resolutions were counted
  pub counted_read : ((count : ℕ) → may_have count ≡ true → may_have (stands count) ≡ true) → IsTrue (is_office office) → (count made : ℕ) → made ≡ stands count → (preserved : Option Meeting) → IsUnread id made office preserved → HasCount id office count
      → IsReadAs id stands office preserved
  counted_read few holds count made made_is preserved is has =
      is (λ m found. ap may_have made_is ∙ ap (λ n. may_have (stands n)) (has m found) ∙ few (length m.meeting.resolutions) (found_facts office id m holds found).resolutions)
      ∙ read_as made (meeting_named office.meetings id) (λ m found. made_is ∙ ap stands (has m found))

  -- and where the polls tell
  pub polled_read : (polls : List Poll) (count : ℕ) → may_have count ≡ true → ((all : ℕ) → are_on all polls ≡ true → count ≡ stands all)
      → (preserved : Option Meeting) → IsUnread id count office preserved → AreOnItsResolutions (meeting_named office.meetings id) polls → IsReadAs id stands office preserved
  polled_read polls count few known preserved is on = is (λ m found. few) ∙ read_as count (meeting_named office.meetings id) (λ m found. known (length m.meeting.resolutions) (on m found))

-- what is found passes the test
found_is : {X : Type 0} (p : X → Bool) (xs : List X) (x : X) → find p xs ≡ Some x → p x ≡ true
found_is p [] x h = absurd (cc)
found_is p (y ∷ ys) x h =
    (elim (p y) as (λ b. p y ≡ b → cond b (Some y) (find p ys) ≡ Some x → p x ≡ true) [
      | true ↦ λ is e. (let same : y ≡ x = cc in ap p (sym same) ∙ is)
      | false ↦ λ _ e. found_is p ys x e
    ]) refl h

-- where there is a poll on a resolution, it is one of so many that each poll is on one of them
pub up_to_found : (polls : List Poll) (number : ℕ) (poll : Poll) → Some poll ≡ poll_on polls number → (all : ℕ) → are_on all polls ≡ true → number ≡ up_to number all
up_to_found polls number poll is all on =
    let found : poll_on polls number ≡ Some poll = sym is in
    let its : (poll.resolution == number) ≡ true = found_is (λ (p : Poll). p.resolution == number) polls poll found in
    let same : poll.resolution ≡ number = grind (arith, nat_tests, its) in
    let has : is_resolution all number ≡ true = ap (is_resolution all) (sym same) ∙ find-passes (λ (p : Poll). p.resolution == number) (λ (p : Poll). is_resolution all p.resolution) polls poll on found in
    ap (λ b. cond b number all) (sym has)

-- each poll of an office's meeting is on one of its resolutions
pub on_resolutions : (office : OfficeLists) (id : List ℕ) → IsTrue (is_office office) → (polls : List Poll) → polls ≡ polls_in (meeting_named office.meetings id) → AreOnItsResolutions (meeting_named office.meetings id) polls
on_resolutions office id holds polls are m found =
    let its : polls ≡ m.polls = are ∙ ap polls_in found in
    let all : list_all (is_poll m.meeting) m.polls ≡ true = first_so (list_all (is_poll m.meeting) m.polls) (ascends_by poll_before m.polls) (found_facts office id m holds found).polls in
    ap (are_on (length m.meeting.resolutions)) its ∙ all_weaker (is_poll m.meeting) (λ (p : Poll). is_resolution (length m.meeting.resolutions) p.resolution) m.polls (on_one m.meeting) all
  where
    on_one : (m : Meeting) (p : Poll) → is_poll m p ≡ true → is_resolution (length m.resolutions) p.resolution ≡ true
    on_one m p h =
        let s = is_opened_session m p.session in
        let a = is_resolution (length m.resolutions) p.resolution in
        let b = implies (is_some p.closed) (is_some p.started) in
        let c = implies (is_some p.declared) (is_some p.closed) in
        let d = is_declared_right p.declared in
        second_so s a (first_so (s && a) b (first_so (s && a && b) c (first_so (s && a && b && c) d h)))

-- and so is the poll on one of them
pub on_its_resolution : (office : OfficeLists) (id : List ℕ) → IsTrue (is_office office) → (resolution : ℕ) (polls : List Poll) → polls ≡ polls_on resolution (polls_in (meeting_named office.meetings id)) → AreOnItsResolutions (meeting_named office.meetings id) polls
on_its_resolution office id holds resolution polls are m found =
    let all = on_resolutions office id holds (polls_in (meeting_named office.meetings id)) refl m found in
    ap (are_on (length m.meeting.resolutions)) are
    ∙ all-filter (λ (p : Poll). is_resolution (length m.meeting.resolutions) p.resolution) (λ (p : Poll). p.resolution == resolution) (polls_in (meeting_named office.meetings id)) all
