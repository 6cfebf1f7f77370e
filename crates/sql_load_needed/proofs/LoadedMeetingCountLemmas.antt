-- How many meetings there are, and whether one has a name, from the rows of the meetings.
use Rattle.std.proofs.Common.{◌≡◌, ◌≤◌, ℕ, suc, true, List, [], ◌∷◌, filter, length, nat_le, find, Option, Some, None, IsTrue, refl, ap, ◌∙◌, arith}
use Rattle.std.specs.Prelude.{is_some, slice_get}
use Rattle.std.proofs.Math.Nat.{min-eq_left}
use Rattle.std.proofs.lemmas.Bool.Decides.{nat_tests}
use Rattle.desk_words.specs.Finding.{meeting_named}
use Rattle.desk_words.specs.Office.{is_office}
use Rattle.desk_words.specs.declared.office.MeetingLists.{MeetingLists}
use Rattle.desk_words.specs.declared.office.OfficeLists.{OfficeLists}
use Rattle.sql_rows.specs.declared.stored_records.MeetingRow.{MeetingRow}
use Rattle.sql_rows.proofs.RowMeaningLemmas.{bound}
use Rattle.sql_model.specs.OfficeRecords.{FlatLists, lists_of, lists_of_all}
use Rattle.sql_model.proofs.ModelOfficeLemmas.{AreOf}
use Rattle.desk_words.proofs.OfficeFacts.{office_facts}
use Rattle.sql_lemmas.specs.CountedRows.{most}
use Rattle.sql_load.proofs.FoundRecordLemmas.{first_passing}
use Rattle.sql_load.proofs.NamedMeetingLemmas.{IsFoundAs, has_name, meeting_found}

-- a row has the name where a meeting has
abbrev pub IsNamed : List ℕ → OfficeLists → List MeetingRow → Type 0
IsNamed id office rows = is_some (slice_get rows 0) ≡ is_some (meeting_named office.meetings id)

pub named_so : (id : List ℕ) (flat : FlatLists) (office : OfficeLists) → AreOf flat office → IsNamed id office (filter (has_name id) flat.meetings)
named_so id flat office of = ap is_some (first_passing (has_name id) flat.meetings) ∙ go (meeting_named office.meetings id) (meeting_found flat office id of)
  where
    go : (found : Option MeetingLists) → IsFoundAs flat id flat.meetings found → is_some (find (has_name id) flat.meetings) ≡ is_some found
    go None none = ap is_some none
    go (Some m) made = ap is_some made.found

as_many : (flat : FlatLists) (rows : List MeetingRow) (lists : List MeetingLists) → lists_of_all flat rows ≡ Some lists → length rows ≡ length lists
as_many flat [] lists h = let none : [] ≡ lists = cc in ap length none
as_many flat (row ∷ rows) lists h =
    let first = bound (lists_of flat row) _ lists h in
    let later = bound (lists_of_all flat rows) _ lists first.2 in
    let are : first.0 ∷ later.0 ≡ lists = cc in
    ap suc (as_many flat rows later.0 later.1) ∙ ap length are

all_pass : {X : Type 0} (xs : List X) → filter (λ _. true) xs ≡ xs
all_pass [] = refl
all_pass (x ∷ xs) = ap (λ l. x ∷ l) (all_pass xs)

-- as many rows are counted as there are meetings
pub held_so : (flat : FlatLists) (office : OfficeLists) → AreOf flat office → IsTrue (is_office office) → most (length (filter (λ _. true) flat.meetings)) ≡ length office.meetings
held_so flat office of preserved =
    let same = ap length (all_pass flat.meetings) ∙ as_many flat flat.meetings office.meetings of.lists in
    let few : nat_le (length office.meetings) 100 ≡ true = (office_facts office preserved).few in
    let small : length office.meetings ≤ 100 = grind (arith, nat_tests, few) in
    ap most same ∙ min-eq_left (omega (arith, small))
