-- A party's rows, from the look-up of each list.
use Rattle.std.proofs.Common.{◌≡◌, ℕ, Bool, true, false, not, ◌&&◌, cond, List, [], ◌∷◌, map, filter, find, slice_get, Option, Some, None, IsTrue, inl, inr, refl, sym, ap, subst, ◌∙◌, true≢false}
use Rattle.std.specs.Cmp.{first_so, second_so}
use Rattle.std.specs.Cmp.Lexicographic.{nat_list_cmp_total, texts_ties}
use Rattle.std.specs.List.{list_any}
use Rattle.std.specs.Option.{option_map_or}
use Rattle.std.proofs.lemmas.Bool.{cases_Bool, not-true}
use Rattle.seq.specs.Ordered.{ascends_by, differ_by}
use Rattle.seq.specs.Sorting.{insert_by, sort_by}
use Rattle.seq.proofs.Ascending.{differ_by_key-IsPermutation, differs-from_ascends_by}
use Rattle.seq.proofs.Booleans.{neither_first, neither_second}
use Rattle.seq.proofs.SortingLemmas.{IsPermutation-sort_by}
use Rattle.vocabulary.specs.Names.{same_name}
use Rattle.desk_words.specs.Finding.{meeting_named}
use Rattle.desk_words.specs.Office.{is_office}
use Rattle.desk_words.specs.Registers.{member_before, same_member}
use Rattle.desk_words.specs.declared.office.MeetingLists.{MeetingLists}
use Rattle.desk_words.specs.declared.office.OfficeLists.{OfficeLists}
use Rattle.desk_words.specs.declared.records.RegisterRow.{RegisterRow}
use Rattle.desk_words.proofs.OfficeFacts.{found_facts, register_ascends}
use Rattle.desk_words.proofs.WordRowLemmas.{same_name-true, same_name-refl}
use Rattle.sql_rows.specs.declared.stored_records.InMeeting.{InMeeting}
use Rattle.sql_model.specs.OfficeRecords.{FlatLists, of_meeting}
use Rattle.sql_model.proofs.ListChanges.{list_of}
use Rattle.sql_model.proofs.Names.ListName.{Register}
use Rattle.sql_model.proofs.ModelOfficeLemmas.{AreOf}
use Rattle.proxy_rules.specs.Shares.{row_of}
use Rattle.row_source.specs.LookUps.{register_in}
use Rattle.sql_load.specs.MeetingRecords.{without_meeting}
use Rattle.sql_load.proofs.FoundRecordLemmas.{first_passing}
use Rattle.sql_load.proofs.NamedMeetingLemmas.{list_is, passing}

-- ---- the first that passes

-- where no two that pass stand in a list, its order is nothing to what is found
module _ {X : Type 0} (alike : X → X → Bool) (test : X → Bool) (apart : (x y : X) → test x ≡ true → alike x y ≡ false → test y ≡ false) where
  none_behind : (x : X) (xs : List X) → test x ≡ true → list_any (alike x) xs ≡ false → find test xs ≡ None
  none_behind x [] is h = refl
  none_behind x (y ∷ ys) is h =
      ap (λ b. cond b (Some y) (find test ys)) (apart x y is (neither_first (alike x y) (list_any (alike x) ys) h)) ∙ none_behind x ys is (neither_second (alike x y) (list_any (alike x) ys) h)

  -- what is put into its place, where nothing passes beside it if it does
  placed : (before : X → X → Bool) (x : X) (ys : List X) (a : Bool) → test x ≡ a → (a ≡ true → find test ys ≡ None) → find test (insert_by before x ys) ≡ cond a (Some x) (find test ys)
  placed before x [] a is alone = ap (λ b. cond b (Some x) None) is
  placed before x (y ∷ ys) a is alone = elim (cases_Bool (before x y)) [
    | inl first ↦ ap (λ b. find test (cond b (x ∷ y ∷ ys) (y ∷ insert_by before x ys))) first ∙ ap (λ b. cond b (Some x) (find test (y ∷ ys))) is
    | inr later ↦ ap (λ b. find test (cond b (x ∷ y ∷ ys) (y ∷ insert_by before x ys))) later ∙ behind a (test y) alone (placed before x ys a is)
  ]
    where
      behind : (a b : Bool) → (a ≡ true → cond b (Some y) (find test ys) ≡ None) → ((a ≡ true → find test ys ≡ None) → find test (insert_by before x ys) ≡ cond a (Some x) (find test ys))
          → cond b (Some y) (find test (insert_by before x ys)) ≡ cond a (Some x) (cond b (Some y) (find test ys))
      behind true true none next = absurd (let both : ◌≡◌ {A = Option X} (Some y) None = none refl in cc)
      behind false true none next = refl
      behind a false none next = next none

  pub found_sorted : (before : X → X → Bool) (xs : List X) → differ_by alike xs ≡ true → find test (sort_by before xs) ≡ find test xs
  found_sorted before [] h = refl
  found_sorted before (x ∷ xs) h =
      let others = not-true (list_any (alike x) xs) (first_so (not (list_any (alike x) xs)) (differ_by alike xs) h) in
      let rest = found_sorted before xs (second_so (not (list_any (alike x) xs)) (differ_by alike xs) h) in
      placed before x (sort_by before xs) (test x) refl (λ is. rest ∙ none_behind x xs is others) ∙ ap (λ o. cond (test x) (Some x) o) rest

-- ---- a member's row

-- the row is the member's
abbrev of_member : List ℕ → RegisterRow → Bool
of_member member row = same_name row.member member

members_apart : (member : List ℕ) (x y : RegisterRow) → of_member member x ≡ true → same_member x y ≡ false → of_member member y ≡ false
members_apart member x y is other = elim (cases_Bool (of_member member y)) [
  | inl also ↦
      let here = same_name-true x.member member is in
      let there = same_name-true y.member member also in
      let alike : same_name x.member y.member ≡ true = subst (λ n. same_name x.member n ≡ true) (here ∙ sym there) (same_name-refl x.member) in
      absurd (true≢false (sym alike ∙ texts_ties x.member y.member ∙ other))
  | inr not_so ↦ not_so
]

register_rises : (office : OfficeLists) (id : List ℕ) → IsTrue (is_office office) → ascends_by member_before (register_in (meeting_named office.meetings id)) ≡ true
register_rises office id preserved = go (meeting_named office.meetings id) refl
  where
    go : (found : Option MeetingLists) → meeting_named office.meetings id ≡ found → ascends_by member_before (option_map_or (λ (m : MeetingLists). m.register) found []) ≡ true
    go None is = refl
    go (Some m) is = register_ascends m (found_facts office id m preserved is)

-- of the rows of a register's meeting and of a member the first is the member's row
pub row_so : (id member : List ℕ) (flat : FlatLists) (office : OfficeLists) → AreOf flat office → IsTrue (is_office office)
    → slice_get (map without_meeting (filter (λ (r : InMeeting RegisterRow). same_name r.meeting id && same_name r.item.member member) flat.register)) 0 ≡ row_of (register_in (meeting_named office.meetings id)) member
row_so id member flat office of preserved =
    let rows = of_meeting id flat.register in
    let sorted = sort_by member_before rows in
    let are : sorted ≡ register_in (meeting_named office.meetings id) = list_is (list_of Register) refl flat office id of in
    let up : ascends_by member_before sorted ≡ true = subst (λ l. ascends_by member_before l ≡ true) (sym are) (register_rises office id preserved) in
    let differ : differ_by same_member rows ≡ true =
    sym (differ_by_key-IsPermutation nat_list_cmp_total (λ (row : RegisterRow). row.member) rows sorted (IsPermutation-sort_by member_before rows)) ∙ differs-from_ascends_by nat_list_cmp_total (λ (row : RegisterRow). row.member) sorted up in
    ap (λ l. slice_get l 0) (passing id (of_member member) flat.register) ∙ first_passing (of_member member) rows
    ∙ sym (found_sorted same_member (of_member member) (members_apart member) member_before rows differ) ∙ ap (find (of_member member)) are

-- ---- two tests

-- what passes both passes one after the other
pub both_pass : {X : Type 0} (p q : X → Bool) (xs : List X) → filter (λ x. p x && q x) xs ≡ filter p (filter q xs)
both_pass p q [] = refl
both_pass {X} p q (x ∷ xs) =
    let both : List X = filter (λ x. p x && q x) xs in
    let rest : both ≡ filter p (filter q xs) = both_pass p q xs in
    elim (q x) as (λ b. cond (p x && b) (x ∷ both) both ≡ filter p (cond b (x ∷ filter q xs) (filter q xs))) [
      | true ↦ elim (p x) as (λ a. cond (a && true) (x ∷ both) both ≡ cond a (x ∷ filter p (filter q xs)) (filter p (filter q xs))) [ true ↦ ap (λ l. x ∷ l) rest | false ↦ rest ]
      | false ↦ elim (p x) as (λ a. cond (a && false) (x ∷ both) both ≡ filter p (filter q xs)) [ true ↦ rest | false ↦ rest ]
    ]
