-- A meeting that gets a register or is opened, and the keys and closed days of an office.
use Rattle.std.proofs.Common.{◌≡◌, ℕ, suc, ◌==◌, Bool, true, false, if◌then◌else◌, List, [], ◌∷◌, ◌++◌, length, map, filter, Some, refl, sym, ap, subst, ◌∙◌, arith, true≢false}
use Rattle.std.specs.List.{list_all, list_any}
use Rattle.std.proofs.lemmas.Bool.Decides.{nat_tests}
use Rattle.std.proofs.lemmas.List.{append-nil}
use Rattle.seq.specs.Edits.{change_first}
use Rattle.seq.specs.Ordered.{differ_by}
use Rattle.seq.specs.Sorting.{sort_by}
use Rattle.seq.proofs.Differing.{differ_changed}
use Rattle.vocabulary.specs.Names.{same_name}
use Rattle.desk_words.specs.SortedLists.{caller_before, day_before}
use Rattle.desk_words.specs.Office.{implies, same_meeting}
use Rattle.desk_words.specs.Registers.{member_before}
use Rattle.desk_words.specs.Sessions.{open_last}
use Rattle.desk_words.specs.declared.caller.KeyRow.{KeyRow}
use Rattle.desk_words.specs.declared.office.MeetingLists.{MeetingLists}
use Rattle.desk_words.specs.declared.office.OfficeLists.{OfficeLists}
use Rattle.desk_words.specs.declared.records.RegisterRow.{RegisterRow}
use Rattle.desk_words.specs.declared.records.Resolution.{Resolution}
use Rattle.desk_words.specs.declared.records.Session.{Session}
use Rattle.desk_words.proofs.WordRowLemmas.{same_name-true}
use Rattle.sql_rows.specs.declared.stored_records.MeetingRow.{MeetingRow}
use Rattle.sql_schema.specs.Contents.{loaded_at, first_opened_at}
use Rattle.sql_model.specs.OfficeRecords.{FlatLists, have_meetings, lists_with, office_of_records, of_meeting}
use Rattle.sql_model.proofs.ListChanges.{all_pass, list_changed, list_of}
use Rattle.sql_model.proofs.Names.{list_stored_as}
use Rattle.sql_model.proofs.Names.ListName.{Register}
use Rattle.sql_model.proofs.ModelOfficeLemmas.{AllStand, AreOf, are_of, have_all, office_changed, office_is, stands_there, with_changed}
use Rattle.sql_model.proofs.ModelSessionLemmas.{has_one_session}
use Rattle.sql_model.proofs.ModelRecordLemmas.{in_meeting, is_other, of_meeting-append, of_meeting-emptied, of_meeting-left, of_meeting-none, of_meeting-own, name_turned, stand-append, stand-filter, stand-own, stand-renewed}

-- ---- a row of a meeting

have_renewed : (flat : FlatLists) (row : MeetingRow → MeetingRow) → ((m : MeetingRow) → (row m).id ≡ m.id) → AllStand flat → have_meetings (record flat { meetings = map row flat.meetings }) ≡ true
have_renewed flat row named stand = have_all (record flat { meetings = map row flat.meetings }) (record {
  sessions = stand-renewed row flat.meetings named flat.sessions ∙ stand.sessions;
  resolutions = stand-renewed row flat.meetings named flat.resolutions ∙ stand.resolutions;
  lists = elim [
    | Register ↦ stand-renewed row flat.meetings named ((list_stored_as Register).all flat) ∙ stand.lists Register
    | n ↦ stand-renewed row flat.meetings named ((list_stored_as n).all flat) ∙ stand.lists n
  ];
})

-- the meeting of a name has one session
abbrev pub is_alone : List ℕ → MeetingLists → Bool
is_alone id x = implies (same_name x.meeting.id id) (has_one_session x)

more : (n : ℕ) → (suc n == 0) ≡ false
more n = grind (arith, nat_tests)

module _ (flat : FlatLists) (id : List ℕ) (office : OfficeLists) (of : AreOf flat office) (differ : differ_by same_meeting office.meetings ≡ true) where
  loaded_named : (m : MeetingRow) → (loaded_at id m).id ≡ m.id
  loaded_named m = elim (same_name m.id id) as (λ b. (if b then record m { loaded = true } else m).id ≡ m.id) [ true ↦ refl | false ↦ refl ]

  -- the register of a meeting is noted as loaded
  pub meeting_loaded : office_of_records (record flat { meetings = map (loaded_at id) flat.meetings }) ≡ Some (with_changed id (λ x. record x { meeting = record x.meeting { loaded = true } }) office)
  meeting_loaded =
      office_changed flat (record flat { meetings = map (loaded_at id) flat.meetings }) (loaded_at id) id (λ x. record x { meeting = record x.meeting { loaded = true } }) (λ _. true) (record {
        meetings = refl;
        named = loaded_named;
        resolutions = refl;
        later = λ s. s;
        sessions_here = λ m s rs good is known. known;
        sessions_there = λ m other. refl;
        here = λ m s rs good is. rw is refl;
        there = λ m s rs other. rw other refl;
        keys = refl;
        closed = refl;
      }) office of (have_renewed flat (loaded_at id) loaded_named of.stand) differ (all_pass office.meetings)

  module _ (moment : ℕ) where
    opened_named : (m : MeetingRow) → (first_opened_at id moment m).id ≡ m.id
    opened_named m = elim (same_name m.id id) as (λ b. (if b then record m { opened = Some moment } else m).id ≡ m.id) [ true ↦ refl | false ↦ refl ]

    -- a meeting of one session is opened
    pub meeting_opened : list_all (is_alone id) office.meetings ≡ true → office_of_records (record flat { meetings = map (first_opened_at id moment) flat.meetings }) ≡ Some (with_changed id (λ x. record x { meeting = open_last moment x.meeting }) office)
    meeting_opened alone =
        office_changed flat (record flat { meetings = map (first_opened_at id moment) flat.meetings }) (first_opened_at id moment) id (λ x. record x { meeting = open_last moment x.meeting }) (is_alone id) (record {
          meetings = refl;
          named = opened_named;
          resolutions = refl;
          later = λ s. s;
          sessions_here = λ m s rs good is known. known;
          sessions_there = λ m other. refl;
          here = opened_here;
          there = λ m s rs other. rw other refl;
          keys = refl;
          closed = refl;
        }) office of (have_renewed flat (first_opened_at id moment) opened_named of.stand) differ alone
      where
        opened_here : (m : MeetingRow) (s : List Session) (rs : List Resolution) → is_alone id (lists_with flat m s rs) ≡ true → same_name m.id id ≡ true
            → lists_with (record flat { meetings = map (first_opened_at id moment) flat.meetings }) (first_opened_at id moment m) s rs ≡ (let x = lists_with flat m s rs in record x { meeting = open_last moment x.meeting })
        opened_here m [] rs good is = rw is refl
        opened_here m (t ∷ s) rs good is = absurd (true≢false (sym (rw is at good) ∙ more (length s)))

-- ---- a register

-- a change of the first value that passes, after one that leaves whether it does
change_first-twice : {X : Type 0} (test : X → Bool) (f g : X → X) → ((x : X) → test (f x) ≡ test x) → (xs : List X) → change_first test g (change_first test f xs) ≡ change_first test (λ x. g (f x)) xs
change_first-twice test f g same [] = refl
change_first-twice test f g same (x ∷ xs) =
    let later = change_first-twice test f g same xs in
    (elim (test x) as (λ b. test x ≡ b → change_first test g (if b then f x ∷ xs else x ∷ change_first test f xs) ≡ (if b then g (f x) ∷ xs else x ∷ change_first test (λ y. g (f y)) xs)) [
      | true ↦ λ is. rw (same x, is) refl
      | false ↦ λ other. rw other (ap (λ l. x ∷ l) later)
    ]) refl

-- the records of all registers, with those of a meeting replaced
abbrev pub with_register : FlatLists → List ℕ → List RegisterRow → FlatLists
with_register flat id rows = record flat { register = filter (is_other id) flat.register ++ map (in_meeting id) rows }

module _ (flat : FlatLists) (id : List ℕ) (rows : List RegisterRow) (office : OfficeLists) (of : AreOf flat office) (differ : differ_by same_meeting office.meetings ≡ true)
    (one : list_any (λ (x : MeetingLists). same_name x.meeting.id id) office.meetings ≡ true) (sorted : sort_by member_before rows ≡ rows) where
  rows_replaced : office_of_records (with_register flat id rows) ≡ Some (with_changed id (λ x. record x { register = rows }) office)
  rows_replaced =
      list_changed (list_of Register) flat (filter (is_other id) flat.register ++ map (in_meeting id) rows) id (λ _. rows) (λ _. true)
      (λ m s rs _ is. ap (sort_by member_before) (subst (λ n. of_meeting n (filter (is_other id) flat.register ++ map (in_meeting id) rows) ≡ rows) (sym (same_name-true m.id id is)) own) ∙ sorted)
      (λ name other.
      of_meeting-append name (filter (is_other id) flat.register) (map (in_meeting id) rows)
      ∙ rw (of_meeting-none id name rows (name_turned id name ∙ other), append-nil (of_meeting name (filter (is_other id) flat.register))) (of_meeting-left id name flat.register (name_turned id name ∙ other)))
      office of
      (stand-append flat.meetings (filter (is_other id) flat.register) (map (in_meeting id) rows) (stand-filter flat.meetings (is_other id) flat.register (of.stand.lists Register))
      (stand-own flat.meetings id rows (sym (stands_there flat office id of) ∙ one)))
      differ (all_pass office.meetings)
    where
      own : of_meeting id (filter (is_other id) flat.register ++ map (in_meeting id) rows) ≡ rows
      own = of_meeting-append id (filter (is_other id) flat.register) (map (in_meeting id) rows) ∙ rw (of_meeting-emptied id flat.register) (of_meeting-own id rows)

  -- the rows of a meeting's register are replaced, and it is noted as loaded
  pub register_set : office_of_records (record (with_register flat id rows) { meetings = map (loaded_at id) flat.meetings })
      ≡ Some (with_changed id (λ x. record x { meeting = record x.meeting { loaded = true }; register = rows }) office)
  register_set =
      let between = with_changed id (λ x. record x { register = rows }) office in
      let is_named = λ (x : MeetingLists). same_name x.meeting.id id in
      meeting_loaded (with_register flat id rows) id between (are_of (with_register flat id rows) between rows_replaced)
      (differ_changed same_meeting is_named (λ (x : MeetingLists). record x { register = rows }) office.meetings (λ x y. refl) (λ x y. refl) ∙ differ)
      ∙ ap (λ (l : List MeetingLists). Some (record office { meetings = l }))
      (change_first-twice is_named (λ (x : MeetingLists). record x { register = rows }) (λ (x : MeetingLists). record x { meeting = record x.meeting { loaded = true } }) (λ x. refl) office.meetings)

-- ---- keys and closed days

module _ (flat : FlatLists) (office : OfficeLists) (of : AreOf flat office) where
  have_same : have_meetings flat ≡ true
  have_same = have_all flat of.stand

  -- the keys are replaced
  pub keys_set : (keys : List KeyRow) → sort_by caller_before keys ≡ keys → office_of_records (record flat { keys = keys }) ≡ Some (record office { keys = keys })
  keys_set keys sorted = office_is (record flat { keys = keys }) (record office { keys = keys }) have_same of.lists sorted of.closed

  -- the closed days are replaced
  pub days_set : (days : List ℕ) → sort_by day_before days ≡ days → office_of_records (record flat { closed = days }) ≡ Some (record office { closed = days })
  days_set days sorted = office_is (record flat { closed = days }) (record office { closed = days }) have_same of.lists of.keys sorted
