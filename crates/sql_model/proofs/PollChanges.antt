-- A poll that is ordered, and one that has come further.
use Rattle.std.proofs.Common.{◌≡◌, ℕ, ◌==◌, Bool, true, false, ◌&&◌, if◌then◌else◌, List, [], ◌∷◌, ◌++◌, map, Some, refl, sym, ap, subst, ◌∙◌, arith, nat_lt}
use Rattle.std.specs.Cmp.{second_so}
use Rattle.std.specs.List.{list_all, list_any}
use Rattle.std.specs.Ordering.{nat_cmp}
use Rattle.std.proofs.lemmas.Bool.Decides.{nat_tests}
use Rattle.std.proofs.lemmas.Cmp.{nat_cmp_total}
use Rattle.seq.specs.Edits.{change_first}
use Rattle.seq.specs.Ordered.{ascends_by, differ_by, key_before, same_key}
use Rattle.seq.specs.Sorting.{insert_by, sort_by}
use Rattle.seq.proofs.Ascending.{differs-from_ascends_by}
use Rattle.seq.proofs.Numbers.{is_eq-nat_cmp, is_lt-nat_cmp}
use Rattle.vocabulary.specs.Names.{same_name}
use Rattle.desk_words.specs.Office.{are_polls, implies, is_poll, poll_before, same_meeting}
use Rattle.desk_words.specs.declared.office.MeetingLists.{MeetingLists}
use Rattle.desk_words.specs.declared.office.OfficeLists.{OfficeLists}
use Rattle.desk_words.specs.declared.records.Meeting.{Meeting}
use Rattle.desk_words.specs.declared.records.Poll.{Poll}
use Rattle.sql_model.specs.OfficeRecords.{FlatLists, of_meeting, office_of_records}
use Rattle.sql_model.proofs.ListChanges.{list_changed, list_of}
use Rattle.sql_model.proofs.ModelListLemmas.{map-once, sort_by-last, sort_by-map}
use Rattle.sql_model.proofs.Names.ListName.{Polls}
use Rattle.sql_model.proofs.ModelOfficeLemmas.{AreOf, stands_there, with_changed}
use Rattle.sql_model.proofs.ModelRecordLemmas.{change_in, in_meeting, of_meeting-changed, of_meeting-last, of_meeting-same, of_meeting-unchanged, stand-append, stand-map, stand-own}

abbrev resolution_of : Poll → ℕ
resolution_of p = p.resolution

by_resolution : poll_before ≡ key_before resolution_of nat_cmp
by_resolution = λ i a b. sym (is_lt-nat_cmp a.resolution b.resolution) i

-- polls of a meeting stand in the order of resolutions
pub polls_ascend : (m : Meeting) (ps : List Poll) → are_polls m ps ≡ true → ascends_by poll_before ps ≡ true
polls_ascend m ps h = second_so (list_all (is_poll m) ps) (ascends_by poll_before ps) h

last_poll : (xs : List Poll) (p : Poll) → ascends_by poll_before (insert_by poll_before p (sort_by poll_before xs)) ≡ true → sort_by poll_before (xs ++ p ∷ []) ≡ insert_by poll_before p (sort_by poll_before xs)
last_poll xs p =
    subst (λ before. ascends_by before (insert_by before p (sort_by before xs)) ≡ true → sort_by before (xs ++ p ∷ []) ≡ insert_by before p (sort_by before xs)) (sym by_resolution)
    (sort_by-last nat_cmp_total resolution_of xs p)

-- in the meeting of a name the polls are in order once a poll is put among them
abbrev pub takes_poll : List ℕ → Poll → MeetingLists → Bool
takes_poll id poll x = implies (same_name x.meeting.id id) (ascends_by poll_before (insert_by poll_before poll x.polls))

-- a poll more of a meeting goes to its place in the order of resolutions
pub poll_added : (flat : FlatLists) (id : List ℕ) (added : Poll) (office : OfficeLists) → AreOf flat office → differ_by same_meeting office.meetings ≡ true
    → list_any (λ (x : MeetingLists). same_name x.meeting.id id) office.meetings ≡ true → list_all (takes_poll id added) office.meetings ≡ true
    → office_of_records (record flat { polls = flat.polls ++ in_meeting id added ∷ [] }) ≡ Some (with_changed id (λ x. record x { polls = insert_by poll_before added x.polls }) office)
poll_added flat id added office of differ one =
    list_changed (list_of Polls) flat (flat.polls ++ in_meeting id added ∷ []) id (insert_by poll_before added) (takes_poll id added)
    (λ m s rs good is. ap (sort_by poll_before) (of_meeting-last id m.id flat.polls added is) ∙ last_poll (of_meeting m.id flat.polls) added (rw is at good))
    (λ name other. of_meeting-same id name flat.polls added other)
    office of (stand-append flat.meetings flat.polls (in_meeting id added ∷ []) (of.stand.lists Polls) (stand-own flat.meetings id (added ∷ []) (sym (stands_there flat office id of) ∙ one))) differ

-- the poll on a resolution is changed, and stays on it
module _ (resolution : ℕ) (change : Poll → Poll) (same : (p : Poll) → (change p).resolution ≡ p.resolution) where
  abbrev is_on : Poll → Bool
  is_on p = p.resolution == resolution

  abbrev change_on : Poll → Poll
  change_on p = if is_on p then change p else p

  stays_on : (p : Poll) → (change_on p).resolution ≡ p.resolution
  stays_on p = elim (is_on p) as (λ b. (if b then change p else p).resolution ≡ p.resolution) [ true ↦ same p | false ↦ refl ]

  unseen : (a b : Poll) → poll_before (change_on a) (change_on b) ≡ poll_before a b
  unseen a b = ap (λ n. nat_lt n (change_on b).resolution) (stays_on a) ∙ ap (nat_lt a.resolution) (stays_on b)

  alike : (a b : Poll) → is_on a ≡ true → is_on b ≡ true → same_key resolution_of nat_cmp a b ≡ true
  alike a b is also = is_eq-nat_cmp a.resolution b.resolution ∙ meet a.resolution b.resolution is also
    where
      meet : (m n : ℕ) → (m == resolution) ≡ true → (n == resolution) ≡ true → (m == n) ≡ true
      meet m n h k = grind (arith, nat_tests)

  changed_once : (ps : List Poll) → ascends_by poll_before (sort_by poll_before ps) ≡ true → sort_by poll_before (map change_on ps) ≡ change_first is_on change (sort_by poll_before ps)
  changed_once ps up =
      sort_by-map poll_before change_on unseen ps
      ∙ map-once is_on change (same_key resolution_of nat_cmp) alike (sort_by poll_before ps)
      (differs-from_ascends_by nat_cmp_total resolution_of (sort_by poll_before ps) (subst (λ before. ascends_by before (sort_by poll_before ps) ≡ true) by_resolution up))

  pub poll_moved : (flat : FlatLists) (id : List ℕ) (office : OfficeLists) → AreOf flat office → differ_by same_meeting office.meetings ≡ true
      → list_all (λ (x : MeetingLists). ascends_by poll_before x.polls) office.meetings ≡ true
      → office_of_records (record flat { polls = map (change_in id is_on change) flat.polls }) ≡ Some (with_changed id (λ x. record x { polls = change_first is_on change x.polls }) office)
  poll_moved flat id office of =
      list_changed (list_of Polls) flat (map (change_in id is_on change) flat.polls) id (change_first is_on change) (λ (x : MeetingLists). ascends_by poll_before x.polls)
      (λ m s rs good is. ap (sort_by poll_before) (of_meeting-changed id is_on change m.id flat.polls is) ∙ changed_once (of_meeting m.id flat.polls) good)
      (λ name other. of_meeting-unchanged id is_on change name flat.polls other)
      office of (stand-map flat.meetings (change_in id is_on change) (λ r. keeps r.meeting r.item) flat.polls ∙ of.stand.lists Polls)
    where
      keeps : (meeting : List ℕ) (p : Poll) → (change_in id is_on change (in_meeting meeting p)).meeting ≡ meeting
      keeps meeting p = elim (same_name meeting id && is_on p) as (λ b. (if b then record (in_meeting meeting p) { item = change p } else in_meeting meeting p).meeting ≡ meeting)
          [ true ↦ refl | false ↦ refl ]
