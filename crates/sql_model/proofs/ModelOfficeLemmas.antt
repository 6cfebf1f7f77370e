-- A change of the records of one meeting is a change of that meeting's lists.
use Rattle.std.proofs.Common.{◌≡◌, inl, inr, ℕ, Bool, true, false, if◌then◌else◌, List, [], ◌∷◌, map, Option, Some, refl, sym, ap, subst, ◌∙◌}
use Rattle.std.specs.List.{list_all, list_any}
use Rattle.std.proofs.lemmas.Bool.{cases_Bool}
use Rattle.seq.specs.Edits.{change_first}
use Rattle.seq.specs.Ordered.{differ_by}
use Rattle.seq.specs.Sorting.{sort_by}
use Rattle.vocabulary.specs.Names.{same_name}
use Rattle.desk_words.specs.SortedLists.{caller_before, day_before}
use Rattle.desk_words.specs.Office.{same_meeting}
use Rattle.desk_words.specs.declared.office.MeetingLists.{MeetingLists}
use Rattle.desk_words.specs.declared.office.OfficeLists.{OfficeLists}
use Rattle.desk_words.specs.declared.records.Resolution.{Resolution}
use Rattle.desk_words.specs.declared.records.Session.{Session}
use Rattle.desk_words.proofs.WordRowLemmas.{same_name-true}
use Rattle.sql_rows.specs.declared.stored_records.MeetingRow.{MeetingRow}
use Rattle.vocabulary.specs.OptionSteps.{◌>>=◌}
use Rattle.sql_model.specs.OfficeRecords.{FlatLists, resolutions_of, further_sessions, lists_with, lists_of, lists_of_all, name_meetings, have_meetings, office_of_records}
use Rattle.sql_model.proofs.FlatChanges.{only_is, some_is}
use Rattle.sql_model.proofs.ModelListLemmas.{any-map, map-once}
use Rattle.sql_model.proofs.Names.{ListName, list_stored_as}
use Rattle.sql_model.proofs.Names.ListName.{Register, Appointments, Endings, Authorities, Presences, Demands, Polls, Casts}
use Rattle.sql_model.proofs.ModelRecordLemmas.{stands}
use Rattle.sql_rows.proofs.RowMeaningLemmas.{bound}
use Rattle.std.proofs.lemmas.Bool.{and_parts}

-- ---- what is known of records that are an office

-- the meetings of the records stand
pub record AllStand (flat : FlatLists) : Type 0 where
  pub sessions : name_meetings flat.meetings flat.sessions ≡ true
  pub resolutions : name_meetings flat.meetings flat.resolutions ≡ true
  pub lists : (n : ListName) → name_meetings flat.meetings ((list_stored_as n).all flat) ≡ true

pub all_stand : (flat : FlatLists) → have_meetings flat ≡ true → AllStand flat
all_stand flat h =
    let casts = and_parts _ _ h in
    let polls = and_parts _ _ casts.0 in
    let demands = and_parts _ _ polls.0 in
    let presences = and_parts _ _ demands.0 in
    let authorities = and_parts _ _ presences.0 in
    let endings = and_parts _ _ authorities.0 in
    let appointments = and_parts _ _ endings.0 in
    let register = and_parts _ _ appointments.0 in
    let resolutions = and_parts _ _ register.0 in
    record { sessions = resolutions.0; resolutions = resolutions.1; lists = elim [ Register ↦ register.1 | _ ↦ assumption ] }

pub have_all : (flat : FlatLists) → AllStand flat → have_meetings flat ≡ true
have_all flat s =
    rw (s.sessions, s.resolutions, s.lists Register, s.lists Appointments, s.lists Endings, s.lists Authorities, s.lists Presences, s.lists Demands, s.lists Polls, s.lists Casts) refl

-- the records are those of an office
pub record AreOf (flat : FlatLists) (office : OfficeLists) : Type 0 where
  pub stand : AllStand flat
  pub lists : lists_of_all flat flat.meetings ≡ Some office.meetings
  pub keys : sort_by caller_before flat.keys ≡ office.keys
  pub closed : sort_by day_before flat.closed ≡ office.closed

pub are_of : (flat : FlatLists) (office : OfficeLists) → office_of_records flat ≡ Some office → AreOf flat office
unfolding office_of_records
are_of flat office h =
    let known = only_is (have_meetings flat) _ office h in
    let lists = bound (lists_of_all flat flat.meetings) _ office known.1 in
    let is = some_is lists.2 in
    record {
      stand = all_stand flat known.0;
      lists = lists.1 ∙ ap (λ (o : OfficeLists). Some o.meetings) is;
      keys = ap (λ (o : OfficeLists). o.keys) is;
      closed = ap (λ (o : OfficeLists). o.closed) is;
    }

pub office_is : (flat : FlatLists) (office : OfficeLists) → have_meetings flat ≡ true → lists_of_all flat flat.meetings ≡ Some office.meetings → sort_by caller_before flat.keys ≡ office.keys
    → sort_by day_before flat.closed ≡ office.closed → office_of_records flat ≡ Some office
unfolding office_of_records
office_is flat office stand lists keys closed = rw (stand, lists, keys, closed) refl

-- ---- names of meetings

-- the further sessions and the resolutions with which the lists of a meeting are those
pub record Given (flat : FlatLists) (m : MeetingRow) (x : MeetingLists) : Type 0 where
  pub later : List Session
  pub resolutions : List Resolution
  pub sessions : further_sessions m.id flat.sessions ≡ Some later
  pub numbered : resolutions_of m.id flat.resolutions ≡ Some resolutions
  pub is : lists_with flat m later resolutions ≡ x

pub given : (flat : FlatLists) (m : MeetingRow) (x : MeetingLists) → lists_of flat m ≡ Some x → Given flat m x
given flat m x h =
    let later = bound (further_sessions m.id flat.sessions) _ x h in
    let resolutions = bound (resolutions_of m.id flat.resolutions) _ x later.2 in
    record { later = later.0; resolutions = resolutions.0; sessions = later.1; numbered = resolutions.1; is = some_is resolutions.2 }

pub given_so : (flat : FlatLists) (m : MeetingRow) (later : List Session) (resolutions : List Resolution) → further_sessions m.id flat.sessions ≡ Some later → resolutions_of m.id flat.resolutions ≡ Some resolutions
    → lists_of flat m ≡ Some (lists_with flat m later resolutions)
given_so flat m later resolutions a b =
    ap (λ (o : Option (List Session)). o >>= λ s. resolutions_of m.id flat.resolutions >>= λ rs. Some (lists_with flat m s rs)) a
    ∙ ap (λ (o : Option (List Resolution)). o >>= λ rs. Some (lists_with flat m later rs)) b

-- the lists of a meeting that the records give are those of a meeting of that name
pub named_so : (flat : FlatLists) (m : MeetingRow) (x : MeetingLists) → lists_of flat m ≡ Some x → x.meeting.id ≡ m.id
named_so flat m x h = ap (λ (y : MeetingLists). y.meeting.id) (sym (given flat m x h).is)

-- the meetings of the records have the names of the office's
names_are : (flat : FlatLists) (rows : List MeetingRow) (lists : List MeetingLists) → lists_of_all flat rows ≡ Some lists → map (λ (m : MeetingRow). m.id) rows ≡ map (λ (x : MeetingLists). x.meeting.id) lists
names_are flat [] lists h = let none : [] ≡ lists = cc in rw (← none) refl
names_are flat (m ∷ rest) lists h =
    let first = bound (lists_of flat m) _ lists h in
    let later = bound (lists_of_all flat rest) _ lists first.2 in
    let are : first.0 ∷ later.0 ≡ lists = cc in
    rw (← are, named_so flat m first.0 first.1, names_are flat rest later.0 later.1) refl

-- a meeting of the office stands among the records
pub stands_there : (flat : FlatLists) (office : OfficeLists) (id : List ℕ) → AreOf flat office → list_any (λ (x : MeetingLists). same_name x.meeting.id id) office.meetings ≡ stands id flat.meetings
stands_there flat office id of =
    sym (any-map (λ (x : MeetingLists). x.meeting.id) (λ n. same_name n id) office.meetings)
    ∙ ap (list_any (λ n. same_name n id)) (sym (names_are flat flat.meetings office.meetings of.lists))
    ∙ any-map (λ (m : MeetingRow). m.id) (λ n. same_name n id) flat.meetings

-- ---- where the lists of one meeting are changed

-- the lists of the meeting of a name changed, and those of another as they are
abbrev pub change_named : List ℕ → (MeetingLists → MeetingLists) → MeetingLists → MeetingLists
change_named id change x = if same_name x.meeting.id id then change x else x

-- an office with the meeting of a name changed
abbrev pub with_changed : List ℕ → (MeetingLists → MeetingLists) → OfficeLists → OfficeLists
with_changed id change office = record office { meetings = change_first (λ (x : MeetingLists). same_name x.meeting.id id) change office.meetings }

-- what a change of the records makes of the lists of a meeting of a name that pass a test, and of those of the others
pub record ChangesOne (old new : FlatLists) (row : MeetingRow → MeetingRow) (id : List ℕ) (change : MeetingLists → MeetingLists) (test : MeetingLists → Bool) : Type 0 where
  pub meetings : new.meetings ≡ map row old.meetings
  pub named : (m : MeetingRow) → (row m).id ≡ m.id
  pub resolutions : new.resolutions ≡ old.resolutions
  pub later : List Session → List Session
  pub sessions_here : (m : MeetingRow) (s : List Session) (rs : List Resolution) → test (lists_with old m s rs) ≡ true → same_name m.id id ≡ true → further_sessions m.id old.sessions ≡ Some s → further_sessions m.id new.sessions ≡ Some (later s)
  pub sessions_there : (m : MeetingRow) → same_name m.id id ≡ false → further_sessions m.id new.sessions ≡ further_sessions m.id old.sessions
  pub here : (m : MeetingRow) (s : List Session) (rs : List Resolution) → test (lists_with old m s rs) ≡ true → same_name m.id id ≡ true → lists_with new (row m) (later s) rs ≡ change (lists_with old m s rs)
  pub there : (m : MeetingRow) (s : List Session) (rs : List Resolution) → same_name m.id id ≡ false → lists_with new (row m) s rs ≡ lists_with old m s rs
  pub keys : new.keys ≡ old.keys
  pub closed : new.closed ≡ old.closed

module _ (old new : FlatLists) (row : MeetingRow → MeetingRow) (id : List ℕ) (change : MeetingLists → MeetingLists) (test : MeetingLists → Bool) (c : ChangesOne old new row id change test) where
  lists_changed : (m : MeetingRow) (x : MeetingLists) → test x ≡ true → lists_of old m ≡ Some x → lists_of new (row m) ≡ Some (change_named id change x)
  lists_changed m x good h =
      let it = given old m x h in
      let passes = ap test it.is ∙ good in
      elim (cases_Bool (same_name m.id id)) [
        | inl same ↦
            found (c.later it.later) it.resolutions (c.sessions_here m it.later it.resolutions passes same it.sessions) it.numbered
            ∙ ap (λ (y : MeetingLists). Some y) (c.here m it.later it.resolutions passes same ∙ sym (rw same refl) ∙ ap (change_named id change) it.is)
        | inr other ↦
            found it.later it.resolutions (c.sessions_there m other ∙ it.sessions) it.numbered
            ∙ ap (λ (y : MeetingLists). Some y) (c.there m it.later it.resolutions other ∙ sym (rw other refl) ∙ ap (change_named id change) it.is)
      ]
    where
      found : (s : List Session) (rs : List Resolution) → further_sessions m.id new.sessions ≡ Some s → resolutions_of m.id old.resolutions ≡ Some rs → lists_of new (row m) ≡ Some (lists_with new (row m) s rs)
      found s rs sessions numbered =
          given_so new (row m) s rs (ap (λ n. further_sessions n new.sessions) (c.named m) ∙ sessions) (ap (λ n. resolutions_of n new.resolutions) (c.named m) ∙ ap (resolutions_of m.id) c.resolutions ∙ numbered)

  all_changed : (rows : List MeetingRow) (lists : List MeetingLists) → list_all test lists ≡ true → lists_of_all old rows ≡ Some lists → lists_of_all new (map row rows) ≡ Some (map (change_named id change) lists)
  all_changed [] lists good h = let none : [] ≡ lists = cc in rw (← none) refl
  all_changed (m ∷ rest) lists good h =
      let first = bound (lists_of old m) _ lists h in
      let later = bound (lists_of_all old rest) _ lists first.2 in
      let are : first.0 ∷ later.0 ≡ lists = cc in
      let each = and_parts (test first.0) (list_all test later.0) (subst (λ l. list_all test l ≡ true) (sym are) good) in
      rw (← are, lists_changed m first.0 each.0 first.1, all_changed rest later.0 each.1 later.1) refl

  close : (a b : MeetingLists) → same_name a.meeting.id id ≡ true → same_name b.meeting.id id ≡ true → same_meeting a b ≡ true
  close a b is also = subst (λ n. same_name a.meeting.id n ≡ true) (sym (same_name-true b.meeting.id id also)) is

  -- the office is the one with that meeting changed
  pub office_changed : (office : OfficeLists) → AreOf old office → have_meetings new ≡ true → differ_by same_meeting office.meetings ≡ true → list_all test office.meetings ≡ true
      → office_of_records new ≡ Some (with_changed id change office)
  office_changed office of stand differ good =
      office_is new (with_changed id change office) stand
      (ap (lists_of_all new) c.meetings ∙ all_changed old.meetings office.meetings good of.lists
      ∙ ap (λ (l : List MeetingLists). Some l) (map-once (λ (x : MeetingLists). same_name x.meeting.id id) change same_meeting close office.meetings differ))
      (ap (sort_by caller_before) c.keys ∙ of.keys) (ap (sort_by day_before) c.closed ∙ of.closed)
