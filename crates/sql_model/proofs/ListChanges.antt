-- A change of one list of all meetings, as of the lists of the meetings.
use Rattle.std.proofs.Common.{◌≡◌, ℕ, Bool, true, false, List, [], ◌∷◌, ◌++◌, Some, refl, sym, ap, ◌∙◌}
use Rattle.std.specs.List.{list_all, list_any}
use Rattle.std.proofs.lemmas.List.{map-id}
use Rattle.seq.specs.Ordered.{differ_by}
use Rattle.vocabulary.specs.Names.{same_name}
use Rattle.desk_words.specs.Office.{same_meeting}
use Rattle.desk_words.specs.declared.office.MeetingLists.{MeetingLists}
use Rattle.desk_words.specs.declared.office.OfficeLists.{OfficeLists}
use Rattle.desk_words.specs.declared.records.Resolution.{Resolution}
use Rattle.desk_words.specs.declared.records.Session.{Session}
use Rattle.sql_rows.specs.declared.stored_records.InMeeting.{InMeeting}
use Rattle.sql_rows.specs.declared.stored_records.MeetingRow.{MeetingRow}
use Rattle.sql_model.specs.OfficeRecords.{FlatLists, of_meeting, lists_with, name_meetings, have_meetings, office_of_records, further_sessions}
use Rattle.sql_model.proofs.Names.{ItemOf, ListName, list_stored_as, owned}
use Rattle.sql_model.proofs.Names.ListName.{Register}
use Rattle.sql_model.proofs.ModelOfficeLemmas.{AllStand, AreOf, ChangesOne, have_all, office_changed, stands_there, with_changed}
use Rattle.sql_model.proofs.ModelRecordLemmas.{in_meeting, of_meeting-last, of_meeting-same, stand-append, stand-own}

-- a list that the tables keep of all meetings and an office of each, where it stands in some order
pub record ListOf (A : Type 0) : Type 0 where
  pub all : FlatLists → List (InMeeting A)
  pub with_all : List (InMeeting A) → FlatLists → FlatLists
  pub own : MeetingLists → List A
  pub with_own : List A → MeetingLists → MeetingLists
  pub arrange : List A → List A
  pub meetings : (l : List (InMeeting A)) (flat : FlatLists) → (with_all l flat).meetings ≡ flat.meetings
  pub sessions : (l : List (InMeeting A)) (flat : FlatLists) → (with_all l flat).sessions ≡ flat.sessions
  pub resolutions : (l : List (InMeeting A)) (flat : FlatLists) → (with_all l flat).resolutions ≡ flat.resolutions
  pub keys : (l : List (InMeeting A)) (flat : FlatLists) → (with_all l flat).keys ≡ flat.keys
  pub closed : (l : List (InMeeting A)) (flat : FlatLists) → (with_all l flat).closed ≡ flat.closed
  pub lists : (l : List (InMeeting A)) (flat : FlatLists) (m : MeetingRow) (s : List Session) (rs : List Resolution) → lists_with (with_all l flat) m s rs ≡ with_own (arrange (of_meeting m.id l)) (lists_with flat m s rs)
  pub same : (flat : FlatLists) (m : MeetingRow) (s : List Session) (rs : List Resolution) → with_own (arrange (of_meeting m.id (all flat))) (lists_with flat m s rs) ≡ lists_with flat m s rs
  pub its_own : (flat : FlatLists) (m : MeetingRow) (s : List Session) (rs : List Resolution) → own (lists_with flat m s rs) ≡ arrange (of_meeting m.id (all flat))
  pub stood : (flat : FlatLists) → AllStand flat → name_meetings flat.meetings (all flat) ≡ true
  pub stand : (l : List (InMeeting A)) (flat : FlatLists) → AllStand flat → name_meetings flat.meetings l ≡ true → have_meetings (with_all l flat) ≡ true

module _ {A : Type 0} (k : ListOf A) (flat : FlatLists) (records : List (InMeeting A)) (id : List ℕ) (change : List A → List A) (test : MeetingLists → Bool)
    (here : (m : MeetingRow) (s : List Session) (rs : List Resolution) → test (lists_with flat m s rs) ≡ true → same_name m.id id ≡ true → k.arrange (of_meeting m.id records) ≡ change (k.arrange (of_meeting m.id (k.all flat))))
    (there : (name : List ℕ) → same_name name id ≡ false → of_meeting name records ≡ of_meeting name (k.all flat)) where
  changes_one : ChangesOne flat (k.with_all records flat) (λ m. m) id (λ x. k.with_own (change (k.own x)) x) test
  changes_one = record {
    meetings = rw (map-id flat.meetings) (k.meetings records flat);
    named = λ m. refl;
    resolutions = k.resolutions records flat;
    later = λ s. s;
    sessions_here = λ m s rs good is known. ap (further_sessions m.id) (k.sessions records flat) ∙ known;
    sessions_there = λ m other. ap (further_sessions m.id) (k.sessions records flat);
    here = λ m s rs good is. rw (k.its_own flat m s rs) (k.lists records flat m s rs ∙ ap (λ l. k.with_own l (lists_with flat m s rs)) (here m s rs good is));
    there = λ m s rs other. k.lists records flat m s rs ∙ ap (λ l. k.with_own (k.arrange l) (lists_with flat m s rs)) (there m.id other) ∙ k.same flat m s rs;
    keys = k.keys records flat;
    closed = k.closed records flat;
  }

  -- where the records of one meeting are changed, its list is
  pub list_changed : (office : OfficeLists) → AreOf flat office → name_meetings flat.meetings records ≡ true → differ_by same_meeting office.meetings ≡ true → list_all test office.meetings ≡ true
      → office_of_records (k.with_all records flat) ≡ Some (with_changed id (λ x. k.with_own (change (k.own x)) x) office)
  list_changed office of stand = office_changed flat (k.with_all records flat) (λ m. m) id (λ x. k.with_own (change (k.own x)) x) test changes_one office of (k.stand records flat of.stand stand)

pub all_pass : {X : Type 0} (xs : List X) → list_all (λ _. true) xs ≡ true
all_pass [] = refl
all_pass (x ∷ xs) = all_pass xs

-- a record that is received stands last in the list of its meeting, where that list is kept in order of receipt
pub received : {A : Type 0} (k : ListOf A) → ((l : List A) → k.arrange l ≡ l) → (flat : FlatLists) (id : List ℕ) (added : A) (office : OfficeLists) → AreOf flat office
    → differ_by same_meeting office.meetings ≡ true → list_any (λ (x : MeetingLists). same_name x.meeting.id id) office.meetings ≡ true
    → office_of_records (k.with_all (k.all flat ++ in_meeting id added ∷ []) flat) ≡ Some (with_changed id (λ x. k.with_own (k.own x ++ added ∷ []) x) office)
received k as_it_came flat id added office of differ one =
    list_changed k flat (k.all flat ++ in_meeting id added ∷ []) id (λ l. l ++ added ∷ []) (λ _. true)
    (λ m s rs _ is. rw (as_it_came (of_meeting m.id (k.all flat ++ in_meeting id added ∷ [])), as_it_came (of_meeting m.id (k.all flat))) (of_meeting-last id m.id (k.all flat) added is))
    (λ name other. of_meeting-same id name (k.all flat) added other)
    office of (stand-append flat.meetings (k.all flat) (in_meeting id added ∷ []) (k.stood flat of.stand) (stand-own flat.meetings id (added ∷ []) (sym (stands_there flat office id of) ∙ one)))
    differ (all_pass office.meetings)

-- ---- the lists

-- where a list is changed, the meetings of all records still stand
pub stand_with : (n : ListName) (l : List (InMeeting (ItemOf n))) (flat : FlatLists) → AllStand flat → name_meetings flat.meetings l ≡ true → AllStand ((list_stored_as n).with_all l flat)
stand_with Register l flat stand one = record { sessions = stand.sessions; resolutions = stand.resolutions; lists = elim [ Register ↦ one | m ↦ stand.lists m ] }
stand_with n l flat stand one = record { sessions = stand.sessions; resolutions = stand.resolutions; lists = elim [ Register ↦ stand.lists Register | m ↦ assumption (one, stand.lists m) ] }

-- what a change of a list leaves, and where the list stands
pub record Laws (n : ListName) : Type 0 where
  pub meetings : (l : List (InMeeting (ItemOf n))) (flat : FlatLists) → ((list_stored_as n).with_all l flat).meetings ≡ flat.meetings
  pub sessions : (l : List (InMeeting (ItemOf n))) (flat : FlatLists) → ((list_stored_as n).with_all l flat).sessions ≡ flat.sessions
  pub resolutions : (l : List (InMeeting (ItemOf n))) (flat : FlatLists) → ((list_stored_as n).with_all l flat).resolutions ≡ flat.resolutions
  pub keys : (l : List (InMeeting (ItemOf n))) (flat : FlatLists) → ((list_stored_as n).with_all l flat).keys ≡ flat.keys
  pub closed : (l : List (InMeeting (ItemOf n))) (flat : FlatLists) → ((list_stored_as n).with_all l flat).closed ≡ flat.closed
  pub lists : (l : List (InMeeting (ItemOf n))) (flat : FlatLists) (m : MeetingRow) (s : List Session) (rs : List Resolution) → lists_with ((list_stored_as n).with_all l flat) m s rs ≡ (owned n).with_own ((owned n).arrange (of_meeting m.id l)) (lists_with flat m s rs)
  pub same : (flat : FlatLists) (m : MeetingRow) (s : List Session) (rs : List Resolution) → (owned n).with_own ((owned n).arrange (of_meeting m.id ((list_stored_as n).all flat))) (lists_with flat m s rs) ≡ lists_with flat m s rs
  pub its_own : (flat : FlatLists) (m : MeetingRow) (s : List Session) (rs : List Resolution) → (owned n).own (lists_with flat m s rs) ≡ (owned n).arrange (of_meeting m.id ((list_stored_as n).all flat))

pub laws : (n : ListName) → Laws n
laws = elim [ Register ↦ assumption | _ ↦ assumption ]

-- the list of a name
abbrev pub list_of : (n : ListName) → ListOf (ItemOf n)
list_of n = record {
  all = (list_stored_as n).all;
  with_all = (list_stored_as n).with_all;
  own = (owned n).own;
  with_own = (owned n).with_own;
  arrange = (owned n).arrange;
  meetings = (laws n).meetings;
  sessions = (laws n).sessions;
  resolutions = (laws n).resolutions;
  keys = (laws n).keys;
  closed = (laws n).closed;
  lists = (laws n).lists;
  same = (laws n).same;
  its_own = (laws n).its_own;
  stood = λ flat stand. stand.lists n;
  stand = λ l flat stand one. have_all ((list_stored_as n).with_all l flat) (stand_with n l flat stand one);
}
