-- What the tables hold under a meeting's name is what the office holds of that meeting, or nothing.
use Rattle.std.proofs.Common.{◌≡◌, ℕ, Bool, true, false, ◌&&◌, cond, List, [], ◌∷◌, map, filter, find, Option, Some, None, inl, inr, refl, sym, ap, subst, ◌∙◌, true≢false}
use Rattle.std.specs.List.{list_any}
use Rattle.std.specs.Option.{option_map_or}
use Rattle.std.proofs.lemmas.Bool.{and_parts, cases_Bool}
use Rattle.seq.specs.Sorting.{sort_by}
use Rattle.seq.proofs.Filtered.{none-found}
use Rattle.vocabulary.specs.Names.{same_name}
use Rattle.desk_words.specs.Finding.{meeting_named}
use Rattle.desk_words.specs.declared.office.MeetingLists.{MeetingLists}
use Rattle.desk_words.specs.declared.office.OfficeLists.{OfficeLists}
use Rattle.desk_words.specs.declared.records.Resolution.{Resolution}
use Rattle.desk_words.specs.declared.records.Session.{Session}
use Rattle.desk_words.proofs.WordRowLemmas.{same_name-true}
use Rattle.sql_rows.specs.declared.stored_records.InMeeting.{InMeeting}
use Rattle.sql_rows.specs.declared.stored_records.MeetingRow.{MeetingRow}
use Rattle.sql_rows.specs.declared.stored_records.Numbered.{Numbered}
use Rattle.sql_rows.proofs.RowMeaningLemmas.{bound}
use Rattle.sql_model.specs.OfficeRecords.{FlatLists, lists_of, lists_of_all, lists_with, name_meetings, number_before, numbered_from, of_meeting, resolutions_of, further_sessions}
pub use Rattle.sql_model.proofs.FlatChanges.{HoldAll, all_held}
use Rattle.sql_model.proofs.ListChanges.{ListOf}
use Rattle.sql_model.proofs.ModelOfficeLemmas.{AreOf, given, named_so}
use Rattle.sql_load.specs.MeetingRecords.{without_meeting, later_in}

pub the_same : {X : Type 0} {x y : X} → ◌≡◌ {A = Option X} (Some x) (Some y) → x ≡ y
the_same h = cc

-- ---- a meeting by its name

-- the row has that name
abbrev pub has_name : List ℕ → MeetingRow → Bool
has_name id row = same_name row.id id

-- a meeting is what the records of a name make
pub record IsMade (flat : FlatLists) (id : List ℕ) (rows : List MeetingRow) (m : MeetingLists) : Type 0 where
  pub row : MeetingRow
  pub later : List Session
  pub resolutions : List Resolution
  pub found : find (has_name id) rows ≡ Some row
  pub named : row.id ≡ id
  pub sessions : further_sessions row.id flat.sessions ≡ Some later
  pub numbered : resolutions_of row.id flat.resolutions ≡ Some resolutions
  pub is : m ≡ lists_with flat row later resolutions

-- a meeting is so, and where there is none no row has that name
abbrev pub IsFoundAs : FlatLists → List ℕ → List MeetingRow → Option MeetingLists → Type 0
IsFoundAs flat id rows None = find (has_name id) rows ≡ None
IsFoundAs flat id rows (Some m) = IsMade flat id rows m

further : (flat : FlatLists) (id : List ℕ) (row : MeetingRow) (rows : List MeetingRow) (found : Option MeetingLists) → has_name id row ≡ false → IsFoundAs flat id rows found → IsFoundAs flat id (row ∷ rows) found
further flat id row rows None other h = ap (λ b. cond b (Some row) (find (has_name id) rows)) other ∙ h
further flat id row rows (Some m) other h = record {
  row = h.row;
  later = h.later;
  resolutions = h.resolutions;
  found = ap (λ b. cond b (Some row) (find (has_name id) rows)) other ∙ h.found;
  named = h.named;
  sessions = h.sessions;
  numbered = h.numbered;
  is = h.is;
}

found_as : (flat : FlatLists) (id : List ℕ) (rows : List MeetingRow) (lists : List MeetingLists) → lists_of_all flat rows ≡ Some lists → IsFoundAs flat id rows (meeting_named lists id)
found_as flat id [] lists h = let none : [] ≡ lists = cc in subst (λ l. IsFoundAs flat id [] (meeting_named l id)) none refl
found_as flat id (row ∷ rows) lists h =
    let first = bound (lists_of flat row) _ lists h in
    let later = bound (lists_of_all flat rows) _ lists first.2 in
    let are : first.0 ∷ later.0 ≡ lists = cc in
    let name : same_name first.0.meeting.id id ≡ has_name id row = ap (λ n. same_name n id) (named_so flat row first.0 first.1) in
    subst (λ l. IsFoundAs flat id (row ∷ rows) (meeting_named l id)) are (elim (cases_Bool (has_name id row)) [
      | inl is ↦
          let it = given flat row first.0 first.1 in
          subst (λ b. IsFoundAs flat id (row ∷ rows) (cond b (Some first.0) (meeting_named later.0 id))) (sym (name ∙ is)) (record {
            row = row;
            later = it.later;
            resolutions = it.resolutions;
            found = ap (λ b. cond b (Some row) (find (has_name id) rows)) is;
            named = same_name-true row.id id is;
            sessions = it.sessions;
            numbered = it.numbered;
            is = sym it.is;
          })
      | inr other ↦
          subst (λ b. IsFoundAs flat id (row ∷ rows) (cond b (Some first.0) (meeting_named later.0 id))) (sym (name ∙ other)) (further flat id row rows (meeting_named later.0 id) other (found_as flat id rows later.0 later.1))
    ])

pub meeting_found : (flat : FlatLists) (office : OfficeLists) (id : List ℕ) → AreOf flat office → IsFoundAs flat id flat.meetings (meeting_named office.meetings id)
meeting_found flat office id of = found_as flat id flat.meetings office.meetings of.lists

-- ---- its records

-- where no meeting has the name, no record is of it
none_named : {A : Type 0} (meetings : List MeetingRow) (id : List ℕ) (records : List (InMeeting A)) → name_meetings meetings records ≡ true → find (has_name id) meetings ≡ None → of_meeting id records ≡ []
none_named meetings id [] stand none = refl
none_named meetings id (r ∷ records) stand none =
    let parts = and_parts (list_any (λ (m : MeetingRow). same_name m.id r.meeting) meetings) (name_meetings meetings records) stand in
    let rest = none_named meetings id records parts.1 none in
    elim (cases_Bool (same_name r.meeting id)) [
      | inl is ↦
          let stands : list_any (has_name id) meetings ≡ true = subst (λ n. list_any (λ (m : MeetingRow). same_name m.id n) meetings ≡ true) (same_name-true r.meeting id is) parts.0 in
          absurd (true≢false (sym stands ∙ none-found (has_name id) meetings none))
      | inr other ↦ rw other rest
    ]

-- a list of the office's meeting is what the records of its name are, put in its order
pub list_is : {A : Type 0} (k : ListOf A) → k.arrange [] ≡ [] → (flat : FlatLists) (office : OfficeLists) (id : List ℕ) → AreOf flat office → k.arrange (of_meeting id (k.all flat)) ≡ option_map_or k.own (meeting_named office.meetings id) []
list_is k empty flat office id of = go (meeting_named office.meetings id) (meeting_found flat office id of)
  where
    go : (found : Option MeetingLists) → IsFoundAs flat id flat.meetings found → k.arrange (of_meeting id (k.all flat)) ≡ option_map_or k.own found []
    go None none = ap k.arrange (none_named flat.meetings id (k.all flat) (k.stood flat of.stand) none) ∙ empty
    go (Some m) made =
        ap (λ n. k.arrange (of_meeting n (k.all flat))) (sym made.named) ∙ sym (k.its_own flat made.row made.later made.resolutions) ∙ ap k.own (sym made.is)

-- and the sessions of its name, in the order of their numbers, are those to which it was adjourned
pub later_is : (flat : FlatLists) (office : OfficeLists) (id : List ℕ) → AreOf flat office → further_sessions id flat.sessions ≡ Some (later_in (meeting_named office.meetings id))
later_is flat office id of = go (meeting_named office.meetings id) (meeting_found flat office id of)
  where
    go : (found : Option MeetingLists) → IsFoundAs flat id flat.meetings found → further_sessions id flat.sessions ≡ Some (later_in found)
    go None none = ap (λ (l : List (Numbered Session)). numbered_from 2 (sort_by number_before l)) (none_named flat.meetings id flat.sessions of.stand.sessions none)
    go (Some m) made = ap (λ n. further_sessions n flat.sessions) (sym made.named) ∙ made.sessions ∙ ap (λ (x : MeetingLists). Some x.meeting.later) (sym made.is)

-- ---- those of them that pass a test

pub passing : {A : Type 0} (id : List ℕ) (test : A → Bool) (records : List (InMeeting A))
    → map without_meeting (filter (λ (r : InMeeting A). same_name r.meeting id && test r.item) records) ≡ filter test (of_meeting id records)
passing id test [] = refl
passing {A} id test (r ∷ records) =
    let rest = passing id test records in
    let both = filter (λ (r : InMeeting A). same_name r.meeting id && test r.item) records in
    let own = filter (λ (r : InMeeting A). same_name r.meeting id) records in
    elim (same_name r.meeting id) as (λ b. map without_meeting (cond (b && test r.item) (r ∷ both) both) ≡ filter test (map without_meeting (cond b (r ∷ own) own))) [
      | true ↦ (elim (test r.item) as (λ b. map without_meeting (cond b (r ∷ both) both) ≡ cond b (r.item ∷ filter test (map without_meeting own)) (filter test (map without_meeting own))) [ true ↦ ap (λ l. r.item ∷ l) rest | false ↦ rest ])
      | false ↦ rest
    ]
