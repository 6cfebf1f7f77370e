-- The public record, from the readings of its parts.
use Rattle.std.proofs.Common.{◌≡◌, ℕ, Bool, true, ◌&&◌, List, [], map, filter, find, slice_get, Option, Some, None, Err, Result, IsTrue, refl, sym, ap, subst, ◌∙◌}
use Rattle.std.specs.Prelude.{◌==◌, option_map}
use Rattle.std.specs.Ordering.{is_lt, nat_cmp}
use Rattle.std.specs.Option.{option_map_or}
use Rattle.std.proofs.lemmas.Bool.{and_parts}
use Rattle.std.proofs.lemmas.Cmp.{nat_cmp_total}
use Rattle.sqlite_trees.proofs.ListLemmas.{IsPermutation-filter}
use Rattle.sqlite.specs.Held.{Held, state}
use Rattle.sqlite.specs.Tree.{Trees}
use Rattle.sqlite_trees.specs.declared.store.Store as store
use Rattle.seq.specs.Ordered.{ascends_by}
use Rattle.seq.specs.Sorting.{sort_by}
use Rattle.seq.proofs.Ascending.{ascends_by-filter}
use Rattle.seq.proofs.Numbers.{is_lt-nat_cmp}
use Rattle.seq.proofs.SortingLemmas.{IsPermutation-sort_by, sort_by-ascending}
use Rattle.vocabulary.specs.Names.{same_name}
use Rattle.desk_words.specs.Finding.{meeting_named}
use Rattle.desk_words.specs.SortedLists.{are_resolutions}
use Rattle.desk_words.specs.Office.{is_office, poll_before}
use Rattle.desk_words.specs.declared.office.MeetingLists.{MeetingLists}
use Rattle.desk_words.specs.declared.office.OfficeLists.{OfficeLists}
use Rattle.desk_words.specs.declared.records.Poll.{Poll}
use Rattle.desk_words.specs.declared.records.Resolution.{Resolution}
use Rattle.desk_words.specs.declared.records.Session.{Session}
use Rattle.desk_words.proofs.OfficeFacts.{found_facts}
use Rattle.sql_rows.specs.declared.stored_records.InMeeting.{InMeeting}
use Rattle.sql_rows.specs.declared.stored_records.MeetingRow.{MeetingRow}
use Rattle.sql_rows.specs.declared.stored_records.Numbered.{Numbered}
use Rattle.sql_rows.proofs.RowMeaningLemmas.{bound}
use Rattle.sql_model.specs.OfficeRecords.{FlatLists, flat_in, of_meeting, office_of_records, whole_meeting}
use Rattle.sql_model.proofs.ListChanges.{list_of}
use Rattle.sql_model.proofs.Names.ListName.{Polls}
use Rattle.sql_model.proofs.ModelOfficeLemmas.{AreOf, are_of}
use Rattle.sql_model.proofs.PollChanges.{polls_ascend}
use Rattle.sql_load.specs.WholeReading.{IsReading}
use Rattle.sql_load.specs.OwnLists.{are_few, resolutions_own}
use Rattle.sql_load.specs.LoadResults.{ReadErrAgrees, any_at_all}
use Rattle.sql_load.specs.declared.fault.LoadError.{LoadError}
use Rattle.party_views.specs.RowsRead.{polls_on}
use Rattle.party_views.specs.Views.{polls_in}
use Rattle.sql_load.specs.MeetingRecords.{later_in, without_meeting}
use Rattle.sql_load.specs.TableLookUps.{HoldsOfStoredOffice, HoldsOrFails}
use Rattle.sql_load.proofs.FoundRecordLemmas.{cause_returns, first_passing, says, yields_return}
use Rattle.sql_load.proofs.NamedMeetingLemmas.{IsFoundAs, has_name, list_is, meeting_found, passing, the_same}

-- what a whole table holds, as what is returned of the office
pub reading_returned : {S X : Type 0} (g : store.Ghosts S) (a b : Held S) (said : Trees → Option X) (all : FlatLists → X) (held : (trees : Trees) (flat : FlatLists) → flat_in trees ≡ Some flat → said trees ≡ Some (all flat))
    (r : Result X LoadError) → IsReading g a b any_at_all r said → (R : OfficeLists → X → Type 0)
    → ((flat : FlatLists) (office : OfficeLists) → AreOf flat office → IsTrue (is_office office) → R office (all flat)) → HoldsOfStoredOffice g a b r R
reading_returned g a b said all held r reading R so = record {
  holds = λ read office holds preserved.
      let flat = bound (flat_in (state g a).now.trees) office_of_records office holds in
      says (R office) (all flat.0) r (so flat.0 office (are_of flat.0 office flat.2) preserved)
      (yields_return any_at_all r (all flat.0) (said (state g a).now.trees) (reading.holds read) (held (state g a).now.trees flat.0 flat.1) refl);
  same = reading.same;
  changes = reading.changes;
}

-- ---- the meeting

-- with the meeting's further sessions and its resolutions the row is the meeting, and where there is no meeting there is no row
abbrev pub IsRowOf : Option MeetingLists → Option MeetingRow → Type 0
IsRowOf None row = row ≡ None
IsRowOf (Some m) row = option_map (λ (r : MeetingRow). whole_meeting r m.meeting.later m.meeting.resolutions) row ≡ Some m.meeting

-- the first of the rows is the meeting's, if there is one
abbrev pub IsRow : List ℕ → OfficeLists → List MeetingRow → Type 0
IsRow id office rows = IsRowOf (meeting_named office.meetings id) (slice_get rows 0)

pub meeting_row_so : (id : List ℕ) (flat : FlatLists) (office : OfficeLists) → AreOf flat office → IsRow id office (filter (has_name id) flat.meetings)
meeting_row_so id flat office of =
    subst (IsRowOf (meeting_named office.meetings id)) (sym (first_passing (has_name id) flat.meetings)) (go (meeting_named office.meetings id) (meeting_found flat office id of))
  where
    go : (found : Option MeetingLists) → IsFoundAs flat id flat.meetings found → IsRowOf found (find (has_name id) flat.meetings)
    go None none = none
    go (Some m) made =
        ap (option_map (λ (r : MeetingRow). whole_meeting r m.meeting.later m.meeting.resolutions)) made.found ∙ ap (λ (x : MeetingLists). Some (whole_meeting made.row x.meeting.later x.meeting.resolutions)) made.is ∙ ap (λ (x : MeetingLists). Some x.meeting) (sym made.is)

-- these are the further sessions of the meeting
abbrev pub AreLater : List ℕ → OfficeLists → List Session → Type 0
AreLater id office later = later ≡ later_in (meeting_named office.meetings id)

-- they are no more than there may be
pub sessions_few : (office : OfficeLists) (id : List ℕ) → IsTrue (is_office office) → are_few (later_in (meeting_named office.meetings id)) ≡ true
sessions_few office id preserved = go (meeting_named office.meetings id) refl
  where
    go : (found : Option MeetingLists) → meeting_named office.meetings id ≡ found → are_few (later_in found) ≡ true
    go None is = refl
    go (Some m) is = (and_parts _ _ (found_facts office id m preserved is).sessions).0

-- the records of a meeting's resolutions are its resolutions
abbrev pub AreResolutions : List ℕ → OfficeLists → List (Numbered Resolution) → Type 0
AreResolutions id office rows = (m : MeetingLists) → meeting_named office.meetings id ≡ Some m → resolutions_own rows ≡ Some m.meeting.resolutions

pub resolutions_so : (id : List ℕ) (flat : FlatLists) (office : OfficeLists) → AreOf flat office → AreResolutions id office (of_meeting id flat.resolutions)
resolutions_so id flat office of m is =
    let made = subst (IsFoundAs flat id flat.meetings) is (meeting_found flat office id of) in
    ap (λ n. resolutions_own (of_meeting n flat.resolutions)) (sym made.named) ∙ made.numbered ∙ ap (λ (x : MeetingLists). Some x.meeting.resolutions) (sym made.is)

module _ (id : List ℕ) (office : OfficeLists) (meetings : List MeetingRow) (row : MeetingRow) (first : Some row ≡ slice_get meetings 0) (one : IsRow id office meetings) (rows : List (Numbered Resolution))
    (are : AreResolutions id office rows) where
  its_row : IsRowOf (meeting_named office.meetings id) (Some row)
  its_row = subst (IsRowOf (meeting_named office.meetings id)) (sym first) one

  -- the row with the further sessions and the resolutions is the meeting
  pub meeting_so : (later : List Session) → later ≡ later_in (meeting_named office.meetings id) → (resolutions : List Resolution) → resolutions_own rows ≡ Some resolutions
      → Some (whole_meeting row later resolutions) ≡ option_map (λ (m : MeetingLists). m.meeting) (meeting_named office.meetings id)
  meeting_so later sessions resolutions read = go (meeting_named office.meetings id) its_row sessions are
    where
      go : (found : Option MeetingLists) → IsRowOf found (Some row) → later ≡ later_in found → ((m : MeetingLists) → found ≡ Some m → resolutions_own rows ≡ Some m.meeting.resolutions)
          → Some (whole_meeting row later resolutions) ≡ option_map (λ (m : MeetingLists). m.meeting) found
      go None none those next = absurd cc
      go (Some m) is those next =
          let its : resolutions ≡ m.meeting.resolutions = the_same (sym read ∙ next m refl) in
          ap (λ s. Some (whole_meeting row s resolutions)) those ∙ ap (λ rs. Some (whole_meeting row m.meeting.later rs)) its ∙ is

  -- and where they are refused, it is not for want of a meeting
  pub resolutions_return : {X : Type 0} (P : X → Type 0) (e : LoadError) → IsTrue (is_office office) → ReadErrAgrees are_resolutions e (resolutions_own rows) → HoldsOrFails P (Err e)
  resolutions_return P e preserved cause = go (meeting_named office.meetings id) refl its_row
    where
      go : (found : Option MeetingLists) → meeting_named office.meetings id ≡ found → IsRowOf found (Some row) → HoldsOrFails P (Err e)
      go None is none = absurd cc
      go (Some m) is its = cause_returns P are_resolutions _ m.meeting.resolutions (resolutions_own rows) (are m is) (found_facts office id m preserved is).resolutions cause

-- no row is no meeting
pub no_meeting : (office : OfficeLists) (id : List ℕ) (meetings : List MeetingRow) → None ≡ slice_get meetings 0 → IsRow id office meetings → None ≡ option_map (λ (m : MeetingLists). m.meeting) (meeting_named office.meetings id)
no_meeting office id meetings none one = go (meeting_named office.meetings id) (subst (IsRowOf (meeting_named office.meetings id)) (sym none) one)
  where
    go : (found : Option MeetingLists) → IsRowOf found None → None ≡ option_map (λ (m : MeetingLists). m.meeting) found
    go None is = refl
    go (Some m) is = absurd cc

-- ---- the polls

pub polls_so : (id : List ℕ) (flat : FlatLists) (office : OfficeLists) → AreOf flat office → sort_by poll_before (of_meeting id flat.polls) ≡ polls_in (meeting_named office.meetings id)
polls_so id flat office of = list_is (list_of Polls) refl flat office id of ∙ same (meeting_named office.meetings id)
  where
    same : (found : Option MeetingLists) → option_map_or (λ (m : MeetingLists). m.polls) found [] ≡ polls_in found
    same None = refl
    same (Some m) = refl

pub polls_rise : (office : OfficeLists) (id : List ℕ) → IsTrue (is_office office) → ascends_by poll_before (polls_in (meeting_named office.meetings id)) ≡ true
polls_rise office id preserved = go (meeting_named office.meetings id) refl
  where
    go : (found : Option MeetingLists) → meeting_named office.meetings id ≡ found → ascends_by poll_before (polls_in found) ≡ true
    go None is = refl
    go (Some m) is = polls_ascend m.meeting m.polls (found_facts office id m preserved is).polls

-- ---- the poll on a resolution

by_resolution : (λ (a b : Poll). is_lt (nat_cmp a.resolution b.resolution)) ≡ poll_before
by_resolution = λ i a b. is_lt-nat_cmp a.resolution b.resolution i

-- those on it, put in order, are those on it of all in order
on_sorted : (resolution : ℕ) (polls : List Poll) → ascends_by poll_before (sort_by poll_before polls) ≡ true → sort_by poll_before (polls_on resolution polls) ≡ polls_on resolution (sort_by poll_before polls)
on_sorted resolution polls =
    subst (λ (before : Poll → Poll → Bool). ascends_by before (sort_by before polls) ≡ true → sort_by before (polls_on resolution polls) ≡ polls_on resolution (sort_by before polls)) by_resolution
    (λ rise.
    let before : Poll → Poll → Bool = λ a b. is_lt (nat_cmp a.resolution b.resolution) in
    let on : Poll → Bool = λ poll. poll.resolution == resolution in
    sym (sort_by-ascending nat_cmp_total (λ (poll : Poll). poll.resolution) (filter on polls) (filter on (sort_by before polls))
    (IsPermutation-filter on polls (sort_by before polls) (IsPermutation-sort_by before polls))
    (ascends_by-filter nat_cmp_total (λ (poll : Poll). poll.resolution) on (sort_by before polls) rise)))

-- and they are in order
on_rise : (resolution : ℕ) (polls : List Poll) → ascends_by poll_before polls ≡ true → ascends_by poll_before (polls_on resolution polls) ≡ true
on_rise resolution polls =
    subst (λ (before : Poll → Poll → Bool). ascends_by before polls ≡ true → ascends_by before (polls_on resolution polls) ≡ true) by_resolution
    (ascends_by-filter nat_cmp_total (λ (poll : Poll). poll.resolution) (λ (poll : Poll). poll.resolution == resolution) polls)

pub poll_so : (id : List ℕ) (resolution : ℕ) (flat : FlatLists) (office : OfficeLists) → AreOf flat office → IsTrue (is_office office)
    → sort_by poll_before (map without_meeting (filter (λ (it : InMeeting Poll). same_name it.meeting id && it.item.resolution == resolution) flat.polls)) ≡ polls_on resolution (polls_in (meeting_named office.meetings id))
poll_so id resolution flat office of preserved =
    ap (sort_by poll_before) (passing id (λ (poll : Poll). poll.resolution == resolution) flat.polls)
    ∙ on_sorted resolution (of_meeting id flat.polls) (ap (ascends_by poll_before) (polls_so id flat office of) ∙ polls_rise office id preserved)
    ∙ ap (polls_on resolution) (polls_so id flat office of)

pub poll_rises : (office : OfficeLists) (id : List ℕ) (resolution : ℕ) → IsTrue (is_office office) → ascends_by poll_before (polls_on resolution (polls_in (meeting_named office.meetings id))) ≡ true
poll_rises office id resolution preserved = on_rise resolution (polls_in (meeting_named office.meetings id)) (polls_rise office id preserved)
