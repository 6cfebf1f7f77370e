-- What is known of an office that can make a change, and what follows where the statements for it succeed.
use Rattle.std.proofs.Common.{◌≡◌, ◌≢◌, ℕ, ◌==◌, Bool, true, false, ◌&&◌, ◌||◌, List, [], ◌∷◌, Some, Ok, find, is_some, length, nat_le, map, if◌then◌else◌, refl, sym, ap, ◌∙◌, IsTrue, true≢false, arith}
use Rattle.std.specs.List.{list_all, list_any}
use Rattle.std.proofs.lemmas.Bool.Decides.{nat_tests}
use Rattle.sqlite.specs.Held.{Held, state}
use Rattle.sqlite.specs.State.{State}
use Rattle.sqlite_trees.specs.declared.store.Store as store
use Rattle.seq.specs.Ordered.{differ_by}
use Rattle.vocabulary.specs.Names.{same_name}
use Rattle.desk_words.specs.SortedLists.{is_day_list, is_key_list}
use Rattle.desk_words.specs.Office.{are_meetings, is_meeting, is_office, same_meeting}
use Rattle.desk_words.specs.declared.change.Change.{Change}
use Rattle.desk_words.specs.declared.change.Change.TheVariants.{InMeeting}
use Rattle.desk_words.specs.declared.change.MeetingChange.{MeetingChange}
use Rattle.desk_words.specs.declared.office.MeetingLists.{MeetingLists}
use Rattle.desk_words.specs.declared.office.OfficeLists.{OfficeLists}
use Rattle.sql_rows.specs.Meanings.{all_meanings}
use Rattle.sql_schema.specs.Contents as contents
use Rattle.sql_model.specs.OfficeRecords.{FlatLists, flat_in, office_in, office_of_records}
use Rattle.sql_schema.specs.Statements.{Changes, CommitsNothing, DeclaresNothing, Does, KeepsOthers, TableOf, columns_of}
use Rattle.sql_model.proofs.ModelOfficeLemmas.{AreOf, are_of}
use Rattle.sql_rows.proofs.RowMeaningLemmas.{bound}
use Rattle.std.proofs.lemmas.Bool.{and_parts}
use Rattle.desk_words.specs.Changes.{applied, can_make, is_placed}
use Rattle.sql_write.specs.Writes.{StandsIn, Writes}
use Rattle.sql_model.specs.Standing.{IsVersion}

-- an office: its meetings differ, and each is one
pub record IsOffice (office : OfficeLists) : Type 0 where
  pub keys : is_key_list office.keys ≡ true
  pub closed : is_day_list office.closed ≡ true
  pub differ : differ_by same_meeting office.meetings ≡ true
  pub each : list_all is_meeting office.meetings ≡ true

office_parts : (office : OfficeLists) → is_office office ≡ true → IsOffice office
office_parts office h =
    let two = and_parts (is_key_list office.keys && is_day_list office.closed) (are_meetings office.meetings) h in
    let lists = and_parts (is_key_list office.keys) (is_day_list office.closed) two.0 in
    let meetings = and_parts (nat_le (length office.meetings) 100 && differ_by same_meeting office.meetings) (list_all is_meeting office.meetings) two.1 in
    let apart = and_parts (nat_le (length office.meetings) 100) (differ_by same_meeting office.meetings) meetings.0 in
    record { keys = lists.0; closed = lists.1; differ = apart.1; each = meetings.1 }

-- an office can make a change
pub record Possible (office : OfficeLists) (change : Change) : Type 0 where
  pub before : IsOffice office
  pub placed : is_placed office change ≡ true
  pub later : IsOffice (applied office change)

pub possible : (office : OfficeLists) (change : Change) → IsTrue (can_make office change) → Possible office change
possible office change h =
    let two = and_parts (is_office office && is_placed office change) (is_office (applied office change)) h in
    let one = and_parts (is_office office) (is_placed office change) two.0 in
    record { before = office_parts office one.0; placed = one.1; later = office_parts (applied office change) two.1 }

found_any : {X : Type 0} (test : X → Bool) (xs : List X) → is_some (find test xs) ≡ true → list_any test xs ≡ true
found_any test [] = λ h. absurd (true≢false (sym h))
found_any test (x ∷ xs) =
    elim (test x) as (λ b. is_some (if b then Some x else find test xs) ≡ true → (b || list_any test xs) ≡ true)
    [ true ↦ λ h. refl | false ↦ λ h. found_any test xs h ]

-- the meeting in which it is made stands
pub placed_in : (office : OfficeLists) (id : List ℕ) (change : MeetingChange) → Possible office (InMeeting id change) → list_any (λ (x : MeetingLists). same_name x.meeting.id id) office.meetings ≡ true
placed_in office id change can = found_any (λ (x : MeetingLists). same_name x.meeting.id id) office.meetings can.placed

-- what the records of all tables become is what a change makes of the office that they are
abbrev pub Becomes : Change → State → State → Type 0
Becomes change old new =
    (flat : FlatLists) (office : OfficeLists) → flat_in old.now.trees ≡ Some flat → AreOf flat office → Possible office change → office_in new.now.trees ≡ Some (applied office change)

pub becomes : (change : Change) (old new : State) (office : OfficeLists) → StandsIn office old → IsTrue (can_make office change) → Becomes change old new → office_in new.now.trees ≡ Some (applied office change)
becomes change old new office h can next =
    let flat = bound (flat_in old.now.trees) office_of_records office h.means in
    next flat.0 office flat.1 (are_of flat.0 office flat.2) (possible office change can)

-- a change of another table leaves the version that is noted
pub version_preserved : (n : ℕ) (old new : State) → (0 == n) ≡ false → KeepsOthers n old new → IsVersion old → IsVersion new
version_preserved n old new apart others h = ap (λ rows. all_meanings contents.desk.means (map (columns_of contents.desk) rows)) (others 0 refl differ) ∙ h
  where
    differ : 0 ≢ n
    differ e = grind (arith, nat_tests)

-- in a transaction over an office a statement on one table leaves the office after the change
pub stands_after : {A : Type 0} (old new : State) (change : Change) (table : TableOf A) (effect : List A → List A) → (0 == table.number) ≡ false → (office : OfficeLists) → StandsIn office old → IsTrue (can_make office change)
    → Changes table effect old new → Becomes change old new → StandsIn (applied office change) new × DeclaresNothing old new
stands_after old new change table effect apart office h can done next =
    (record { desk = done.desk; version = version_preserved table.number old new apart done.others h.version; inside = done.inside; sound = done.sound; means = becomes change old new office h can next }, done.schema)

-- one statement, on one table
pub written_by : {S A : Type 0} (g : store.Ghosts S) (old new : Held S) (change : Change) (table : TableOf A) (effect : List A → List A) (n : ℕ) → (0 == table.number) ≡ false → Does g old new (Ok n) (Changes table effect)
    → CommitsNothing g old new → (Changes table effect (state g old) (state g new) → Becomes change (state g old) (state g new)) → Writes {T = Unit {0}} g old new (Ok tt) change
written_by g old new change table effect n apart does commits next = record {
  written = λ clean office h can.
      let done = does clean h.inside h.desk in
      stands_after (state g old) (state g new) change table effect apart office h can done (next done);
  preserved = commits.preserved;
  crash = commits.crash;
}
