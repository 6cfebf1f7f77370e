-- A session that is opened or added: how many there are is read, and then the last is noted as open, or the next is added.
use Rattle.std.proofs.Common.{◌≡◌, ℕ, ◌+◌, ◌≤◌, ◌==◌, false, List, [], ◌∷◌, ◌++◌, map, length, Ok, Result, OnOk, IsTrue, Option, Some, refl, sym, ap, subst, ◌∙◌, arith}
use Rattle.std.proofs.lemmas.Bool.Decides.{nat_tests}
use Rattle.sqlite.specs.declared.error.Error.{Error}
use Rattle.sqlite.specs.Effect.{IsDatabase}
use Rattle.sqlite.specs.Held.{Held, state}
use Rattle.sqlite.specs.Order.{Row}
use Rattle.sqlite.specs.State.{State, HasCleanDisk, IsUnchanged}
use Rattle.sqlite.proofs.StateLemmas.{survives_then}
use Rattle.sqlite_trees.specs.declared.store.Store as store
use Rattle.desk_words.specs.Changes.{applied, can_make}
use Rattle.desk_words.specs.declared.change.Change.{Change}
use Rattle.desk_words.specs.declared.change.Change.TheVariants.{InMeeting}
use Rattle.desk_words.specs.declared.change.MeetingChange.{MeetingChange}
use Rattle.desk_words.specs.declared.change.MeetingChange.TheVariants.{AddSession, SetOpened}
use Rattle.desk_words.specs.declared.office.OfficeLists.{OfficeLists}
use Rattle.desk_words.specs.Sessions.{session_on}
use Rattle.vocabulary.specs.Names.{same_name}
use Rattle.vocabulary.specs.OptionSteps.{◌>>=◌}
use Rattle.sql_schema.specs.Contents as table
use Rattle.sql_schema.specs.Contents.{first_opened_at, session_opened_at}
use Rattle.sql_schema.specs.Statements.{Adds, Changes, CommitsNothing, DeclaresNothing, Does, FindsRecords, IsRead, Sets, TableOf}
use Rattle.sql_model.specs.OfficeRecords.{FlatLists, flat_in, office_in, office_of_records}
use Rattle.sql_model.proofs.FlatChanges.{all_held, table_changed}
use Rattle.sql_model.proofs.MeetingChanges.{meeting_opened}
use Rattle.sql_model.proofs.Names.TableName.{Meetings, Sessions}
use Rattle.sql_model.proofs.ModelOfficeLemmas.{AreOf}
use Rattle.sql_model.proofs.ModelRecordLemmas.{in_meeting}
use Rattle.sql_model.proofs.SessionChanges.{session_opened}
use Rattle.sql_write.proofs.SessionAdded.{session_added}
use Rattle.sql_write.specs.Writes.{StandsIn, Writes}
use Rattle.sql_write.proofs.Possible.{Becomes, Possible, placed_in, stands_after}
use Rattle.sql_write.proofs.WrittenSessionLemmas.{as_many_mean, further_in, has_last, has_next, has_one}

-- what is read leaves the office
still_stands : (old new : State) (office : OfficeLists) → IsUnchanged old new → StandsIn office old → StandsIn office new
still_stands old new office same h = record {
  desk = record { schema = rw same.0.now_is h.desk.schema; rising = λ number its. rw same.0.now_is (h.desk.rising number its) };
  version = rw same.0.now_is h.version;
  inside = same.0.mode ∙ h.inside;
  sound = subst IsDatabase (sym same.0.now_is) h.sound;
  means = rw same.0.now_is h.means;
}

same_records : (old new : State) (flat : FlatLists) → IsUnchanged old new → flat_in new.now.trees ≡ Some flat → flat_in old.now.trees ≡ Some flat
same_records old new flat same held = subst (λ now. flat_in now.trees ≡ Some flat) same.0.now_is held

same_declared : (old new : State) → IsUnchanged old new → DeclaresNothing old new
same_declared old new same = rw same.0.now_is refl

module _ {S : Type 0} (g : store.Ghosts S) (a b : Held S) (reading : CommitsNothing g a b) where
  module _ (c : Held S) (commits : CommitsNothing g b c) where
    early : HasCleanDisk (state g c) → HasCleanDisk (state g b)
    early clean = omega (arith, commits.crash.clean, clean)

    -- what is written behind a reading
    written_behind : {T : Type 0} (r : Result T Error) (change : Change)
        → (HasCleanDisk (state g c) → (office : OfficeLists) → StandsIn office (state g a) → IsTrue (can_make office change) → OnOk r (StandsIn (applied office change) (state g c) × DeclaresNothing (state g a) (state g c)))
        → Writes g a c r change
    written_behind r change so = record {
      written = so;
      preserved = λ clean.
          let before = reading.preserved (early clean) in
          let behind = commits.preserved clean in
          record { was_open = λ o. before.was_open (behind.was_open o); committed = λ o. behind.committed o ∙ before.committed (behind.was_open o) };
      crash = survives_then (state g a) (state g b) (state g c) (λ _. ⊥) (λ _. ⊥) (λ _. ⊥) (λ _ db none. none) (λ _ db none. none) reading.crash commits.crash;
    }

    module _ (id : List ℕ) (moment : ℕ) (rows : List Row) (n : ℕ) (found : IsRead g a b → FindsRecords g a b table.sessions (λ it. same_name it.meeting id) rows) where
      -- a statement on one table makes a change in the meeting, where there are so many rows
      counted_by : {A : Type 0} (what : MeetingChange) (its : TableOf A) (effect : List A → List A) → (0 == its.number) ≡ false → Does g b c (Ok n) (Changes its effect)
          → ((flat : FlatLists) (office : OfficeLists) → flat_in (state g b).now.trees ≡ Some flat → AreOf flat office → Possible office (InMeeting id what) → length rows ≡ length (further_in id flat.sessions)
          → Changes its effect (state g b) (state g c) → office_in (state g c).now.trees ≡ Some (applied office (InMeeting id what)))
          → Writes {T = Unit {0}} g a c (Ok tt) (InMeeting id what)
      counted_by what its effect apart does next = written_behind (Ok tt) (InMeeting id what) (λ clean office h can.
          let finds = found (early clean, h.desk) in
          let there = still_stands (state g a) (state g b) office finds.1 h in
          let done = does clean there.inside there.desk in
          let so : Becomes (InMeeting id what) (state g b) (state g c) = λ flat office held of can.
          let before = same_records (state g a) (state g b) flat finds.1 held in
          let count = as_many_mean table.sessions.means rows (further_in id flat.sessions) (finds.0 flat.sessions (all_held (state g a).now.trees flat before).sessions) in
          next flat office held of can count done in
          let stands = stands_after (state g b) (state g c) (InMeeting id what) its effect apart office there can done so in
          (stands.0, stands.1 ∙ same_declared (state g a) (state g b) finds.1))

      no_more : (k : ℕ) → k + 1 ≡ 1 → k ≡ 0
      no_more k h = omega (arith, h)

      -- the meeting has one session
      pub first_opened : length rows + 1 ≡ 1 → Does g b c (Ok n) (Sets table.meetings (first_opened_at id moment)) → Writes {T = Unit {0}} g a c (Ok tt) (InMeeting id (SetOpened moment))
      first_opened one does =
          counted_by (SetOpened moment) table.meetings (map (first_opened_at id moment)) refl does (λ flat office held of can count done.
          ap (λ (o : Option FlatLists). o >>= office_of_records) (table_changed (state g b) (state g c) flat held Meetings (map (first_opened_at id moment)) done)
          ∙ meeting_opened flat id office of can.before.differ moment (has_one flat office id (length rows) of count (no_more (length rows) one)))

      above_one : (k : ℕ) → 2 ≤ k → (k == 1) ≡ false
      above_one k h = grind (arith, nat_tests)

      -- it was adjourned, and the last session has this number
      pub last_opened : (number : ℕ) → number ≡ length rows + 1 → 2 ≤ number → Does g b c (Ok n) (Sets table.sessions (session_opened_at id number moment)) → Writes {T = Unit {0}} g a c (Ok tt) (InMeeting id (SetOpened moment))
      last_opened number is more does =
          counted_by (SetOpened moment) table.sessions (map (session_opened_at id number moment)) refl does (λ flat office held of can count done.
          ap (λ (o : Option FlatLists). o >>= office_of_records) (table_changed (state g b) (state g c) flat held Sessions (map (session_opened_at id number moment)) done)
          ∙ session_opened flat id number moment office of can.before.differ (has_last flat office id (length rows) of count number is (above_one number more)))

      -- one session more is added, with the number behind those, appointed for the moment
      pub session_written : (number : ℕ) → number ≡ length rows + 2 → Does g b c (Ok n) (Adds table.sessions (in_meeting id (record { number = number; item = session_on moment }))) → Writes {T = Unit {0}} g a c (Ok tt) (InMeeting id (AddSession moment))
      session_written number is does =
          let added = in_meeting id (record { number = number; item = session_on moment }) in
          counted_by (AddSession moment) table.sessions (λ was. was ++ added ∷ []) refl does (λ flat office held of can count done.
          ap (λ (o : Option FlatLists). o >>= office_of_records) (table_changed (state g b) (state g c) flat held Sessions (λ was. was ++ added ∷ []) done)
          ∙ session_added flat id number (session_on moment) office of can.before.differ (placed_in office id (AddSession moment) can) (has_next flat office id (length rows) of count number is))
