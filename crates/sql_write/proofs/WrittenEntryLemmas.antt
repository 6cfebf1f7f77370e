-- What is entered into the lists of a meeting.
use Rattle.std.proofs.Common.{◌≡◌, ℕ, List, [], ◌∷◌, ◌++◌, Some, Ok, Option, sym, ap, subst, ◌∙◌}
use Rattle.sqlite.specs.Held.{Held, state}
use Rattle.sqlite_trees.specs.declared.store.Store as store
use Rattle.desk_words.specs.declared.change.Change.TheVariants.{InMeeting}
use Rattle.desk_words.specs.declared.change.Entry.{Entry}
use Rattle.desk_words.specs.declared.change.MeetingChange.TheVariants.{Enter}
use Rattle.desk_words.specs.declared.office.MeetingLists.{MeetingLists}
use Rattle.vocabulary.specs.OptionSteps.{◌>>=◌}
use Rattle.sql_model.specs.OfficeRecords.{FlatLists, office_of_records}
use Rattle.sql_schema.specs.Statements.{Adds, CommitsNothing, Does}
use Rattle.sql_model.proofs.FlatChanges.{table_changed}
use Rattle.sql_model.proofs.Names.{ItemOf, ListName, list_stored_as, not_first, owned}
use Rattle.sql_model.proofs.Names.TableName.{Each}
use Rattle.sql_model.proofs.ListChanges.{list_of, received}
use Rattle.sql_model.proofs.ModelOfficeLemmas.{with_changed}
use Rattle.sql_model.proofs.ModelRecordLemmas.{in_meeting}
use Rattle.desk_words.specs.Changes.{entered}
use Rattle.sql_write.specs.Writes.{Writes}
use Rattle.sql_write.proofs.Possible.{placed_in, written_by}

-- what was received stands last in its table, and so in the list of its meeting
pub entered_writes : {S : Type 0} (g : store.Ghosts S) (old new : Held S) (id : List ℕ) (k : ℕ) {it what : Entry} → it ≡ what → (n : ListName) (added : ItemOf n) → ((l : List (ItemOf n)) → (owned n).arrange l ≡ l)
    → ((x : MeetingLists) → (owned n).with_own ((owned n).own x ++ added ∷ []) x ≡ entered what x) → CommitsNothing g old new → Does g old new (Ok k) (Adds (list_stored_as n).table (in_meeting id added))
    → Writes {T = Unit {0}} g old new (Ok tt) (InMeeting id (Enter it))
entered_writes g old new id k {what = what} is n added as_it_came same commits does =
    subst (λ it. Writes {T = Unit {0}} g old new (Ok tt) (InMeeting id (Enter it))) (sym is)
    (written_by g old new (InMeeting id (Enter what)) (list_stored_as n).table (λ was. was ++ in_meeting id added ∷ []) k (not_first n) does commits (λ done flat office held of can.
    ap (λ (o : Option FlatLists). o >>= office_of_records) (table_changed (state g old) (state g new) flat held (Each n) (λ was. was ++ in_meeting id added ∷ []) done)
    ∙ received (list_of n) as_it_came flat id added office of can.before.differ (placed_in office id (Enter what) can)
    ∙ ap (λ (change : MeetingLists → MeetingLists). Some (with_changed id change office)) (λ i x. same x i)))
