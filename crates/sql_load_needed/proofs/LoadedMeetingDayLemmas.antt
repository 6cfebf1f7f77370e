-- Nothing is read but the version, which shows that the tables are open.
use Rattle.std.proofs.Common.{◌≡◌, List, Ok, Err, Result, refl, sym, subst}
use Rattle.sqlite.specs.declared.error.Error.{Error}
use Rattle.sqlite.specs.Held.{Held, state}
use Rattle.sqlite.specs.Order.{Row}
use Rattle.sqlite.specs.State.{HasCleanDisk, KeepsCommit, Survives}
use Rattle.sqlite_trees.specs.declared.store.Store as store
use Rattle.desk_words.specs.declared.office.OfficeLists.{OfficeLists}
use Rattle.sql_schema.specs.Contents as table
use Rattle.sql_schema.specs.Statements.{ChangesNothing, IsRead, ReadsTable, WasOpen}
use Rattle.sql_lemmas.proofs.Frames.{as_one}
use Rattle.sql_desk_tables.specs.Versions.{AreNoted, NotesVersion}
use Rattle.sql_desk_tables.proofs.TableDeskLemmas.{desk_notes}
use Rattle.sql_load.specs.LoadResults.{fault_of_error}
use Rattle.sql_load.specs.declared.fault.LoadError.{LoadError}
use Rattle.sql_load.specs.TableLookUps.{HoldsOfStoredOffice}
use Rattle.sql_load.proofs.FoundRecordLemmas.{error_returns}

module _ {S X : Type 0} (g : store.Ghosts S) (a b : Held S) (preserved : HasCleanDisk (state g b) → NotesVersion (state g a).now.schema → KeepsCommit (state g a) (state g b))
    (was_open : WasOpen (state g a) (state g b)) (crash : Survives (state g a) (state g b) (λ _. ⊥)) (R : OfficeLists → X → Type 0) where
  noted : IsRead g a b → AreNoted (state g a)
  noted read = record { noted = desk_notes (state g a).now.schema (as_one (state g a).now.schema read.1.schema); rising = read.1.rising 0 refl }

  changes : ChangesNothing g a b
  changes = record { preserved = λ read. preserved read.0 (noted read).noted; was_open = was_open; crash = crash }

  -- what needs no reading
  pub asked_so : {V : Type 0} (items : V → List Row) (v : V) (x : X) → (HasCleanDisk (state g b) → AreNoted (state g a) → ReadsTable g a b table.desk (items v)) → ((office : OfficeLists) → R office x) → HoldsOfStoredOffice g a b (Ok x) R
  asked_so items v x reads so = record {
    holds = λ read office holds preserved. so office;
    same = λ read. (reads read.0 (noted read)).1;
    changes = changes;
  }

  -- and why the version was not read
  pub asked_stop : (e : Error) (r : Result X LoadError) → r ≡ Err (fault_of_error e) → HoldsOfStoredOffice g a b r R
  asked_stop e r is = subst (λ (q : Result X LoadError). HoldsOfStoredOffice g a b q R) (sym is) (record {
    holds = λ read office holds preserved. error_returns (R office) e;
    same = λ _. tt;
    changes = changes;
  })
