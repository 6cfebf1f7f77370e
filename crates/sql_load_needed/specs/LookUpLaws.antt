-- What holds of look-ups in a transaction over the tables, one after another.
use Rattle.std.proofs.Common.{◌≡◌, Option, Some, sym, subst, ap, ◌∙◌}
use Rattle.sqlite.specs.Effect.{Database}
use Rattle.sqlite.specs.Held.{Held, state}
use Rattle.sqlite.specs.State.{HasCleanDisk}
use Rattle.sqlite_trees.specs.declared.store.Store as store
use Rattle.desk_words.specs.ViewTypes.{MeetingName}
use Rattle.desk_words.specs.declared.office.MeetingLists.{MeetingLists}
use Rattle.party_views.specs.Views.{meeting_at}
use Rattle.sql_model.specs.OfficeRecords.{office_in}
use Rattle.sql_load.proofs.ReadingLemmas.{changes_then, desk_same, read_first, read_second, unchanged_then}
use Rattle.sql_load.specs.declared.fault.LoadError.{LoadError}
use Rattle.sql_load.specs.declared.fault.LoadError.TheVariants.{Memory}
use Rattle.sql_load_needed.specs.LookUpSteps.{KeepsStoredTables, LeavesTables, ShowsMeeting}
use Rattle.sql_load.specs.TableLookUps.{IsLookUpFailure}

-- want of memory may be met
pub memory_may_fail : (fault : LoadError) → fault ≡ Memory → IsLookUpFailure fault
memory_may_fail fault is = subst IsLookUpFailure (sym is) tt

module _ {S : Type 0} (g : store.Ghosts S) where
  -- a meeting that was shown is shown by tables that are kept
  pub still_shows : (a b : Held S) (of to : MeetingName) → to ≡ of → KeepsStoredTables g a b
      → HasCleanDisk (state g b) → (found : Option MeetingLists) → ShowsMeeting g a of found
      → ShowsMeeting g b to found
  still_shows a b of to named keeps clean found shows =
      let same = keeps.same (clean, shows.desk) in
      record {
        desk = desk_same (state g a) (state g b) same shows.desk;
        office = shows.office;
        holds = subst (λ (d : Database). office_in d.trees ≡ Some shows.office) (sym same.0.now_is)
            shows.holds;
        preserved = shows.preserved;
        is = shows.is ∙ ap (meeting_at shows.office) (sym named);
      }

  pub leaves_then : (a b c : Held S) → KeepsStoredTables g a b → LeavesTables g b c
      → LeavesTables g a c
  leaves_then a b c one two = record {
    changes = changes_then g a b c one.same one.leaves.changes two.changes;
    was_clean = λ clean. one.leaves.was_clean (two.was_clean clean);
  }

  pub keeps_then : (a b c : Held S) → KeepsStoredTables g a b → KeepsStoredTables g b c
      → KeepsStoredTables g a c
  keeps_then a b c one two = record {
    same = λ read.
        let same = one.same (read_first g a b c two.leaves.changes.crash read) in
        unchanged_then (state g a) (state g b) (state g c) same
        (two.same (read_second g a b c same read));
    leaves = leaves_then a b c one two.leaves;
  }
