-- A look-up in a transaction over the tables.
use Rattle.std.proofs.Common.{Option, Result, OnOk, refl}
use Rattle.std.specs.Prelude.{MatchResult}
use Rattle.std.proofs.lemmas.Result.{on_ok_weaker}
use Rattle.sqlite.specs.Held.{Held, state}
use Rattle.sqlite.specs.State.{HasCleanDisk}
use Rattle.sqlite_trees.specs.declared.store.Store as store
use Rattle.desk_words.specs.ViewTypes.{MeetingName}
use Rattle.desk_words.specs.declared.office.MeetingLists.{MeetingLists}
use Rattle.desk_words.specs.declared.office.OfficeLists.{OfficeLists}
use Rattle.party_views.specs.Views.{meeting_at}
use Rattle.sql_load.specs.declared.fault.LoadError.{LoadError}
use Rattle.sql_load_needed.specs.LookUpSteps.{KeepsStoredTables, LeavesTables, ShowsMeeting}
use Rattle.sql_load.specs.TableLookUps.{HoldsOfStoredOffice, IsLookUpFailure}
use Rattle.sql_load.proofs.StoredOfficeLemmas.{returns_weaker}

module _ {S X : Type 0} (g : store.Ghosts S) (a b : Held S) (result : Result X LoadError) where
  -- what is returned of the meeting that the tables show is returned of their office
  pub of_returned : (meeting : MeetingName) (P : OfficeLists → X → Type 0) (Q : Option MeetingLists → X → Type 0) → (HasCleanDisk (state g b) → (found : Option MeetingLists) → ShowsMeeting g a meeting found → MatchResult result (Q found) IsLookUpFailure)
      → OnOk result (KeepsStoredTables g a b) → LeavesTables g a b → ((office : OfficeLists) (x : X) → Q (meeting_at office meeting) x → P office x) → HoldsOfStoredOffice g a b result P
  of_returned meeting P Q returned preserved left next = record {
    holds = λ read office holds is.
        let shows : ShowsMeeting g a meeting (meeting_at office meeting) = record { desk = read.1; office = office; holds = holds; preserved = is; is = refl } in
        returns_weaker (Q (meeting_at office meeting)) (P office) result (next office) (returned read.0 (meeting_at office meeting) shows);
    same = λ read. on_ok_weaker result (λ (keeps : KeepsStoredTables g a b). keeps.same read) preserved;
    changes = left.changes;
  }
