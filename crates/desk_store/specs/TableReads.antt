-- What is read of the office for which the tables stand, and what is written of a decision.
use Rattle.std.specs.Prelude.{◌≡◌, ℕ, Bool, List, Option, Some, None, Result, OnOk, IsTrue}
use Rattle.sqlite.specs.Effect.{IsDatabase}
use Rattle.sqlite.specs.Held.{Held, state}
use Rattle.sqlite.specs.State.{HasCleanDisk, KeepsCommit, Survives}
use Rattle.sqlite_trees.specs.declared.store.Store as store
use Rattle.desk_words.specs.Office.{is_office}
use Rattle.desk_words.specs.declared.caller.Caller.{Caller}
use Rattle.desk_words.specs.declared.change.Change.{Change}
use Rattle.desk_words.specs.declared.office.OfficeLists.{OfficeLists}
use Rattle.desk_words.specs.ViewTypes.{MeetingName, Moment, Party}
use Rattle.party_views.specs.Public.{PublicRecord}
use Rattle.party_views.specs.Views.{own_of, public_of}
use Rattle.party_views.specs.declared.views.OwnView.{OwnView}
use Rattle.sql_schema.specs.Statements.{DeclaresNothing}
use Rattle.desk_words.specs.Changes.{applied_if_any, can_make}
use Rattle.meeting_core.specs.KeyHolders.{caller_with}
use Rattle.sql_write.specs.Writes.{StandsIn}
use Rattle.sql_model.specs.Standing.{Stands}

-- this holds of the office for which the tables stood, where the disk returned what was written
abbrev pub HoldsOfDesk : {S : Type 0} → store.Ghosts S → Held S → Held S → (OfficeLists → Type 0)
    → Type 0
HoldsOfDesk g old new Holds =
    HasCleanDisk (state g new) → (office : OfficeLists) → Stands (state g old) office
    → Holds office

-- so it does where a transaction had begun, over tables that the database lists as they are
-- declared
abbrev pub HoldsOfDeskInTransaction : {S : Type 0} → store.Ghosts S → Held S → Held S
    → (OfficeLists → Type 0) → Type 0
HoldsOfDeskInTransaction g old new Holds =
    HasCleanDisk (state g new) → IsTrue (state g old).in_transaction → IsDatabase (state g old).now
    → (office : OfficeLists) → Stands (state g old) office → Holds office

-- the book is the office
abbrev pub IsBookOf : OfficeLists → OfficeLists → Type 0
IsBookOf office book = book ≡ office

-- it is the caller whose key that is
abbrev pub IsCallerWith : List ℕ → OfficeLists → Option Caller → Type 0
IsCallerWith key office caller = caller ≡ caller_with office.keys key

-- it is the public record of a meeting
abbrev pub IsPublic : MeetingName → OfficeLists → PublicRecord → Type 0
IsPublic meeting office preserved = preserved ≡ public_of office meeting

-- they are the own things of a party in a meeting at a moment
abbrev pub IsOwnView : Party → MeetingName → Moment → OfficeLists → OwnView → Type 0
IsOwnView party meeting now office own = own ≡ own_of office party meeting now

-- nothing is to be written, or a change that the office can make
abbrev pub can_make_if_any : OfficeLists → Option Change → Bool
can_make_if_any office None = is_office office
can_make_if_any office (Some change) = can_make office change

-- what writing a change, or nothing, ensures of tables that are an office
pub record WritesIfAny {S T E : Type 0} (g : store.Ghosts S) (old new : Held S)
    (result : Result T E) (change : Option Change) : Type 0 where
  pub written : HasCleanDisk (state g new) → (office : OfficeLists) → StandsIn office (state g old)
      → IsTrue (can_make_if_any office change)
      → OnOk result (StandsIn (applied_if_any office change) (state g new)
      × DeclaresNothing (state g old) (state g new))
  pub still : change ≡ None → new ≡ old
  pub preserved : HasCleanDisk (state g new) → KeepsCommit (state g old) (state g new)
  pub crash : Survives (state g old) (state g new) (λ _. ⊥)
