-- The move of tables of version 1 to version 2.
use Rattle.std.specs.Prelude.{◌≡◌, ◌≢◌, ℕ, true, IsTrue, []}
use Rattle.sqlite.specs.State.{State}
use Rattle.sql_schema.specs.Contents as table
use Rattle.sql_schema.specs.Contents.{presences_before_sessions, demands_before_sessions, polls_before_sessions}
use Rattle.sql_schema.specs.CopiedRows.{Copied}
use Rattle.sql_schema.specs.Statements.{has_table, layout_one}
use Rattle.sql_schema.specs.Tables.{desk_schema}
use Rattle.sql_model.specs.OfficeRecords.{are_left_empty, flat_one, flat_two}
use Rattle.sql_model.specs.Standing.{IsVersion}

-- a table of version 1 whose rows stay: neither presences, demands or polls nor the version
pub record Stays (number : ℕ) : Type 0 where
  pub one : IsTrue (has_table layout_one number)
  pub presences : number ≢ presences_before_sessions.number
  pub demands : number ≢ demands_before_sessions.number
  pub polls : number ≢ polls_before_sessions.number
  pub desk : number ≢ table.desk.number

-- tables of version 1 are those of version 2: presences, demands and polls stand in its tables in
-- the first session, each under the number that it had, and nowhere else; the version is noted; and
-- all other rows stay. So the records are the same
pub record IsMoved (old new : State) : Type 0 where
  pub schema : new.now.schema ≡ desk_schema
  pub version : IsVersion new
  pub sessions : new.now.trees table.sessions.number ≡ []
  pub presences : Copied presences_before_sessions table.presences old.now.trees new.now.trees
  pub demands : Copied demands_before_sessions table.demands old.now.trees new.now.trees
  pub polls : Copied polls_before_sessions table.polls old.now.trees new.now.trees
  pub left : are_left_empty new.now.trees ≡ true
  pub others : (number : ℕ) → Stays number → new.now.trees number ≡ old.now.trees number
  pub records : flat_two new.now.trees ≡ flat_one old.now.trees
