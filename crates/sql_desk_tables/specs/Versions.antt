-- Which tables note their version, whatever else stands beside.
use Rattle.std.specs.Prelude.{◌≡◌, ℕ, ◌==◌, false, List, [], ◌∷◌, Result, Ok, Err, IsTrue}
use Rattle.std.specs.List.{list_any}
use Rattle.sqlite.specs.Effect.{Database, Reads as Shows}
use Rattle.sqlite.specs.Given.{IsPlain}
use Rattle.sqlite.specs.Held.{Held, state}
use Rattle.sqlite.specs.Listing.{reads_listing, understood}
use Rattle.sqlite.specs.Order.{Row}
use Rattle.sqlite.specs.Schema.{Schema}
use Rattle.sqlite.specs.State.{Shown, State}
use Rattle.sqlite.specs.Table.{Table}
use Rattle.sqlite_resolve.specs.declared.compiled.Compiled.{Compiled}
use Rattle.sqlite_resolve.specs.declared.error.CompileError.{CompileError}
use Rattle.sqlite_schema.specs.declared.schema.Index.{Index}
use Rattle.sqlite_schema.specs.declared.schema.View.{View as Stored}
use Rattle.sqlite_trees.specs.declared.store.Store as store
use Rattle.sql_schema.specs.Contents.{desk}
use Rattle.sql_schema.specs.Statements.{IsRising, table_rows}
use Rattle.sql_schema.specs.Tables.{desk_table}
use Rattle.sql_schema.specs.SqlTexts.{listing_text}

-- the text that reads the version of the tables
abbrev pub version_text : List ℕ
version_text = listing_text desk_table

-- a connection to this database answers the text that reads the version with these rows, so the
-- database understands it, whatever its tables are
abbrev pub ShowsVersions : {S : Type 0} → store.Ghosts S → Database → List Row → Type 0
ShowsVersions {S} g db rows =
    (before after : Held S) × ((state g before).now ≡ db)
    × Shown version_text [] (state g before) (state g after) rows

-- these rows answer a statement, as it is understood
abbrev pub IsAnsweredBy : Result Compiled CompileError → Database → List Row → Type 0
IsAnsweredBy (Ok it) db rows = Shows it.command db [] rows
IsAnsweredBy (Err error) db rows = ⊥

-- over tables of this schema, the text that reads the version reads the table `desk` whole: the
-- rows that answer it are all rows of that table, in the order of their numbers
pub record NotesVersion (declared : Schema) : Type 0 where
  pub table : IsTrue (list_any (λ (t : Table). t.tree == desk.number) declared.tables)
  pub plain : IsPlain (understood declared version_text)
  pub listed : reads_listing declared version_text ≡ false
  pub whole : (db : Database) → IsRising (db.trees desk.number) → (rows : List Row)
      → IsAnsweredBy (understood declared version_text) db rows → rows ≡ table_rows desk db.trees

-- the tables note their version, and the numbers of the rows of the table that does rise
pub record AreNoted (s : State) : Type 0 where
  pub noted : NotesVersion s.now.schema
  pub rising : IsRising (s.now.trees desk.number)

-- a schema whose first table is `desk`, with any tables, indexes and views beside
abbrev pub beside_desk : List Table → List Index → List Stored → Schema
beside_desk others indexes views = record {
  tables = record desk_table { tree = desk.number } ∷ others;
  indexes = indexes;
  views = views;
}

-- tables of which `desk` is the first note their version, whatever stands beside
abbrev pub FirstTableNotes : Type 0
FirstTableNotes =
    (others : List Table) (indexes : List Index) (views : List Stored)
    → NotesVersion (beside_desk others indexes views)
