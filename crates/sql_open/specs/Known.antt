-- The versions of the tables that are opened, and what is known of tables of one of them.
use Rattle.std.specs.Prelude.{◌≡◌, [], ◌∷◌, List, Some}
use Rattle.sqlite.specs.Effect.{Database}
use Rattle.sqlite.specs.Order.{Row}
use Rattle.sqlite.specs.Schema.{Schema}
use Rattle.sqlite.specs.State.{State}
use Rattle.sqlite_trees.specs.declared.store.Store as store
use Rattle.sql_rows.specs.Meanings.{all_meanings}
use Rattle.sql_rows.specs.declared.stored_records.Version.{Version}
use Rattle.sql_schema.specs.Contents.{desk}
use Rattle.sql_schema.specs.Statements.{HasTables, layout_two}
use Rattle.sql_schema.specs.Tables.{schema_one}
use Rattle.sql_model.specs.MigratedRecords.{IsMoved}
use Rattle.sql_model.specs.Standing.{Edition, IsVersionOf, one, two}
use Rattle.sql_desk_tables.specs.ColumnChecks.{HasColumnsOf}
use Rattle.sql_desk_tables.specs.Versions.{NotesVersion, ShowsVersions}
use Rattle.sql_open.specs.declared.version.KnownVersion.{KnownVersion}
use Rattle.sql_open.specs.declared.version.KnownVersion.TheVariants.{One, Two}

-- what the version is
abbrev pub edition_of : KnownVersion → Edition
edition_of One = one
edition_of Two = two

-- the tables of the version are made as its program makes them: those of version 1 with their
-- indexes, and no others; those of version 2 whatever stands beside them
abbrev pub IsMadeAs : KnownVersion → Schema → Type 0
IsMadeAs One schema = schema ≡ schema_one
IsMadeAs Two schema = HasTables layout_two schema

-- the text that reads the version shows such a one, and it alone, whatever the tables are
pub record ShowsSuch {S : Type 0} (g : store.Ghosts S) (db : Database) (IsSuch : Version → Type 0)
    : Type 0 where
  pub rows : List Row
  pub shown : ShowsVersions g db rows
  pub version : Version
  pub means : all_meanings desk.means rows ≡ Some (version ∷ [])
  pub such : IsSuch version

-- it shows this version
abbrev pub ShowsKnown : {S : Type 0} → store.Ghosts S → Database → KnownVersion → Type 0
ShowsKnown g db known = ShowsSuch g db (λ version. version ≡ (edition_of known).version)

-- tables showed this version; they noted it, where they note a version; and each column that is
-- read of it stood
pub record WereOf {S : Type 0} (g : store.Ghosts S) (known : KnownVersion) (s : State)
    : Type 0 where
  pub shown : ShowsKnown g s.now known
  pub noted : NotesVersion s.now.schema → IsVersionOf (edition_of known) s
  pub columns : HasColumnsOf (edition_of known).asked s.now.schema

-- tables of version 2 are opened as they are; those of version 1 were made as its program makes
-- them, and are moved
abbrev pub AreOpened : KnownVersion → State → State → Type 0
AreOpened One old new = IsMadeAs One old.now.schema × IsMoved old new
AreOpened Two old new = new.now ≡ old.now
