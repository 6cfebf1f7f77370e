-- The versions of the tables, what it means that tables stand for an office, and which are a later
-- version's or no desk's.
use Rattle.std.specs.Prelude.{◌≡◌, ◌≤◌, List, [], ◌∷◌, Option, Some, false, IsTrue}
use Rattle.sqlite.specs.State.{State}
use Rattle.sqlite.specs.Table.{Table}
use Rattle.sqlite.specs.Tree.{Trees}
use Rattle.desk_words.specs.declared.office.OfficeLists.{OfficeLists}
use Rattle.desk_words.specs.Office.{is_office}
use Rattle.sql_rows.specs.declared.stored_records.Version.{Version}
use Rattle.vocabulary.specs.OptionSteps.{◌>>=◌}
use Rattle.sql_schema.specs.Contents.{desk}
use Rattle.sql_schema.specs.Statements.{IsDeskOf, Layout, layout_one, layout_two, records_in}
use Rattle.sql_schema.specs.Tables.{asked_one, asked_two}
use Rattle.sql_model.specs.OfficeRecords.{FlatLists, flat_one, flat_two, office_of_records}

-- a version of the tables: how they are declared, its number, the tables whose columns a file has
-- to have, and what their rows mean
pub record Edition : Type 0 where
  pub layout : Layout
  pub version : Version
  pub asked : List Table
  pub flat : Trees → Option FlatLists

-- version 1, whose meetings have one session
abbrev pub one : Edition
one = record {
  layout = layout_one;
  version = record { number = 1 };
  asked = asked_one;
  flat = flat_one;
}

-- version 2, which this desk makes and reads
abbrev pub two : Edition
two = record {
  layout = layout_two;
  version = record { number = 2 };
  asked = asked_two;
  flat = flat_two;
}

-- the lists of an office that tables of the version are, or nothing where their rows are none
abbrev pub office_by : Edition → Trees → Option OfficeLists
office_by edition trees = edition.flat trees >>= office_of_records

-- the tables note that they are of the version, once
abbrev pub IsVersionOf : Edition → State → Type 0
IsVersionOf edition s = records_in desk s.now.trees ≡ Some (edition.version ∷ [])

-- the tables are a desk's, of the version, and what they hold is the office
pub record StandsBy (edition : Edition) (s : State) (office : OfficeLists) : Type 0 where
  pub desk : IsDeskOf edition.layout s
  pub version : IsVersionOf edition s
  pub holds : office_by edition s.now.trees ≡ Some office
  pub preserved : IsTrue (is_office office)

-- what tables of the version hold is no office
abbrev pub HasNoOfficeBy : Edition → State → Type 0
HasNoOfficeBy edition s =
    (office : OfficeLists) → office_by edition s.now.trees ≡ Some office → is_office office ≡ false

-- the tables are of a later version than this desk knows, whatever else they hold
abbrev pub IsNewer : State → Type 0
IsNewer s =
    (version : Version) × (records_in desk s.now.trees ≡ Some (version ∷ []))
    × (3 ≤ version.number)

-- no version is noted, or more than one; versions are numbered from 1
abbrev pub HasNoVersion : State → Type 0
HasNoVersion s =
    (version : Version) → records_in desk s.now.trees ≡ Some (version ∷ []) → version.number ≡ 0

-- ---- of version 2

abbrev pub IsVersion : State → Type 0
IsVersion = IsVersionOf two

abbrev pub Stands : State → OfficeLists → Type 0
Stands = StandsBy two

abbrev pub HasNoOffice : State → Type 0
HasNoOffice = HasNoOfficeBy two
