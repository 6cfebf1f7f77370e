-- The texts of statements, made of the tables that they are on.
use Rattle.sqlite.specs.Kind.{Kind}
use Rattle.sqlite.specs.Kind.TheVariants.{Integer, Text}
use Rattle.sqlite.specs.Table.{Table}
use Rattle.sqlite_schema.specs.declared.schema.Column.{Column}
use Rattle.sqlite_schema.specs.declared.schema.Index.{Index}
use Rattle.std.specs.Prelude.{ℕ, pred, List, [], ◌∷◌, ◌++◌, Option, Some, None, codes, drop, flat_map, if◌then◌else◌, length, map, slice_index_or, take}

-- the texts one after the other, with a comma between
abbrev pub with_commas : List (List ℕ) → List ℕ
with_commas [] = []
with_commas (first ∷ more) = first ++ flat_map (λ next. codes ", " ++ next) more

-- ---- the names of columns

abbrev pub names_of : Table → List (List ℕ)
names_of table = map (λ (c : Column). c.name) table.columns

-- those of the columns that a row is added with, and that are shown of it: where rows are counted
-- all but the first, which is the number that a row gets
abbrev pub given_names : Table → List (List ℕ)
given_names table = drop (if table.is_counted then 1 else 0) (names_of table)

-- that of the number of a row
abbrev pub number_name : Option ℕ → Table → List ℕ
number_name None table = codes "rowid"
number_name (Some at) table = slice_index_or (names_of table) at []

-- those at these places of a row, in parentheses
abbrev pub columns_text : Table → List ℕ → List ℕ
columns_text table places =
    codes " (" ++ with_commas (map (λ at. slice_index_or (names_of table) (pred at) []) places)
    ++ codes ")"

-- the names of a meeting and of what stands behind it, with a 1 between
abbrev pub with_one : List (List ℕ) → List (List ℕ)
with_one [] = []
with_one (meeting ∷ others) = meeting ∷ codes "1" ∷ others

-- ---- statements

-- asks whether all columns stand
abbrev pub asking_text : Table → List ℕ
asking_text table = codes "SELECT " ++ with_commas (names_of table) ++ codes " FROM " ++ table.name

-- shows the columns of the rows that pass, in the order of their numbers
abbrev pub shown_text : Table → List ℕ → List ℕ
shown_text table which =
    codes "SELECT " ++ with_commas (given_names table) ++ codes " FROM " ++ table.name ++ which
    ++ codes " ORDER BY " ++ number_name table.key table

-- the same of all rows
abbrev pub listing_text : Table → List ℕ
listing_text table = shown_text table []

-- the same of the rows that pass these tests
abbrev pub finding_text : Table → List ℕ → List ℕ
finding_text table tests = shown_text table (codes " WHERE " ++ tests)

-- adds a row of these values
abbrev pub inserting_text : List (List ℕ) → Table → List ℕ
inserting_text values table =
    codes "INSERT INTO " ++ table.name ++ codes " (" ++ with_commas (given_names table)
    ++ codes ") VALUES (" ++ with_commas values ++ codes ")"

-- the parameters of a statement
abbrev pub parameters : List (List ℕ)
parameters =
    codes "?1" ∷ codes "?2" ∷ codes "?3" ∷ codes "?4" ∷ codes "?5" ∷ codes "?6" ∷ codes "?7"
    ∷ codes "?8" ∷ codes "?9" ∷ codes "?10" ∷ codes "?11" ∷ codes "?12" ∷ []

-- adds a row of what is passed
abbrev pub adding_text : Table → List ℕ
adding_text table = inserting_text (take (length (given_names table)) parameters) table

-- adds the rows of a table of version 1, each under its own number, with the first session behind
-- the meeting
abbrev pub copying_text : Table → Table → List ℕ
copying_text one two =
    codes "INSERT INTO " ++ two.name ++ codes " ("
    ++ with_commas (number_name two.key two ∷ given_names two)
    ++ codes ") SELECT "
    ++ with_commas (number_name one.key one ∷ with_one (given_names one))
    ++ codes " FROM " ++ one.name ++ codes " ORDER BY " ++ number_name one.key one

-- ---- declarations

-- a column with no key
abbrev pub kind_text : Kind → List ℕ
kind_text Integer = codes " INTEGER"
kind_text Text = codes " TEXT"
kind_text _ = []

abbrev pub column_text : Column → List ℕ
column_text c = c.name ++ kind_text c.kind ++ (if c.not_null then codes " NOT NULL" else [])

-- the column of the number that a row gets, and that of the meeting that it is a row of
abbrev pub seq_column : List ℕ
seq_column = codes "seq INTEGER PRIMARY KEY AUTOINCREMENT"

abbrev pub meeting_column : List ℕ
meeting_column = codes "meeting TEXT NOT NULL REFERENCES meetings (meeting)"

-- makes a table whose first columns, and whose keys of several columns, are declared so
abbrev pub making_text : List (List ℕ) → List (List ℕ) → Table → List ℕ
making_text first keys table =
    codes "CREATE TABLE " ++ table.name ++ codes " ("
    ++ with_commas (first ++ map column_text (drop (length first) table.columns) ++ keys)
    ++ codes ") STRICT"

-- makes a table of the form of `filed_table`
abbrev pub filed_text : Table → List ℕ
filed_text table =
    making_text (seq_column ∷ meeting_column ∷ [])
    (map (λ places. codes "UNIQUE" ++ columns_text table places) table.uniques) table

-- makes a table of the form of `known_table`
abbrev pub once_text : Table → List ℕ
once_text table =
    making_text (meeting_column ∷ [])
    ((codes "PRIMARY KEY" ++ columns_text table table.primary) ∷ []) table

-- makes an index on the table
abbrev pub indexing_text : Table → Index → List ℕ
indexing_text table index =
    codes "CREATE INDEX " ++ index.name ++ codes " ON " ++ table.name
    ++ columns_text table index.columns
