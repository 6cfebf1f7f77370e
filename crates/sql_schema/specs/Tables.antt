-- The tables of the desk, as the database reads their definitions: those of version 1, and behind
-- them those that version 2 adds.
use Prim.Native.String.{String}
use Rattle.sqlite.specs.Collation.TheVariants.{Binary}
use Rattle.std.specs.Prelude.{Bool, true, false, [], ◌∷◌, ◌++◌, Some, None, codes, List, ℕ}
use Rattle.sqlite.specs.declared.types.Value.TheVariants.{Null}
use Rattle.sqlite.specs.Table.{Table}
use Rattle.sqlite.specs.Schema.{Schema}
use Rattle.sqlite.specs.Kind.{Kind}
use Rattle.sqlite.specs.Kind.TheVariants.{Integer, Text, Any}
use Rattle.sqlite.specs.Change.{created, indexed}
use Rattle.sqlite_schema.specs.declared.schema.Column.{Column}
use Rattle.sqlite_schema.specs.declared.schema.Index.{Index}
use Rattle.sqlite_schema.specs.declared.schema.Reference.{Reference}
use Rattle.sqlite_schema.specs.declared.schema.Action.TheVariants.{NoAction}
use Rattle.sqlite_value.specs.Keys.{plain}

-- ---- columns

-- a column of that name, which holds values of one kind alone
abbrev pub a_column : List ℕ → Kind → Bool → Column
a_column name kind not_null = record {
  name = name;
  kind = kind;
  is_strict = true;
  not_null = not_null;
  default = Null;
  collation = Binary;
}

-- a text, or a number, that each row has
abbrev pub text : String → Column
text name = a_column (codes name) Text true

abbrev pub number : String → Column
number name = a_column (codes name) Integer true

-- a text, or a number, that a row may be without
abbrev pub text_if_any : String → Column
text_if_any name = a_column (codes name) Text false

abbrev pub number_if_any : String → Column
number_if_any name = a_column (codes name) Integer false

-- a column of values of any kind
abbrev pub anything : String → Column
anything name = record (a_column (codes name) Any false) { is_strict = false }

-- ---- forms of tables

-- a table of that name with these columns, and with no key
abbrev pub plain_table : String → List Column → Table
plain_table name columns = record {
  name = codes name;
  tree = 0;
  columns = columns;
  key = None;
  primary = [];
  uniques = [];
  orders = [];
  checks = [];
  references = [];
  computed = [];
  stamps = record { places = []; terms = []; formats = [] };
  is_counted = false;
}

-- no two rows have the same in these columns
abbrev pub unique : List ℕ → Table → Table
unique columns table = record table { uniques = columns ∷ []; orders = plain ∷ [] }

-- a table whose rows are kept by the number in their first column
abbrev pub numbered_table : String → List Column → Table
numbered_table name columns = record (plain_table name columns) { key = Some 0; primary = 0 ∷ [] }

-- a table in order of receipt: each row has a number of its own, which no later row has
abbrev pub received_table : String → List Column → Table
received_table name columns =
    record (numbered_table name (number_if_any "seq" ∷ columns)) { is_counted = true }

-- the column names a meeting that stands
abbrev pub to_meetings : ℕ → Reference
to_meetings at = record {
  columns = at ∷ [];
  parent = codes "meetings";
  parent_columns = codes "meeting" ∷ [];
  on_delete = NoAction;
  on_update = NoAction;
  is_deferred = false;
}

-- a table of rows of the meetings, in order of receipt
abbrev pub filed_table : String → List Column → Table
filed_table name columns =
    record (received_table name (text "meeting" ∷ columns)) { references = to_meetings 2 ∷ [] }

-- a table of rows of the meetings that are known by the meeting and what stands in that column
abbrev pub known_table : ℕ → String → List Column → Table
known_table by name columns =
    unique (1 ∷ by ∷ [])
    (record (plain_table name (text "meeting" ∷ columns)) {
      primary = 1 ∷ by ∷ [];
      references = to_meetings 1 ∷ [];
    })

-- a table of rows of the meetings, of which each has the name or number of the next column once
abbrev pub once_table : String → List Column → Table
once_table = known_table 2

-- ---- the tables of version 1

-- where the database keeps which numbers it gave
abbrev pub sequence : Table
sequence = plain_table "sqlite_sequence" (anything "name" ∷ anything "seq" ∷ [])

abbrev pub desk_table : Table
desk_table = numbered_table "desk" (number "one" ∷ number "version" ∷ [])

abbrev pub keys_table : Table
keys_table = record (plain_table "keys" (text "party" ∷ text "secret" ∷ [])) {
  primary = 1 ∷ [];
  uniques = (1 ∷ []) ∷ (2 ∷ []) ∷ [];
  orders = plain ∷ plain ∷ [];
}

abbrev pub closed_table : Table
closed_table = numbered_table "closed" (number "day" ∷ [])

abbrev pub meetings_table : Table
meetings_table =
    unique (2 ∷ [])
    (received_table "meetings"
    (text "meeting" ∷ text "company" ∷ text "kind" ∷ number "given" ∷ number "appointed"
    ∷ number "record" ∷ number "loaded" ∷ number_if_any "opened" ∷ []))

abbrev pub resolutions_table : Table
resolutions_table = once_table "resolutions" (number "number" ∷ text "kind" ∷ text "body" ∷ [])

abbrev pub register_table : Table
register_table =
    once_table "register"
    (text "member" ∷ text "kind" ∷ text "name" ∷ number "shares" ∷ number "paid" ∷ [])

abbrev pub appointments_table : Table
appointments_table =
    unique (2 ∷ 3 ∷ 4 ∷ [])
    (filed_table "appointments"
    (text "member" ∷ number "number" ∷ text "proxy" ∷ number "first" ∷ number "last"
    ∷ text "instructions" ∷ number "moment" ∷ []))

abbrev pub endings_table : Table
endings_table =
    unique (2 ∷ 3 ∷ 4 ∷ [])
    (filed_table "endings" (text "member" ∷ number "number" ∷ number "moment" ∷ []))

abbrev pub authorities_table : Table
authorities_table =
    unique (2 ∷ 3 ∷ 4 ∷ [])
    (filed_table "authorities" (text "corporation" ∷ text "person" ∷ number "moment" ∷ []))

abbrev pub presences_before_sessions_table : Table
presences_before_sessions_table =
    unique (2 ∷ 3 ∷ []) (filed_table "presences" (text "party" ∷ number "moment" ∷ []))

abbrev pub demands_before_sessions_table : Table
demands_before_sessions_table =
    unique (2 ∷ 3 ∷ 4 ∷ [])
    (filed_table "demands" (number "resolution" ∷ text "party" ∷ number "moment" ∷ []))

abbrev pub polls_before_sessions_table : Table
polls_before_sessions_table =
    once_table "polls"
    (number "resolution" ∷ number "ordered" ∷ number "take" ∷ number "chair"
    ∷ number_if_any "started" ∷ number_if_any "closed" ∷ number_if_any "votes_for"
    ∷ number_if_any "votes_against" ∷ number_if_any "withheld" ∷ number_if_any "eligible" ∷ [])

abbrev pub casts_table : Table
casts_table =
    filed_table "casts"
    (number "resolution" ∷ text "voter" ∷ text "capacity" ∷ text_if_any "member"
    ∷ number_if_any "first" ∷ number_if_any "last" ∷ text_if_any "way" ∷ number "moment" ∷ [])

-- ---- those of version 2: further sessions, and what is of a session

abbrev pub sessions_table : Table
sessions_table =
    once_table "sessions"
    (number "number" ∷ number "appointed" ∷ number_if_any "opened" ∷ [])

abbrev pub presences_table : Table
presences_table =
    unique (2 ∷ 3 ∷ 4 ∷ [])
    (filed_table "presences2" (number "session" ∷ text "party" ∷ number "moment" ∷ []))

abbrev pub demands_table : Table
demands_table =
    unique (2 ∷ 3 ∷ 4 ∷ 5 ∷ [])
    (filed_table "demands2"
    (number "session" ∷ number "resolution" ∷ text "party" ∷ number "moment" ∷ []))

abbrev pub polls_table : Table
polls_table =
    known_table 3 "polls2"
    (number "session" ∷ number "resolution" ∷ number "ordered" ∷ number "take" ∷ number "chair"
    ∷ number_if_any "started" ∷ number_if_any "closed" ∷ number_if_any "votes_for"
    ∷ number_if_any "votes_against" ∷ number_if_any "withheld" ∷ number_if_any "eligible" ∷ [])

-- ---- the tables in the order in which they are made

abbrev pub no_schema : Schema
no_schema = record { tables = []; indexes = []; views = [] }

abbrev pub up_to_desk : Schema
up_to_desk = created no_schema desk_table

abbrev pub up_to_keys : Schema
up_to_keys = created up_to_desk keys_table

abbrev pub up_to_closed : Schema
up_to_closed = created up_to_keys closed_table

abbrev pub up_to_meetings : Schema
up_to_meetings = created (created up_to_closed meetings_table) sequence

abbrev pub up_to_resolutions : Schema
up_to_resolutions = created up_to_meetings resolutions_table

abbrev pub up_to_register : Schema
up_to_register = created up_to_resolutions register_table

abbrev pub up_to_appointments : Schema
up_to_appointments = created up_to_register appointments_table

abbrev pub up_to_endings : Schema
up_to_endings = created up_to_appointments endings_table

abbrev pub up_to_authorities : Schema
up_to_authorities = created up_to_endings authorities_table

abbrev pub up_to_presences_before_sessions : Schema
up_to_presences_before_sessions = created up_to_authorities presences_before_sessions_table

abbrev pub up_to_demands_before_sessions : Schema
up_to_demands_before_sessions =
    created up_to_presences_before_sessions demands_before_sessions_table

abbrev pub up_to_polls_before_sessions : Schema
up_to_polls_before_sessions = created up_to_demands_before_sessions polls_before_sessions_table

abbrev pub up_to_casts : Schema
up_to_casts = created up_to_polls_before_sessions casts_table

-- ---- indexes, by which a party's rows are found

-- an index on these columns of the table of that number
abbrev pub an_index : String → ℕ → List ℕ → Index
an_index name table columns = record {
  name = codes name;
  tree = 0;
  table = table;
  columns = columns;
  order = plain;
  is_unique = false;
}

abbrev pub appointments_by_proxy : Index
appointments_by_proxy = an_index "appointments_by_proxy" 12 (2 ∷ 5 ∷ [])

abbrev pub up_to_appointments_by_proxy : Schema
up_to_appointments_by_proxy =
    indexed up_to_casts (record appointments_table { tree = 12 }) appointments_by_proxy

abbrev pub authorities_by_person : Index
authorities_by_person = an_index "authorities_by_person" 16 (2 ∷ 4 ∷ [])

abbrev pub up_to_authorities_by_person : Schema
up_to_authorities_by_person =
    indexed up_to_appointments_by_proxy (record authorities_table { tree = 16 })
    authorities_by_person

abbrev pub demands_before_sessions_by_party : Index
demands_before_sessions_by_party = an_index "demands_by_party" 20 (2 ∷ 4 ∷ [])

abbrev pub up_to_demands_before_sessions_by_party : Schema
up_to_demands_before_sessions_by_party =
    indexed up_to_authorities_by_person (record demands_before_sessions_table { tree = 20 })
    demands_before_sessions_by_party

abbrev pub casts_by_voter : Index
casts_by_voter = an_index "casts_by_voter" 24 (2 ∷ 4 ∷ [])

abbrev pub up_to_casts_by_voter : Schema
up_to_casts_by_voter =
    indexed up_to_demands_before_sessions_by_party (record casts_table { tree = 24 }) casts_by_voter

-- version 1
abbrev pub schema_one : Schema
schema_one = up_to_casts_by_voter

-- ---- what version 2 adds

abbrev pub up_to_sessions : Schema
up_to_sessions = created schema_one sessions_table

abbrev pub up_to_presences : Schema
up_to_presences = created up_to_sessions presences_table

abbrev pub up_to_demands : Schema
up_to_demands = created up_to_presences demands_table

abbrev pub up_to_polls : Schema
up_to_polls = created up_to_demands polls_table

abbrev pub presences_by_party : Index
presences_by_party = an_index "presences2_by_party" 31 (2 ∷ 4 ∷ [])

abbrev pub up_to_presences_by_party : Schema
up_to_presences_by_party =
    indexed up_to_polls (record presences_table { tree = 31 }) presences_by_party

abbrev pub demands_by_party : Index
demands_by_party = an_index "demands2_by_party" 33 (2 ∷ 5 ∷ [])

abbrev pub up_to_demands_by_party : Schema
up_to_demands_by_party =
    indexed up_to_presences_by_party (record demands_table { tree = 33 }) demands_by_party

abbrev pub casts_by_resolution : Index
casts_by_resolution = an_index "casts_by_resolution" 24 (2 ∷ 3 ∷ 4 ∷ [])

abbrev pub up_to_casts_by_resolution : Schema
up_to_casts_by_resolution =
    indexed up_to_demands_by_party (record casts_table { tree = 24 }) casts_by_resolution

-- version 2, which the desk makes and reads
abbrev pub desk_schema : Schema
desk_schema = up_to_casts_by_resolution

-- ---- the tables whose columns a file has to have

abbrev pub asked_one : List Table
asked_one =
    desk_table ∷ keys_table ∷ closed_table ∷ meetings_table ∷ resolutions_table ∷ register_table
    ∷ appointments_table ∷ endings_table ∷ authorities_table ∷ presences_before_sessions_table
    ∷ demands_before_sessions_table ∷ polls_before_sessions_table ∷ casts_table ∷ []

abbrev pub asked_two : List Table
asked_two =
    asked_one ++ sessions_table ∷ presences_table ∷ demands_table ∷ polls_table ∷ []
