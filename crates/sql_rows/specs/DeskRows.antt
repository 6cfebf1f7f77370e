-- What a row of the desk's version, the keys and the closed days means.
use Rattle.std.specs.Prelude.{ℕ, ◌==◌, Option, Some}
use Rattle.sqlite.specs.Order.{Row}
use Rattle.vocabulary.specs.Names.{key_of}
use Rattle.desk_words.specs.Callers.{caller_of}
use Rattle.desk_words.specs.declared.caller.KeyRow.{KeyRow}
use Rattle.sql_rows.specs.declared.stored_records.Version.{Version}
use Rattle.vocabulary.specs.OptionSteps.{◌>>=◌, guard}
use Rattle.sql_rows.specs.ColumnValues.{parsed_in, number_in, day_in}

-- the version of the tables, in the one row of its table
unfoldable pub version_in : Row → Option Version
version_in cells = do
  one ← number_in cells 0
  first ← guard (one == 1)
  number ← number_in cells 1
  Some (record { number = number })

-- a caller and its key; the office's caller is `OFFICE`
unfoldable pub key_row_in : Row → Option KeyRow
key_row_in cells = do
  caller ← parsed_in caller_of cells 0
  secret ← parsed_in key_of cells 1
  Some (record { caller = caller; secret = secret })

-- a closed day (section 1173)
unfoldable pub closed_in : Row → Option ℕ
closed_in cells = day_in cells 0
