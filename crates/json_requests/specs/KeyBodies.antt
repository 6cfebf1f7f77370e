-- The loading of keys.
use Rattle.std.specs.Prelude.{ℕ, List, [], ◌∷◌, Option, None, Some, codes}
use Rattle.serde_json.specs.Data.{Data}
use Rattle.serde_json.specs.Find.{at}
use Rattle.vocabulary.specs.Names.{key_of}
use Rattle.desk_words.specs.Callers.{caller_of}
use Rattle.desk_words.specs.SortedLists.{key_list_of}
use Rattle.desk_words.specs.declared.caller.KeyRow.{KeyRow}
use Rattle.vocabulary.specs.OptionSteps.{guard, ◌>>=◌}
use Rattle.json_requests.specs.JsonFields.{Fields, has_items, items_in, parsed_at, all_items}

-- a row is a pair of a caller and its key
unfoldable pub key_row_of : Data → Option KeyRow
key_row_of d = do
  pair ← guard (has_items 2 d)
  caller ← parsed_at caller_of (at 0 d)
  secret ← parsed_at key_of (at 1 d)
  Some (record { caller = caller; secret = secret })

-- the list that the rows at a place make
unfoldable pub key_rows_in : Option Data → Option (List KeyRow)
key_rows_in place = do
  items ← items_in place
  rows ← all_items key_row_of items
  key_list_of rows

-- the fields of the loading of keys
abbrev pub keys_fields : List (List ℕ)
keys_fields = codes "rows" ∷ []

-- the keys that one field loads
unfoldable pub keys_body : Fields → Option (List KeyRow)
keys_body (rows_at ∷ []) = key_rows_in rows_at
keys_body other = None
