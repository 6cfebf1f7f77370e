-- Key files.
use Rattle.std.specs.Prelude.{ℕ, Bool, not, ◌&&◌, ◌==◌, nat_lt, bytes_eq, List, length, Result, Ok, codes, ok_or}
use Rattle.std.specs.List.{list_any}
use Rattle.seq.specs.Sorting.{sort_by}
use Rattle.vocabulary.specs.Names.{key_of}
use Rattle.desk_words.specs.Callers.{caller_of}
use Rattle.desk_words.specs.SortedLists.{caller_before, same_caller, same_secret}
use Rattle.desk_words.specs.declared.limits.TheConstants.{MOST_KEYS}
use Rattle.desk_words.specs.declared.caller.KeyRow.{KeyRow}
use Rattle.csv_import.specs.declared.fault.FileError.{FileError}
use Rattle.csv_import.specs.declared.fault.FileError.TheVariants.{BadRow, Twice}
use Rattle.csv_import.specs.declared.fault.Why.TheVariants as why
use Rattle.vocabulary.specs.ResultSteps.{ensure, ◌>>=◌}
use Rattle.csv_import.specs.CsvTables.{column, table_of}

-- the record names the columns of a key file
abbrev pub is_key_header : List (List ℕ) → Bool
is_key_header fields =
    (length fields == 2)
    && bytes_eq (column 0 fields) (codes "party")
    && bytes_eq (column 1 fields) (codes "key")

-- the key that a record spells by itself: the office or a party, and its key
unfoldable pub key_in : ℕ → List (List ℕ) → Result KeyRow FileError
key_in line fields = do
  two ← ensure (length fields == 2) (BadRow line why.Fields)
  caller ← ok_or (caller_of (column 0 fields)) (BadRow line why.Party)
  secret ← ok_or (key_of (column 1 fields)) (BadRow line why.Key)
  Ok (record { caller = caller; secret = secret })

-- the next key, after those so far: of the first `MOST_KEYS`, another caller's, and another key
unfoldable pub next_key : ℕ → List KeyRow → List (List ℕ) → Result KeyRow FileError
next_key line found fields = do
  room ← ensure (nat_lt (length found) MOST_KEYS) (BadRow line why.Rows)
  row ← key_in line fields
  other_caller ← ensure (not (list_any (λ earlier. same_caller earlier row) found)) (Twice line)
  other_secret ← ensure (not (list_any (λ earlier. same_secret earlier row) found)) (Twice line)
  Ok row

-- the keys in the order of callers
abbrev pub as_key_list : List KeyRow → Result (List KeyRow) FileError
as_key_list rows = Ok (sort_by caller_before rows)

-- the keys that the bytes of a file spell, or its first fault
unfoldable pub key_file : List ℕ → Result (List KeyRow) FileError
key_file bytes = table_of is_key_header next_key bytes >>= as_key_list
