-- Files of records: a header, and rows under it.
use Rattle.std.specs.Prelude.{◌≡◌, ℕ, ◌+◌, true, Bool, List, [], ◌∷◌, ◌++◌, length, fold, Option, Some, None, Result, Ok, Err, if◌then◌else◌}
use Rattle.std.specs.Borrow.{Bor}
use Rattle.std.specs.Option.{unwrap_or}
use Rattle.csv.specs.Reading.{Ready, default_config, is_flexible, reader_config, reader_trim, records, strip_bom}
use Rattle.csv.specs.Records.{field_at}
use Rattle.csv.specs.declared.reader.Reader.{Reader}
use Rattle.csv.specs.declared.reader.Trim.TheVariants as trim
use Rattle.csv_import.specs.declared.fault.FileError.{FileError}
use Rattle.csv_import.specs.declared.fault.FileError.TheVariants.{BadRow}
use Rattle.csv_import.specs.declared.fault.Why.TheVariants as why
use Rattle.vocabulary.specs.ResultSteps.{◌>>=◌}

-- the records of a text, as `csv` reads them, a byte order mark at its front dropped
abbrev pub records_of : List ℕ → List (List (List ℕ))
records_of text = records default_config (strip_bom text)

-- the bytes that are left of a slice
abbrev pub left_of_slice : Bor (List ℕ) → Option (List ℕ)
left_of_slice slice = Some slice.now

-- each read is of one record, with the fields as they stand, however many there are
pub record ReadsRecords (reader : Reader (Bor (List ℕ))) : Type 0 where
  pub one_each : Ready reader
  pub untrimmed : reader_trim reader ≡ trim.None
  pub of_any_length : is_flexible reader ≡ true
  pub by_default : reader_config reader ≡ default_config

-- the field of a record in a column, counted from 0; nothing where the record has no such field
abbrev pub column : ℕ → List (List ℕ) → List ℕ
column place fields = unwrap_or (field_at fields place) []

-- the rows so far, and that of one record more, which stands on the line after theirs; the header
-- is line 1
abbrev pub one_row_more : {Row : Type 0} → (ℕ → List Row → List (List ℕ) → Result Row FileError)
    → List Row → List (List ℕ) → Result (List Row) FileError
one_row_more next_row found fields =
    next_row (length found + 2) found fields >>= λ row. Ok (found ++ row ∷ [])

module _ {Row : Type 0} (is_header : List (List ℕ) → Bool)
    (next_row : ℕ → List Row → List (List ℕ) → Result Row FileError) where
  -- one record more: the header first, and then a row
  abbrev pub one_record_more : Option (List Row) → List (List ℕ)
      → Result (Option (List Row)) FileError
  one_record_more None fields = if is_header fields then Ok (Some []) else Err (BadRow 1 why.Header)
  one_record_more (Some found) fields =
      one_row_more next_row found fields >>= λ rows. Ok (Some rows)

  -- the rows of the records in turn, up to the first fault; none before the header
  abbrev pub parsed_rows : List (List (List ℕ)) → Result (Option (List Row)) FileError
  parsed_rows table =
      fold (λ so_far fields. so_far >>= λ found. one_record_more found fields) (Ok None) table

-- the rows under the header, and a fault where there is not even a header
abbrev pub under_header : {Row : Type 0} → Option (List Row) → Result (List Row) FileError
under_header None = Err (BadRow 1 why.Header)
under_header (Some rows) = Ok rows

-- the rows under the header of a file, of records as `csv` reads them, or its first fault
abbrev pub table_of : {Row : Type 0} → (List (List ℕ) → Bool)
    → (ℕ → List Row → List (List ℕ) → Result Row FileError) → List ℕ → Result (List Row) FileError
table_of is_header next_row bytes =
    parsed_rows is_header next_row (records_of bytes) >>= under_header
