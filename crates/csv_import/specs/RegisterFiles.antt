-- Register files (section 113).
use Rattle.std.specs.Prelude.{ℕ, Bool, not, ◌&&◌, ◌==◌, nat_le, nat_lt, bytes_eq, List, [], ◌∷◌, ◌++◌, length, Result, Ok, Err, codes, ok_or, if◌then◌else◌}
use Rattle.std.specs.List.{list_any}
use Rattle.seq.specs.Sorting.{sort_by}
use Rattle.vocabulary.specs.Kinds.{holder_kind_of}
use Rattle.vocabulary.specs.Names.{party_of}
use Rattle.vocabulary.specs.PlainTexts.{text_of}
use Rattle.vocabulary.specs.declared.range.TheConstants.{MOST_PLACES}
use Rattle.desk_words.specs.Registers.{all_shares, member_before, same_member}
use Rattle.desk_words.specs.declared.records.RegisterRow.{RegisterRow}
use Rattle.desk_words.specs.declared.limits.TheConstants.{MOST_PENCE, MOST_ROWS, MOST_SHARES}
use Rattle.csv_import.specs.declared.fault.FileError.{FileError}
use Rattle.csv_import.specs.declared.fault.FileError.TheVariants.{BadRow, Twice}
use Rattle.csv_import.specs.declared.fault.Why.TheVariants as why
use Rattle.vocabulary.specs.ResultSteps.{ensure, ◌>>=◌}
use Rattle.csv_import.specs.Decimals.{decimal_of, bounded}
use Rattle.csv_import.specs.CsvTables.{column, table_of}

-- the record names the columns of a register
abbrev pub is_register_header : List (List ℕ) → Bool
is_register_header fields =
    (length fields == 5)
    && bytes_eq (column 0 fields) (codes "member")
    && bytes_eq (column 1 fields) (codes "kind")
    && bytes_eq (column 2 fields) (codes "name")
    && bytes_eq (column 3 fields) (codes "shares")
    && bytes_eq (column 4 fields) (codes "paid")

-- the row that a record spells by itself: a member, its kind, its name, its shares, and the pence
-- paid up on each of them
unfoldable pub row_in : ℕ → List (List ℕ) → Result RegisterRow FileError
row_in line fields = do
  five ← ensure (length fields == 5) (BadRow line why.Fields)
  member ← ok_or (party_of (column 0 fields)) (BadRow line why.Member)
  kind ← ok_or (holder_kind_of (column 1 fields)) (BadRow line why.Kind)
  name ← ok_or (text_of (column 2 fields)) (BadRow line why.Name)
  shares ← ok_or (bounded 1 MOST_PLACES (decimal_of (column 3 fields))) (BadRow line why.Shares)
  paid ← ok_or (bounded 0 MOST_PENCE (decimal_of (column 4 fields))) (BadRow line why.Paid)
  Ok (record { member = member; kind = kind; name = name; shares = shares; paid = paid })

-- the row that a record spells by itself, behind so many rows: one of the first `MOST_ROWS`
unfoldable pub parsed_row_after : ℕ → ℕ → List (List ℕ) → Result RegisterRow FileError
parsed_row_after line count fields =
    ensure (nat_lt count MOST_ROWS) (BadRow line why.Rows) >>= λ room. row_in line fields

-- the next row of a register, after those so far: of another member, and with them no more shares
-- than there may be
unfoldable pub next_row : ℕ → List RegisterRow → List (List ℕ) → Result RegisterRow FileError
next_row line found fields = do
  row ← parsed_row_after line (length found) fields
  other ← ensure (not (list_any (λ earlier. same_member earlier row) found)) (Twice line)
  fits ← ensure (nat_le (all_shares (found ++ row ∷ [])) MOST_SHARES) (BadRow line why.Total)
  Ok row

-- the rows in the order of members, of which there must be one
abbrev pub as_register : List RegisterRow → Result (List RegisterRow) FileError
as_register rows =
    if length rows == 0 then Err (BadRow 1 why.Rows) else Ok (sort_by member_before rows)

-- the register that the bytes of a file spell, or its first fault
unfoldable pub register_file : List ℕ → Result (List RegisterRow) FileError
register_file bytes = table_of is_register_header next_row bytes >>= as_register
