use Rattle.std.proofs.Common.{◌≡◌, ℕ, List, [], Some, Ok}
use Rattle.std.specs.Option.{unwrap_or}
use Rattle.std.specs.Prelude.{option_map}
use Rattle.csv.specs.Reading.{Reached, default_config, source_of, strip_bom}
use Rattle.csv.specs.declared.parser.State.TheVariants as st
use Rattle.csv_import.specs.CsvTables.{ReadsRecords, left_of_slice, parsed_rows}
use Rattle.csv_import.proofs.FileRecordLemmas.{left_after}
use Rattle.csv_import.proofs.table.rows_under_header.Given as goal

-- The records so far, and the rows that they are.
abbrev pub invariant-loop-found : goal.invariant-loop-found
invariant-loop-found g l = ReadsRecords l.reader
    × (y : List ℕ) × (source_of left_of_slice l.reader ≡ Some y)
    × (records : List (List (List ℕ))) × Reached default_config st.StartRecord (strip_bom l.fn.bytes) records l.reader.state y
    × (parsed_rows g.T.Gather.names_columns g.T.Gather.row_after records ≡ Ok (option_map g.T.Gather.seen l.found))

-- How many records may still come.
abbrev pub decreases-loop-found : goal.decreases-loop-found
decreases-loop-found g l = left_after l.reader.state (unwrap_or (source_of left_of_slice l.reader) [])
