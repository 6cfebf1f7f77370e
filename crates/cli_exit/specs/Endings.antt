-- How the program ends.
use Rattle.std.specs.Prelude.{ℕ, List, ◌++◌, Option, Some, None, option_map, codes, string_bytes}
use Rattle.std.specs.Fmt.{decimal}
use Rattle.vocabulary.specs.Refusals.{number_of, name_of}
use Rattle.vocabulary.specs.declared.refusal.Refusal.{Refusal}
use Rattle.csv_import.specs.FileErrors.{why_word}
use Rattle.csv_import.specs.declared.fault.Why.{Why}
use Rattle.csv_import.specs.declared.fault.FileError.{FileError}
use Rattle.csv_import.specs.declared.fault.FileError.TheVariants as file
use Rattle.byte_io.specs.declared.failure.PrintError.{PrintError}
use Rattle.byte_io.specs.declared.failure.PrintError.TheVariants as print
use Rattle.cli_exit.specs.declared.words.WordsFault.{WordsFault}
use Rattle.cli_exit.specs.declared.words.WordsFault.TheVariants as words
use Rattle.desk_words.specs.declared.reply.Failure.{Failure}
use Rattle.desk_words.specs.declared.reply.Failure.TheVariants as failure
use Rattle.cli_exit.specs.declared.line.Line.{Line}
use Rattle.cli_exit.specs.declared.line.Line.TheVariants as line
use Rattle.cli_exit.specs.declared.ended.Ended.{Ended}
use Rattle.cli_exit.specs.declared.ended.ExitError.{ExitError}
use Rattle.cli_exit.specs.declared.ended.ExitError.TheVariants as fault

-- `refused`, with the number and the name of a refusal
abbrev pub refusal_line : Refusal → List ℕ
refusal_line refusal =
    codes "refused " ++ (decimal (number_of refusal) ++ (codes " " ++ name_of refusal))

-- `BadRow`, with a line and what is wrong with it
abbrev pub bad_row_line : ℕ → Why → List ℕ
bad_row_line number why = codes "BadRow " ++ (decimal number ++ (codes " " ++ why_word why))

-- `Twice`, with a line
abbrev pub twice_line : ℕ → List ℕ
twice_line number = codes "Twice " ++ decimal number

-- the text of a line
abbrev pub line_text : Line → List ℕ
line_text (line.Name name) = name.now
line_text (line.Refused refusal) = refusal_line refusal
line_text (line.BadRow number why) = bad_row_line number why
line_text (line.Twice number) = twice_line number
line_text (line.Words text) = string_bytes text

-- a status, and the text that is printed
pub record Ending : Type 0 where
  pub status : ℕ
  pub text : Option (List ℕ)

-- how the program ends, as contracts see it
abbrev pub ended_view : Ended → Ending
ended_view ended = record { status = ended.status; text = option_map line_text ended.line }

-- the command did its work
abbrev pub success : Ending
success = record { status = 0; text = None }

-- a status with a line
abbrev pub ending : ℕ → List ℕ → Ending
ending status text = record { status = status; text = Some text }

-- the word for a fault
abbrev pub fault_word : ExitError → List ℕ
fault_word fault.Store = codes "Store"
fault_word fault.Memory = codes "Memory"
fault_word fault.NotADesk = codes "NotADesk"
fault_word fault.NewerVersion = codes "NewerVersion"
fault_word fault.NotEmpty = codes "NotEmpty"
fault_word fault.ReadFault = codes "ReadFault"
fault_word fault.WriteFault = codes "WriteFault"
fault_word fault.Socket = codes "Socket"
fault_word fault.Clock = codes "Clock"

-- a fault ends with 3 and its word
abbrev pub ended_by : ExitError → Ending
ended_by fault = ending 3 (fault_word fault)

-- how it ends where a call has no answer
abbrev pub ended_by_failure : Failure → Ending
ended_by_failure failure.Store = ended_by fault.Store
ended_by_failure failure.Memory = ended_by fault.Memory

-- a refusal ends with 1
abbrev pub ended_by_refusal : Refusal → Ending
ended_by_refusal refusal = ending 1 (refusal_line refusal)

-- a fault of a file that is handed in ends with 3
abbrev pub ended_by_file : FileError → Ending
ended_by_file (file.BadRow number why) = ending 3 (bad_row_line number why)
ended_by_file (file.Twice number) = ending 3 (twice_line number)
ended_by_file file.ReadFault = ending 3 (codes "ReadFault")
ended_by_file file.Memory = ending 3 (codes "Memory")

-- a fault of the printing ends with 3
abbrev pub ended_by_print : PrintError → Ending
ended_by_print print.WriteFault = ending 3 (codes "WriteFault")
ended_by_print print.Memory = ending 3 (codes "Memory")

-- words that ask for nothing end with 2, and want of memory with 3
abbrev pub ended_by_words : WordsFault → Ending
ended_by_words (words.Words text) = ending 2 (string_bytes text)
ended_by_words words.Meeting = ending 2 (codes "meeting")
ended_by_words words.Record = ending 2 (codes "record")
ended_by_words words.Zone = ending 2 (codes "zone")
ended_by_words words.Memory = ending 3 (codes "Memory")
