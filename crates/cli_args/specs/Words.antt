-- What the words of the program ask for.
use Rattle.std.specs.Prelude.{◌≡◌, ⊤, List, Option, Some, None, Result, Err, codes, if◌then◌else◌}
use Rattle.clap.specs.declared.error.kind.ErrorKind.{ErrorKind}
use Rattle.clap.specs.declared.error.kind.ErrorKind.TheVariants as kind
use Rattle.clap.specs.Faults.{fault_of}
use Rattle.clap.specs.Simple.{subcommand_of}
use Rattle.clap.specs.Walk.{Row, Text, first_of, is_empty}
use Rattle.cli_args.specs.Plans.{CommandAsked, CommandTexts, Wrong, Words, asked_by_name}
use Rattle.cli_exit.specs.declared.words.WordsFault.{WordsFault}
use Rattle.cli_exit.specs.declared.words.WordsFault.TheVariants as fault
use Rattle.cli_args.specs.App.{desk_app}

-- the fault of words that `clap` refuses for this cause: their text, or want of memory
abbrev pub IsRefused : ErrorKind → WordsFault → Type 0
IsRefused cause (fault.Words text) = cause ≡ kind.OutOfMemory → ⊥
IsRefused cause fault.Memory = ⊤
IsRefused cause fault.Meeting = ⊥
IsRefused cause fault.Record = ⊥
IsRefused cause fault.Zone = ⊥

-- the words that are given to a command, each by its id
abbrev pub texts_in : List Row → CommandTexts
texts_in rows = record {
  file = first_of (codes "FILE") rows;
  csv = first_of (codes "CSV") rows;
  txt = first_of (codes "TXT") rows;
  meeting = first_of (codes "MEETING") rows;
  record_moment = first_of (codes "RECORD") rows;
  port = first_of (codes "port") rows;
  requests = first_of (codes "requests") rows;
  zone = first_of (codes "zone") rows;
}

-- what the command that the words name asks
abbrev pub asked_in : Option (Text × List Row) → Result CommandAsked Wrong
asked_in None = Err Words
asked_in (Some named) = asked_by_name named.0 (texts_in named.1)

-- what the words ask for, where `clap` finds no fault in them
unfoldable pub asked_by_words : List Text → Result CommandAsked Wrong
asked_by_words words =
    if is_empty (fault_of desk_app words)
    then asked_in (subcommand_of desk_app words)
    else Err Words
