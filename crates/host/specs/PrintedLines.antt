-- What is printed of the line that the program ends with.
use Rattle.std.specs.Prelude.{ℕ, List, [], ◌∷◌, ◌++◌, string_bytes}
use Rattle.cli_exit.specs.Endings.{line_text}
use Rattle.cli_exit.specs.declared.line.Line.{Line}
use Rattle.cli_exit.specs.declared.line.Line.TheVariants as line

-- its text and a line feed; what the reader of the words says ends with one itself
abbrev pub printed : Line → List ℕ
printed (line.Words text) = string_bytes text
printed other = line_text other ++ (10 ∷ [])
