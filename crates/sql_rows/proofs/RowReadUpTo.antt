use Rattle.std.proofs.Common.{◌≡◌, ℕ, List, ◌++◌, drop, Option, Some, None}
use Rattle.sql_rows.specs.Meanings.{all_meanings}
use Rattle.sql_rows.specs.InstructionLetters.{each_instruction_of}
use Rattle.sqlite.specs.Order.{Row}
use Rattle.vocabulary.specs.declared.kinds.Instr.{Instr}

-- what was found, and then the rest
abbrev pub onto : {A : Type 0} → List A → Option (List A) → Option (List A)
onto found (Some rest) = Some (found ++ rest)
onto found None = None

-- of the rows, those before an index are read
pub record AreReadUpTo {A : Type 0} (means : Row → Option A) (rows : List Row) (found : List A) (i : ℕ) : Type 0 where
  pub so_far : all_meanings means rows ≡ onto found (all_meanings means (drop i rows))

-- of the letters, those before an index are read
pub record AreLettersUpTo (letters : List ℕ) (found : List Instr) (i : ℕ) : Type 0 where
  pub so_far : each_instruction_of letters ≡ onto found (each_instruction_of (drop i letters))
