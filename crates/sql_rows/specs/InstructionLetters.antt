-- Instructions as letters: one for each resolution.
use Rattle.std.specs.Prelude.{ℕ, ◌==◌, List, [], ◌∷◌, Option, Some, None, if◌then◌else◌}
use Rattle.vocabulary.specs.declared.kinds.Instr.{Instr}
use Rattle.vocabulary.specs.declared.kinds.Instr.TheVariants.{For, Against, Withheld, Free}
use Rattle.vocabulary.specs.InstructionPlaces.{as_instructions}
use Rattle.vocabulary.specs.OptionSteps.{◌>>=◌}

-- the letter of an instruction: F, A, W, or - where it is free
abbrev pub instruction_letter : Instr → ℕ
instruction_letter For = 70
instruction_letter Against = 65
instruction_letter Withheld = 87
instruction_letter Free = 45

-- the instruction of a letter
abbrev pub instruction_of_letter : ℕ → Option Instr
instruction_of_letter letter =
    if letter == 70 then Some For
    else if letter == 65 then Some Against
    else if letter == 87 then Some Withheld
    else if letter == 45 then Some Free
    else None

-- the instruction of each letter
abbrev pub each_instruction_of : List ℕ → Option (List Instr)
each_instruction_of [] = Some []
each_instruction_of (letter ∷ letters) = do
  first ← instruction_of_letter letter
  rest ← each_instruction_of letters
  Some (first ∷ rest)

-- the instructions of at most `MOST_INSTRUCTIONS` letters
abbrev pub instructions_of : List ℕ → Option (List Instr)
instructions_of letters = do
  each ← each_instruction_of letters
  as_instructions each
