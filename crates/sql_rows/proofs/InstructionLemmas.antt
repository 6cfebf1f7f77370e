-- The letters of instructions read back.
use Rattle.std.proofs.Common.{◌≡◌, ◌≤◌, true, List, [], ◌∷◌, length, map, Some, refl, arith}
use Rattle.std.proofs.lemmas.Bool.Decides.{nat_tests}
use Rattle.std.specs.Prelude.{nat_le}
use Rattle.vocabulary.specs.declared.instructions.TheConstants.{MOST_INSTRUCTIONS}
use Rattle.vocabulary.specs.declared.kinds.Instr.{Instr}
use Rattle.vocabulary.specs.declared.kinds.Instr.TheVariants.{For, Against, Withheld, Free}
use Rattle.sql_rows.specs.InstructionLetters.{each_instruction_of, instruction_letter, instruction_of_letter, instructions_of}

letter_read : (x : Instr) → instruction_of_letter (instruction_letter x) ≡ Some x
letter_read For = refl
letter_read Against = refl
letter_read Withheld = refl
letter_read Free = refl

each_read : (instructions : List Instr) → each_instruction_of (map instruction_letter instructions) ≡ Some instructions
each_read [] = refl
each_read (x ∷ instructions) = rw (letter_read x, each_read instructions) refl

pub letters_read : (instructions : List Instr) → length instructions ≤ MOST_INSTRUCTIONS → instructions_of (map instruction_letter instructions) ≡ Some instructions
letters_read instructions few =
    let small : nat_le (length instructions) MOST_INSTRUCTIONS ≡ true = grind (arith, nat_tests) in
    rw (each_read instructions, small) refl
