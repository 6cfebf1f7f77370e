use Rattle.std.proofs.Common.{◌≡◌, map, take, string_bytes}
use Rattle.sql_rows.specs.InstructionLetters.{instruction_letter}
use Rattle.sql_rows.proofs.instructions.each_letter.Given as goal

abbrev pub invariant-loop-instruction : goal.invariant-loop-instruction
invariant-loop-instruction l = string_bytes l.letters ≡ map instruction_letter (take l.instruction-index l.instructions)
