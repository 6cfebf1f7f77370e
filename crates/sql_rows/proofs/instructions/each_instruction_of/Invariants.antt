use Rattle.sql_rows.proofs.RowReadUpTo.{AreLettersUpTo}
use Rattle.sql_rows.proofs.instructions.each_instruction_of.Given as goal

abbrev pub invariant-loop-letter : goal.invariant-loop-letter
invariant-loop-letter l = AreLettersUpTo l.letters l.found l.letter-index
