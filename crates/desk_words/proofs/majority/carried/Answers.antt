use Rattle.std.proofs.Common.{rules}
use Rattle.desk_words.proofs.majority.carried.Goals as goal

pub returns-then-votes-gt0 : goal.returns-then-votes-gt0
returns-then-votes-gt0 c = search rules
