use Rattle.std.proofs.Common.{rules}
use Rattle.desk_words.proofs.laws.hours_are.Goals as goal

pub returns : goal.returns
returns c = search rules
