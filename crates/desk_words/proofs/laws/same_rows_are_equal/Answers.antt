use Rattle.desk_words.proofs.WordRowLemmas.{same_rows-Decides}
use Rattle.desk_words.proofs.laws.same_rows_are_equal.Goals as goal

pub returns : goal.returns
returns c = same_rows-Decides
