use Rattle.desk_words.proofs.WordRowLemmas.{each_same-Decides}
use Rattle.desk_words.proofs.register.same_rows.Goals as goal

pub returns-then-rows-others-clause-same : goal.returns-then-rows-others-clause-same
returns-then-rows-others-clause-same c = each_same-Decides c.args.rows.now c.args.others.now c.each_same.result c.if-rows-others.true c.each_same.ensures
