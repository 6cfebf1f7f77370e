use Rattle.desk_words.proofs.WordRowLemmas.{each_same_key-Decides}
use Rattle.desk_words.proofs.list_types.same_keys.Goals as goal

pub returns-then-rows-others-clause-same : goal.returns-then-rows-others-clause-same
returns-then-rows-others-clause-same c =
    each_same_key-Decides c.args.rows.now c.args.others.now c.each_same_key.result c.if-rows-others.true c.each_same_key.ensures
