use Rattle.std.proofs.Common.{rules}
use Rattle.std.proofs.lemmas.List.Sorted.{answers_always}
use Rattle.seq.specs.Ordered.{key_before}
use Rattle.seq.proofs.Ascending.{ascends-from_answer}
use Rattle.seq.proofs.ordered.ascend.Goals as goal

pub returns : goal.returns
returns g c =
    let before = key_before g.T.Keyed.key_of g.T.Key.Ord.cmp in
    ascends-from_answer before c.args.values.now c.is_sorted_by.result (c.is_sorted_by.ensures.cases before (answers_always _ _ _ (λ f a r next called. search rules)))
