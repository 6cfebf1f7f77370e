use Rattle.std.proofs.Common.{rules}
use Rattle.std.proofs.lemmas.List.Sorted.{answers_always}
use Rattle.seq.proofs.Ascending.{ascends_by-sorted}
use Rattle.seq.proofs.ordered.into_order.Goals as goal

pub returns-clause-sorted : goal.returns-clause-sorted
returns-clause-sorted g c = c.sort_unstable_by_key.ensures.sorted g.T.Keyed.key_of (answers_always _ _ _ (λ f a r next called. search rules))

pub returns-clause-ascending : goal.returns-clause-ascending
returns-clause-ascending g c =
    ascends_by-sorted g.met.T.Key.Ord.total g.T.Keyed.key_of c.args.values.now.items c.sort_unstable_by_key.new.self.items c.sort_unstable_by_key.ensures.permutation
    (c.sort_unstable_by_key.ensures.sorted g.T.Keyed.key_of (answers_always _ _ _ (λ f a r next called. search rules)))
