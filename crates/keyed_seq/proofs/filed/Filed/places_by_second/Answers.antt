use Rattle.keyed_seq.specs.Positions.{has_second}
use Rattle.keyed_seq.proofs.KeyedPlaceLemmas.{places_that-within, items_at-places_that}
use Rattle.keyed_seq.proofs.filed.Filed.places_by_second.Goals as goal

pub returns-clause-within : goal.returns-clause-within
returns-clause-within g c =
    rw (c.places_of.ensures, c.self.invariant.1 c.args.key, ← c.self.view_is)
    (places_that-within (has_second g.T.Key.Ord.cmp g.T.FiledBy.second_key_of c.args.key) c.self.inside.items.items)

pub returns-clause-picked : goal.returns-clause-picked
returns-clause-picked g c =
    rw (c.places_of.ensures, c.self.invariant.1 c.args.key, ← c.self.view_is)
    (items_at-places_that (has_second g.T.Key.Ord.cmp g.T.FiledBy.second_key_of c.args.key) c.self.inside.items.items)
