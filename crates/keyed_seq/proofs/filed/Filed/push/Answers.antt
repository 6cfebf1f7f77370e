use Rattle.std.proofs.Common.{arith}
use Rattle.keyed_seq.specs.Positions.{has_first, has_second}
use Rattle.keyed_seq.proofs.KeyedPlaceLemmas.{places_that-more}
use Rattle.keyed_seq.proofs.filed.Filed.push.Goals as goal

pub invariant_of-self-in_default : goal.invariant_of-self-in_default
invariant_of-self-in_default g c = (
  λ key.
      let preserved = c.self.invariant.0 key in
      let filed = c.in_default.ensures.first key in
      let more = places_that-more (has_first g.T.Key.Ord.cmp g.T.FiledBy.first_key_of key) c.self.inside.items.items c.args.item in
      grind (arith, preserved, filed, more),
  λ key.
      let preserved = c.self.invariant.1 key in
      let filed = c.in_default.ensures.second key in
      let more = places_that-more (has_second g.T.Key.Ord.cmp g.T.FiledBy.second_key_of key) c.self.inside.items.items c.args.item in
      grind (arith, preserved, filed, more),
)
