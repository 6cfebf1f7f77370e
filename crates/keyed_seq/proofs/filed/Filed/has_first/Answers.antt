use Rattle.std.proofs.Common.{not, ◌==◌, length, ap, ◌∙◌}
use Rattle.keyed_seq.specs.Positions.{has_first}
use Rattle.keyed_seq.proofs.KeyedPlaceLemmas.{any-places_that}
use Rattle.keyed_seq.proofs.filed.Filed.has_first.Goals as goal

pub returns : goal.returns
returns g c =
    ap not c.is_empty.ensures
    ∙ ap (λ places. not (length places == 0)) c.places_by_first.ensures.places
    ∙ any-places_that (has_first g.T.Key.Ord.cmp g.T.FiledBy.first_key_of c.args.key) c.args.self.now
