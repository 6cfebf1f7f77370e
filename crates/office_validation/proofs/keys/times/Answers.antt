use Rattle.std.proofs.Common.{Bool, List, arith, ap, ◌∙◌}
use Rattle.std.specs.Prelude.{count_by}
use Rattle.std.specs.List.{filter_map, slice_get}
use Rattle.std.specs.Ordering.{is_eq}
use Rattle.std.proofs.lemmas.Grind.{common_steps}
use Rattle.std.proofs.lemmas.List.{take_all}
use Rattle.std.proofs.lemmas.List.Elements.{filter_map-append}
use Rattle.std.proofs.lemmas.Option.{gets}
use Rattle.keyed_seq.specs.Positions.{has_first}
use Rattle.seq.proofs.Differing.{count_filter, count_snoc}
use Rattle.office_validation.proofs.keys.times.Goals as goal

pub loop-place-preserved : goal.loop-place-preserved
loop-place-preserved g c = grind (arith, common_steps, count_snoc, filter_map-append, gets)

pub returns : goal.returns
returns g c =
    let places = c.places_by_first-place-items.result.now in
    let marked : g.row.T.Denot → Bool = λ item. is_eq (g.T.Mark.Ord.cmp (g.T.Marked.mark_of item) c.args.mark) in
    c.loop-place.invariant.0
    ∙ ap (λ l. count_by marked (filter_map (slice_get c.as_slice-all.result.now) l)) (take_all _ places c.loop-place-test.false)
    ∙ ap (λ (all : List g.row.T.Denot). count_by marked (filter_map (slice_get all) places)) c.as_slice-all.ensures
    ∙ ap (count_by marked) c.places_by_first-place-items.ensures.picked
    ∙ count_filter marked (has_first g.T.Key.Ord.cmp g.T.FiledBy.first_key_of c.args.key) c.args.items.now
