use Rattle.std.proofs.Common.{List, arith, ap, ◌∙◌}
use Rattle.std.specs.List.{filter_map, slice_get}
use Rattle.std.proofs.lemmas.Grind.{common_steps}
use Rattle.std.proofs.lemmas.List.{take_all}
use Rattle.std.proofs.lemmas.List.Elements.{filter_map-append}
use Rattle.std.proofs.lemmas.Option.{gets}
use Rattle.desk_words.specs.declared.records.CastMark.{CastMark}
use Rattle.party_views.specs.OwnCasts.{cast_count}
use Rattle.proxy_rules.proofs.ProxyNameLemmas.{filter-named}
use Rattle.party_rows.proofs.party_records.count_cast_on.Goals as goal

pub loop-place-preserved : goal.loop-place-preserved
loop-place-preserved c = grind (arith, common_steps, filter_map-append, gets)

pub returns : goal.returns
returns c =
    let places = c.places_by_first-places.result.now in
    let on = λ (all : List CastMark). cast_count all c.args.resolution in
    c.loop-place.invariant.counted
    ∙ ap (λ l. on (filter_map (slice_get c.as_slice-all.result.now) l)) (take_all _ places c.loop-place-test.false)
    ∙ ap (λ (all : List CastMark). on (filter_map (slice_get all) places)) c.as_slice-all.ensures
    ∙ ap on (c.places_by_first-places.ensures.picked ∙ filter-named (λ (x : CastMark). x.voter) c.args.party c.args.casts.now)
