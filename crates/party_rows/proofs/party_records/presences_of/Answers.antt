use Rattle.std.proofs.Common.{List, map, arith, ap, ◌∙◌}
use Rattle.std.specs.List.{filter_map, slice_get}
use Rattle.std.proofs.lemmas.Grind.{common_steps}
use Rattle.std.proofs.lemmas.List.{map-append, take_all}
use Rattle.std.proofs.lemmas.List.Elements.{filter_map-append}
use Rattle.std.proofs.lemmas.Option.{gets}
use Rattle.desk_words.specs.declared.records.PresenceMark.{PresenceMark}
use Rattle.proxy_rules.proofs.ProxyNameLemmas.{filter-named}
use Rattle.party_rows.proofs.party_records.presences_of.Goals as goal

pub loop-place-preserved : goal.loop-place-preserved
loop-place-preserved c = grind (arith, common_steps, map-append, filter_map-append, gets)

pub returns : goal.returns
returns c =
    let places = c.places_by_first-places.result.now in
    let shown = map (λ (x : PresenceMark). x.session) in
    c.loop-place.invariant
    ∙ ap (λ l. shown (filter_map (slice_get c.as_slice-all.result.now) l)) (take_all _ places c.loop-place-test.false)
    ∙ ap (λ (all : List PresenceMark). shown (filter_map (slice_get all) places)) c.as_slice-all.ensures
    ∙ ap shown (c.places_by_first-places.ensures.picked ∙ filter-named (λ (x : PresenceMark). x.party) c.args.party c.args.presences.now)
