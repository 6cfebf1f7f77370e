use Rattle.std.proofs.Common.{List, map, arith, ap, ◌∙◌}
use Rattle.std.specs.List.{filter_map, slice_get}
use Rattle.std.proofs.lemmas.Grind.{common_steps}
use Rattle.std.proofs.lemmas.List.{map-append, take_all}
use Rattle.std.proofs.lemmas.List.Elements.{filter_map-append}
use Rattle.std.proofs.lemmas.Option.{gets}
use Rattle.desk_words.specs.declared.records.Appointment.{Appointment}
use Rattle.proxy_rules.specs.Holdings.{claim_of}
use Rattle.proxy_rules.proofs.ProxyNameLemmas.{filter-named}
use Rattle.party_rows.proofs.members.claims_by.Goals as goal

pub loop-place-preserved : goal.loop-place-preserved
loop-place-preserved c = grind (arith, common_steps, map-append, filter_map-append, gets)

pub returns : goal.returns
returns c =
    let places = c.places_by_first-places.result.now in
    c.loop-place.invariant
    ∙ ap (λ l. map claim_of (filter_map (slice_get c.as_slice-all.result.now) l)) (take_all _ places c.loop-place-test.false)
    ∙ ap (λ (all : List Appointment). map claim_of (filter_map (slice_get all) places)) c.as_slice-all.ensures
    ∙ ap (map claim_of) (c.places_by_first-places.ensures.picked ∙ filter-named (λ (a : Appointment). a.member) c.args.member c.args.appointments.now)
