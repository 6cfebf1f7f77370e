use Rattle.std.proofs.Common.{List, filter, arith, ap, ◌∙◌}
use Rattle.std.specs.List.{filter_map, slice_get}
use Rattle.std.proofs.lemmas.Grind.{common_steps}
use Rattle.std.proofs.lemmas.List.{take_all}
use Rattle.std.proofs.lemmas.List.Elements.{filter-append, filter_map-append}
use Rattle.std.proofs.lemmas.Option.{gets}
use Rattle.vocabulary.specs.Names.{same_name}
use Rattle.desk_words.specs.declared.records.Appointment.{Appointment}
use Rattle.proxy_rules.proofs.ProxyNameLemmas.{filter-named}
use Rattle.party_views.proofs.OwnLemmas.{filter-swap}
use Rattle.proxy_rules.specs.Holdings.{is_given_by}
use Rattle.proxy_rules.specs.Parties.{names}
use Rattle.party_rows.proofs.members.naming_by.Goals as goal

pub loop-place-preserved : goal.loop-place-preserved
loop-place-preserved c = grind (arith, common_steps, filter-append, filter_map-append, gets)

pub returns : goal.returns
returns c =
    let places = c.places_by_first-place-items.result.now in
    let naming = filter (λ (a : Appointment). same_name a.proxy c.args.party) in
    c.loop-place.invariant
    ∙ ap (λ l. naming (filter_map (slice_get c.as_slice-all.result.now) l)) (take_all _ places c.loop-place-test.false)
    ∙ ap (λ (all : List Appointment). naming (filter_map (slice_get all) places)) c.as_slice-all.ensures
    ∙ ap naming (c.places_by_first-place-items.ensures.picked ∙ filter-named (λ (a : Appointment). a.member) c.args.member c.args.appointments.now)
    ∙ filter-swap (names c.args.party) (is_given_by c.args.member) c.args.appointments.now
