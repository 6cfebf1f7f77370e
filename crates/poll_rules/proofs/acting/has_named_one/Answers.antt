use Rattle.std.proofs.Common.{List, ap, ◌∙◌}
use Rattle.std.specs.List.{list_any, slice_get}
use Rattle.seq.proofs.Filtered.{any-filter}
use Rattle.vocabulary.specs.Names.{same_name}
use Rattle.desk_words.specs.declared.records.Appointment.{Appointment}
use Rattle.proxy_rules.proofs.ProxyNameLemmas.{filter-named}
use Rattle.poll_rules.specs.Acting.{is_one_of}
use Rattle.poll_rules.specs.Demands.{names_one}
use Rattle.poll_rules.proofs.ActingLemmas.{any-places}
use Rattle.poll_rules.proofs.acting.has_named_one.Goals as goal

pub returns : goal.returns
returns c =
    let given = c.args.appointments.now in
    let places = c.places_by_first-places.result.now in
    let named = λ (a : Appointment). is_one_of c.args.persons.now a.proxy in
    c.any_names_one.ensures
    ∙ ap (λ (all : List Appointment). list_any (λ place. names_one (is_one_of c.args.persons.now) (slice_get all place)) places) c.as_slice.ensures
    ∙ any-places named given places
    ∙ ap (list_any named) (c.places_by_first-places.ensures.picked ∙ filter-named (λ (a : Appointment). a.member) c.args.member given)
    ∙ any-filter named (λ (a : Appointment). same_name a.member c.args.member) given
