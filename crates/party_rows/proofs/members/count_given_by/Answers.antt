use Rattle.std.proofs.Common.{length, ap, ◌∙◌}
use Rattle.keyed_seq.specs.Positions.{has_first}
use Rattle.vocabulary.specs.Names.{name_cmp}
use Rattle.desk_words.specs.declared.records.Appointment.{Appointment}
use Rattle.proxy_rules.proofs.ProxyNameLemmas.{filter-named}
use Rattle.party_rows.proofs.PartyRowListLemmas.{length-places}
use Rattle.party_rows.proofs.members.count_given_by.Goals as goal

pub returns : goal.returns
returns c =
    let member = λ (a : Appointment). a.member in
    ap length c.places_by_first.ensures.places
    ∙ length-places (has_first name_cmp member c.args.member) c.args.appointments.now
    ∙ ap length (filter-named member c.args.member c.args.appointments.now)
