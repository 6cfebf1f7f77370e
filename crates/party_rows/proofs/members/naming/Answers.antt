use Rattle.std.proofs.Common.{◌∙◌}
use Rattle.desk_words.specs.declared.records.Appointment.{Appointment}
use Rattle.proxy_rules.proofs.ProxyNameLemmas.{filter-named}
use Rattle.party_rows.proofs.members.naming.Goals as goal

pub returns : goal.returns
returns c = c.from_vec.ensures ∙ c.in_ok-received.ensures ∙ filter-named (λ (a : Appointment). a.proxy) c.args.party c.args.appointments.now
