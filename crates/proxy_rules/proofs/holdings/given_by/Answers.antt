use Rattle.std.proofs.Common.{◌∙◌}
use Rattle.desk_words.specs.declared.records.Appointment.{Appointment}
use Rattle.proxy_rules.proofs.ProxyNameLemmas.{filter-named}
use Rattle.proxy_rules.proofs.holdings.given_by.Goals as goal

pub returns : goal.returns
returns c = c.from_vec.ensures ∙ c.in_ok-given.ensures ∙ filter-named (λ (a : Appointment). a.member) c.args.member c.args.appointments.now
