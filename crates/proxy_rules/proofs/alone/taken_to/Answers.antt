use Rattle.std.proofs.Common.{ap, sym, ◌∙◌}
use Rattle.std.specs.Option.{option_copied}
use Rattle.seq.proofs.Filtered.{none-found}
use Rattle.vocabulary.specs.Places.{Places}
use Rattle.proxy_rules.specs.Governing.{is_over}
use Rattle.proxy_rules.proofs.AloneLemmas.{taken_through}
use Rattle.proxy_rules.proofs.alone.taken_to.Goals as goal

pub returns-in-Some-clause-some : goal.returns-in-Some-clause-some
returns-in-Some-clause-some c =
    taken_through c.args.cutoffs.now c.args.later.now c.args.place c.to.result c.in-Some.appointment.now
    (sym c.taker.ensures ∙ ap option_copied c.in-Some.is) (c.to.ensures.value ∙ ap (λ (r : Places). r.to) c.range.ensures)

pub returns-in-None-clause-none : goal.returns-in-None-clause-none
returns-in-None-clause-none c = λ _. none-found (is_over c.args.cutoffs.now c.args.place) c.args.later.now (sym c.taker.ensures ∙ ap option_copied c.in-None.is)
