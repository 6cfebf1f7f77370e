use Rattle.std.proofs.Common.{find, ap, sym, ◌∙◌}
use Rattle.std.specs.Option.{option_copied}
use Rattle.seq.proofs.Filtered.{none-found}
use Rattle.vocabulary.specs.Places.{Places, holds}
use Rattle.caller_view.proofs.RightsLemmas.{run_found, run_lacks}
use Rattle.caller_view.specs.Rights.{governed_at_poll, governs_at}
use Rattle.caller_view.proofs.rights.run_at.Goals as goal

pub returns-in-Some-clause-some : goal.returns-in-Some-clause-some
returns-in-Some-clause-some c =
    let a = c.args in
    run_found a.received.now (governed_at_poll a.late a.poll.now) a.new.now a.place c.in-Some.found.now c.run_with.result
    (sym c.appointment_at.ensures ∙ ap option_copied c.in-Some.is)
    (c.run_with.ensures ∙ ap (find (λ (run : Places). holds run a.place)) c.governed_at_poll.ensures)

pub returns-in-Some-clause-none : goal.returns-in-Some-clause-none
returns-in-Some-clause-none c = λ none.
    let a = c.args in
    absurd (run_lacks a.received.now (governed_at_poll a.late a.poll.now) a.new.now a.place c.in-Some.found.now
    (sym c.appointment_at.ensures ∙ ap option_copied c.in-Some.is)
    (sym (c.run_with.ensures ∙ ap (find (λ (run : Places). holds run a.place)) c.governed_at_poll.ensures) ∙ none))

pub returns-in-None-clause-none : goal.returns-in-None-clause-none
returns-in-None-clause-none c = λ none.
    let a = c.args in
    none-found (governs_at (governed_at_poll a.late a.poll.now) a.new.now a.place) a.received.now (sym c.appointment_at.ensures ∙ ap option_copied c.in-None.is)
