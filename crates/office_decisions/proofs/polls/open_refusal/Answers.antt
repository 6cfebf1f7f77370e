use Rattle.std.proofs.Common.{not, [], ◌∷◌, sym, ◌∙◌}
use Rattle.vocabulary.specs.declared.refusal.Refusal.TheVariants.{NoQuorum}
use Rattle.office_decisions.specs.PresenceRulings.{quorum_in}
use Rattle.office_decisions.specs.PollRulings.{opening_cases}
use Rattle.office_decisions.proofs.EarlyLemmas.{first_of_front}
use Rattle.office_decisions.proofs.polls.open_refusal.Goals as goal

pub returns-in-Some-clause-refusal : goal.returns-in-Some-clause-refusal
returns-in-Some-clause-refusal c =
    let m = c.args.lists.now in
    let counted = record { refusal = NoQuorum; holds = not (quorum_in m c.args.closed.now c.args.now) } ∷ [] in
    sym (first_of_front (opening_cases m.meeting c.args.now) counted c.in-Some.refusal (sym c.opening_refusal.ensures ∙ c.in-Some.is))
