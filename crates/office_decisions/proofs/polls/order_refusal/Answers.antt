use Rattle.std.proofs.Common.{◌≡◌, true, false, not, ◌&&◌, [], ◌∷◌, sym, ◌∙◌}
use Rattle.vocabulary.specs.declared.refusal.Refusal.TheVariants.{DemandTooSmall}
use Rattle.office_decisions.specs.PresenceRulings.{demand_noted}
use Rattle.office_decisions.specs.PollRulings.{ordering_cases}
use Rattle.office_decisions.proofs.EarlyLemmas.{demand_later, first_of_front}
use Rattle.office_decisions.proofs.polls.order_refusal.Goals as goal

pub returns-in-Some-clause-refusal : goal.returns-in-Some-clause-refusal
returns-in-Some-clause-refusal c =
    let m = c.args.lists.now in
    let new = c.args.new.now in
    let counted = record { refusal = DemandTooSmall; holds = not new.chair && not (demand_noted m c.args.closed.now c.args.now new.resolution).reached } ∷ [] in
    sym (first_of_front (ordering_cases m c.args.now new) counted c.in-Some.refusal (sym c.ordering_refusal.ensures ∙ c.in-Some.is))

-- what is left is whether the demand is too small
pub returns-in_err-is_unwanted-clause-sure : goal.returns-in_err-is_unwanted-clause-sure
returns-in_err-is_unwanted-clause-sure c = λ at_once.
    let m = c.args.lists.now in
    let new = c.args.new.now in
    let small = not new.chair && not (demand_noted m c.args.closed.now c.args.now new.resolution).reached in
    let never : true ≡ false = sym at_once ∙ demand_later (ordering_cases m c.args.now new) small (sym c.ordering_refusal.ensures ∙ c.in_default.is) in
    absurd (cc)
