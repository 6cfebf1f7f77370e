use Rattle.std.proofs.Common.{◌≡◌, Bool, true, false, not, ◌&&◌, refl, rules, sym, ◌∙◌}
use Rattle.std.proofs.lemmas.List.Sorted.{answers_always, searched}
use Rattle.office_days.proofs.ClosedDays.{days_do_not_fall, is_closed-searched}
use Rattle.office_days.proofs.working.is_working.Goals as goal

answer_is : (answer closed found weekday : Bool) → found ≡ not answer → closed ≡ found → weekday ≡ true → answer ≡ (weekday && not closed)
answer_is true closed found weekday e f g = rw (f, e, g) refl
answer_is false closed found weekday e f g = rw (f, e, g) refl

pub returns-then-is_weekday : goal.returns-then-is_weekday
returns-then-is_weekday c =
    let ended = c.binary_search_by_key.ensures.position (λ day. day) (answers_always _ _ _ (λ f a r next called. search rules)) in
    let found = searched c.args.closed.now c.args.day c.binary_search_by_key.result ended (days_do_not_fall c.args.closed.now c.requires) in
    let is = is_closed-searched c.args.closed.now c.args.day c.binary_search_by_key.result found in
    answer_is _ _ _ _ c.is_err.ensures.negation is (sym c.is_weekday.ensures ∙ c.if-is_weekday.true)
