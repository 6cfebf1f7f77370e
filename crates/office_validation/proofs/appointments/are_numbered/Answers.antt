use Rattle.std.proofs.Common.{◌&&◌, ◌+◌, [], take, drop, ap, sym, ◌∙◌}
use Rattle.desk_words.specs.Office.{are_numbered_after}
use Rattle.office_validation.proofs.ValidNumberLemmas.{numbered-step}
use Rattle.office_validation.proofs.appointments.are_numbered.Goals as goal

pub returns-then-not-is_numbered : goal.returns-then-not-is_numbered
returns-then-not-is_numbered c =
    let items = c.as_slice-appointment-items.result.now in
    let i = c.loop-place.place in
    sym (ap (are_numbered_after []) (sym c.as_slice-appointment-items.ensures)
    ∙ c.loop-place.invariant
    ∙ numbered-step c.args.given.now items i c.appointment-item.result c.is_numbered.result c.as_slice-appointment-items.ensures c.loop-place-test.true c.appointment-item.is c.is_numbered.ensures
    ∙ ap (λ b. b && are_numbered_after (take (i + 1) items) (drop (i + 1) items)) c.if-not-is_numbered.true)

pub loop-place-preserved : goal.loop-place-preserved
loop-place-preserved c =
    let items = c.as_slice-appointment-items.result.now in
    let i = c.loop-place.place in
    c.loop-place.invariant
    ∙ numbered-step c.args.given.now items i c.appointment-item.result c.is_numbered.result c.as_slice-appointment-items.ensures c.loop-place-test.true c.appointment-item.is c.is_numbered.ensures
    ∙ ap (λ b. b && are_numbered_after (take (i + 1) items) (drop (i + 1) items)) c.if-not-is_numbered.false
