use Rattle.std.proofs.Common.{ap, sym, ◌∙◌}
use Rattle.std.proofs.lemmas.List.{take_all}
use Rattle.office_validation.proofs.ValidCastLemmas.{few-earlier, few-more, few_ballots, few_each, many_ballots}
use Rattle.office_validation.proofs.polls.cast_few.Goals.{else-is_first-via-then-is_first+else-not-voter_cast_few, else-is_first-via-else-is_first}
use Rattle.office_validation.proofs.polls.cast_few.Goals as goal

pub returns-then-not-voter_cast_few : goal.returns-then-not-voter_cast_few
returns-then-not-voter_cast_few c =
    sym (many_ballots c.args.polls.now c.args.casts.now c.cast-item.result.voter (sym c.voter_cast_few.ensures ∙ c.if-not-voter_cast_few.true))

pub loop-place-preserved : goal.loop-place-preserved
loop-place-preserved c =
    let polls = c.args.polls.now in
    let casts = c.args.casts.now in
    let items = c.as_slice-cast-items.result.now in
    let i = c.loop-place.place in
    let cast = c.cast-item.result in
    few-more polls casts items i cast c.as_slice-cast-items.ensures c.loop-place-test.true c.cast-item.is c.loop-place.invariant
    (elim c.else-is_first.branch [
      | else-is_first-via-then-is_first+else-not-voter_cast_few w ↦ sym w.voter_cast_few.ensures ∙ w.if-not-voter_cast_few.false
      | else-is_first-via-else-is_first w ↦ few-earlier polls casts items i cast c.is_first.result c.as_slice-cast-items.ensures c.loop-place.invariant c.is_first.ensures w.if-is_first.false
    ])

pub returns : goal.returns
returns c =
    let polls = c.args.polls.now in
    let items = c.as_slice-cast-items.result.now in
    sym (few_ballots polls c.args.casts.now c.args.casts.now c.requires
    (ap (λ l. few_each polls l l) (sym c.as_slice-cast-items.ensures)
    ∙ ap (few_each polls items) (sym (take_all c.loop-place.place items c.loop-place-test.false))
    ∙ c.loop-place.invariant))
