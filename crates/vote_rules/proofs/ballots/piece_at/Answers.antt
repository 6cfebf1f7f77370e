use Rattle.std.proofs.Common.{◌≡◌, ◌≤◌, None, Some, length, cond, refl, ap, sym, ◌∙◌}
use Rattle.std.specs.Prelude.{option_and_then, slice_get}
use Rattle.std.proofs.lemmas.Bool.{ltb-false, ltb-true}
use Rattle.std.proofs.lemmas.Option.{slice_get_past, slice_get_read}
use Rattle.vote_rules.proofs.VoteOrderLemmas.{find-piece, if_has}
use Rattle.vote_rules.proofs.ballots.piece_at.Goals as goal

pub returns-in_err-piece : goal.returns-in_err-piece
returns-in_err-piece c =
    let governed = c.args.governed.now in
    let i = c.first_that_reaches.result in
    let past : length governed ≤ i = ltb-false i (length governed) (sym c.in_err-piece.ensures.lookup.0) in
    c.from_residual.ensures
    ∙ sym (find-piece governed c.args.place i c.requires c.first_that_reaches.ensures ∙ ap (option_and_then (if_has c.args.place)) (slice_get_past governed i past))

pub returns-then-has : goal.returns-then-has
returns-then-has c =
    let governed = c.args.governed.now in
    let i = c.first_that_reaches.result in
    let piece = c.in_ok-piece.field-0.now in
    let at : slice_get governed i ≡ Some piece = slice_get_read governed (length governed) i piece refl (ltb-true i (length governed) (sym c.in_ok-piece.ensures.lookup.0)) c.in_ok-piece.ensures.lookup.1 in
    sym (find-piece governed c.args.place i c.requires c.first_that_reaches.ensures
    ∙ ap (option_and_then (if_has c.args.place)) at
    ∙ ap (λ b. cond b (Some piece) None) (sym c.has.ensures ∙ c.if-has.true))

pub returns-else-has : goal.returns-else-has
returns-else-has c =
    let governed = c.args.governed.now in
    let i = c.first_that_reaches.result in
    let piece = c.in_ok-piece.field-0.now in
    let at : slice_get governed i ≡ Some piece = slice_get_read governed (length governed) i piece refl (ltb-true i (length governed) (sym c.in_ok-piece.ensures.lookup.0)) c.in_ok-piece.ensures.lookup.1 in
    sym (find-piece governed c.args.place i c.requires c.first_that_reaches.ensures
    ∙ ap (option_and_then (if_has c.args.place)) at
    ∙ ap (λ b. cond b (Some piece) None) (sym c.has.ensures ∙ c.if-has.false))
