use Rattle.std.proofs.Common.{◌≡◌, ◌<◌, List, ℕ, Some, get_or, sym, ◌∙◌, arith}
use Rattle.std.specs.Prelude.{position}
use Rattle.std.proofs.lemmas.Bool.{eqb-true}
use Rattle.std.proofs.lemmas.List.Quantifiers.{position-Some}
use Rattle.std.proofs.lemmas.Str.{IsCharBoundary-before_ascii, IsCharBoundary-after_ascii}
use Rattle.replay.specs.ReplayLines.{is_space}
use Rattle.replay.proofs.line.parted.Goals as goal

is_ascii : (bytes : List ℕ) (place : ℕ) → position is_space bytes ≡ Some place → get_or bytes place 0 < 128
is_ascii bytes place found =
    let is : get_or bytes place 0 ≡ 32 = eqb-true _ _ (position-Some is_space bytes place 0 found).1 in
    omega (arith, is)

pub range-requires-clause-end_boundary : goal.range-requires-clause-end_boundary
range-requires-clause-end_boundary c =
    IsCharBoundary-before_ascii c.args.text.now c.in_ok-space.space (omega (arith, c.in_ok-space.ensures.bound)) (is_ascii c.args.text.now c.in_ok-space.space (sym c.first_space.ensures.first ∙ c.in_ok-space.was))

pub range_from-requires : goal.range_from-requires
range_from-requires c some =
    IsCharBoundary-after_ascii c.args.text.now c.in_ok-space.space c.utf8.text (omega (arith, c.in_ok-space.ensures.bound)) (is_ascii c.args.text.now c.in_ok-space.space (sym c.first_space.ensures.first ∙ c.in_ok-space.was))
