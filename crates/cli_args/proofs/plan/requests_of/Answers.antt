use Rattle.std.proofs.Common.{◌<◌, ◌^◌, sym, refl, arith}
use Rattle.std.proofs.lemmas.Bool.{ltb-true}
use Rattle.cli_args.proofs.WordNumberLemmas.{number-parsed, number-below, number-above, number-unread}
use Rattle.cli_args.proofs.plan.requests_of.Goals as goal

within : 1000000000 < 2 ^ 32
within = ltb-true _ _ refl

pub returns-then-requests-eq0 : goal.returns-then-requests-eq0
returns-then-requests-eq0 c = sym (number-below 32 1 1000000000 c.in-Ok.requests c.args.word.now c.in-Ok.ensures.value.0 (omega (arith, c.if-requests-eq0.true)))

pub returns-then-requests-gt1000000000 : goal.returns-then-requests-gt1000000000
returns-then-requests-gt1000000000 c = sym (number-above 32 1 1000000000 c.in-Ok.requests c.args.word.now c.in-Ok.ensures.value.0 c.if-requests-gt1000000000.true)

pub returns-else-requests-gt1000000000 : goal.returns-else-requests-gt1000000000
returns-else-requests-gt1000000000 c = sym (number-parsed 32 1 1000000000 c.in-Ok.requests c.args.word.now c.in-Ok.ensures.value.0 (omega (arith, c.if-requests-eq0.false)) (c.if-requests-gt1000000000.false))

pub returns-in-Err : goal.returns-in-Err
returns-in-Err c = sym (number-unread 32 1 1000000000 c.args.word.now c.in-Err.ensures.value.0 within)
