use Rattle.std.proofs.Common.{◌<◌, ◌^◌, sym, refl, arith}
use Rattle.std.proofs.lemmas.Bool.{ltb-true}
use Rattle.cli_args.proofs.WordNumberLemmas.{number-parsed, number-below, number-unread}
use Rattle.cli_args.proofs.plan.port_of.Goals as goal

within : 65535 < 2 ^ 16
within = ltb-true _ _ refl

pub returns-then-port-eq0 : goal.returns-then-port-eq0
returns-then-port-eq0 c = sym (number-below 16 1 65535 c.in-Ok.port c.args.word.now c.in-Ok.ensures.value.0 (omega (arith, c.if-port-eq0.true)))

pub returns-else-port-eq0 : goal.returns-else-port-eq0
returns-else-port-eq0 c = sym (number-parsed 16 1 65535 c.in-Ok.port c.args.word.now c.in-Ok.ensures.value.0 (omega (arith, c.if-port-eq0.false)) (omega (arith, c.in-Ok.ensures.value.0.0.1, c.in-Ok.ensures.value.0.1, within)))

pub returns-in-Err : goal.returns-in-Err
returns-in-Err c = sym (number-unread 16 1 65535 c.args.word.now c.in-Err.ensures.value.0 within)
