use Rattle.std.proofs.Common.{arith}
use Rattle.http_heads.specs.declared.length.TheConstants.{LONGEST_BODY}
use Rattle.http_heads.proofs.FieldLemmas.{digit_at, capped_more}
use Rattle.http_heads.proofs.length.capped_number.Goals as goal

pub loop-digit-preserved : goal.loop-digit-preserved
loop-digit-preserved c =
    let digit = digit_at c.args.digits.now c.loop-digit.digit-index c.loop-digit-test.true c.requires in
    omega (arith, digit, capped_more c.args.digits.now c.loop-digit.digit-index c.loop-digit.number LONGEST_BODY c.loop-digit-test.true c.loop-digit.invariant)
