use Rattle.std.proofs.Common.{ap, Err, arith}
use Rattle.http_heads.proofs.HeadLemmas.{never_broken, not_crowded}
use Rattle.http_heads.proofs.heads.judge_crowded.Goals as goal

pub returns-in-Err : goal.returns-in-Err
returns-in-Err c =
    let never = c.in-Err.ensures.invalid (λ e. not_crowded c.args.bytes.now 2731 c.requires.short (omega arith) (c.in-Err.ensures.too_many (ap Err e))) in
    λ left held. never_broken c.args.bytes.now left c.requires.short never
