use Rattle.std.proofs.Common.{◌≡◌, true, true≢false, sym, ◌∙◌, rules}
use Rattle.http_heads.proofs.HeadLemmas.{never_broken}
use Rattle.http_heads.proofs.heads.judge.Goals as goal

pub returns-in-Err-2-clause-found : goal.returns-in-Err-2-clause-found
returns-in-Err-2-clause-found c =
    let never = c.in-Err.ensures.invalid (λ e. let met : c.eq.result ≡ true = rw e at c.eq.ensures in absurd (true≢false (sym met ∙ c.if-eq.false))) in
    λ left. never_broken c.args.bytes.now left c.requires.short never

pub returns-in-Err-clause-found : goal.returns-in-Err-clause-found
returns-in-Err-clause-found c = search rules
