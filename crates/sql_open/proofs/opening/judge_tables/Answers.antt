use Rattle.std.proofs.Common.{◌≡◌, Err, rules}
use Rattle.sql_open.specs.Opening.{fault_of_reading}
use Rattle.sql_open.proofs.OpeningLemmas.{verdict_right, verdict_wrong}
use Rattle.sql_open.proofs.opening.judge_tables.Goals as goal

pub returns-in_err-judge_office-clause-judged : goal.returns-in_err-judge_office-clause-judged
returns-in_err-judge_office-clause-judged g c =
    let is : c.from_residual.result ≡ Err (fault_of_reading c.in_err-judge_office.field-0.0) = search rules in
    verdict_wrong g.S.Store _ _ c.in_err-judge_office.field-0.0 c.from_residual.result is c.in_err-judge_office.ensures.judged

pub returns-clause-judged : goal.returns-clause-judged
returns-clause-judged g c = verdict_right g.S.Store _ _ c.in_ok-judge_office.field-0 c.in_ok-judge_office.ensures.judged
