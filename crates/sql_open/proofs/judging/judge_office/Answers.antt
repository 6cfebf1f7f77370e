use Rattle.sql_open.proofs.JudgedLemmas.{office_judged}
use Rattle.sql_open.proofs.judging.judge_office.Goals as goal

pub returns-clause-judged : goal.returns-clause-judged
returns-clause-judged g c = office_judged g.S.Store _ _ c.judge_parts.result c.judge_parts.ensures.read
