use Rattle.std.proofs.Common.{◌≡◌, Err, rules}
use Rattle.sql_open.proofs.JudgedLemmas.{office_whole}
use Rattle.sql_load.proofs.ReadingLemmas.{stop, then}
use Rattle.sql_open.proofs.office.read_office.Goals as goal

pub returns-in_err-judge_parts-clause-read : goal.returns-in_err-judge_parts-clause-read
returns-in_err-judge_parts-clause-read g c =
    let is : c.from_residual.result ≡ Err c.in_err-judge_parts.field-0.0 = search rules in
    office_whole g.S.Store _ _ c.from_residual.result (stop g.S.Store _ _ _ _ _ _ c.from_residual.result is c.in_err-judge_parts.ensures.read)

pub returns-clause-read : goal.returns-clause-read
returns-clause-read g c = office_whole g.S.Store _ _ c.office_by_meetings.result (then g.S.Store _ _ _ _ _ _ _ _ c.in_ok-judge_parts.ensures.read c.office_by_meetings.ensures.read)
