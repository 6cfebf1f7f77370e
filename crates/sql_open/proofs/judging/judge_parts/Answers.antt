use Rattle.std.proofs.Common.{◌≡◌, Err, rules}
use Rattle.sql_load.proofs.ReadingLemmas.{stop, then}
use Rattle.sql_open.proofs.judging.judge_parts.Goals as goal

pub returns-in_err-read_left-clause-read : goal.returns-in_err-read_left-clause-read
returns-in_err-read_left-clause-read g c =
    let is : c.from_residual.result ≡ Err c.in_err-read_left.field-0.0 = search rules in
    stop g.S.Store _ _ _ _ _ _ c.from_residual.result is c.in_err-read_left.ensures.read

pub returns-in_err-judge_keys-clause-read : goal.returns-in_err-judge_keys-clause-read
returns-in_err-judge_keys-clause-read g c =
    let is : c.from_residual-in_err-judge_keys.result ≡ Err c.in_err-judge_keys.field-0.0 = search rules in
    then g.S.Store _ _ _ _ _ _ _ _ c.in_ok-read_left.ensures.read (stop g.S.Store _ _ _ _ _ _ c.from_residual-in_err-judge_keys.result is c.in_err-judge_keys.ensures.read)

pub returns-in_err-judge_days-clause-read : goal.returns-in_err-judge_days-clause-read
returns-in_err-judge_days-clause-read g c =
    let is : c.from_residual-in_err-judge_days.result ≡ Err c.in_err-judge_days.field-0.0 = search rules in
    then g.S.Store _ _ _ _ _ _ _ _ c.in_ok-read_left.ensures.read (then g.S.Store _ _ _ _ _ _ _ _ c.in_ok-judge_keys.ensures.read (stop g.S.Store _ _ _ _ _ _ c.from_residual-in_err-judge_days.result is c.in_err-judge_days.ensures.read))

pub returns-clause-read : goal.returns-clause-read
returns-clause-read g c =
    then g.S.Store _ _ _ _ _ _ _ _ c.in_ok-read_left.ensures.read (then g.S.Store _ _ _ _ _ _ _ _ c.in_ok-judge_keys.ensures.read (then g.S.Store _ _ _ _ _ _ _ _ c.in_ok-judge_days.ensures.read c.judge_meetings.ensures.read))
