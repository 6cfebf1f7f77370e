use Rattle.std.proofs.Common.{◌≡◌, rules, refl, Err}
use Rattle.sql_load.proofs.ReadingLemmas.{last, stop, then}
use Rattle.sql_open.proofs.meeting_lists.read_given.Goals as goal

pub returns-in_err-appointments-clause-read : goal.returns-in_err-appointments-clause-read
returns-in_err-appointments-clause-read g c =
    let is : c.from_residual.result ≡ Err c.in_err-appointments.field-0.0 = search rules in
    stop g.S.Store _ _ _ _ _ _ c.from_residual.result is c.in_err-appointments.ensures.read

pub returns-in_err-endings-clause-read : goal.returns-in_err-endings-clause-read
returns-in_err-endings-clause-read g c =
    let is : c.from_residual-in_err-endings.result ≡ Err c.in_err-endings.field-0.0 = search rules in
    then g.S.Store _ _ _ _ _ _ _ _ c.in_ok-appointments.ensures.read (stop g.S.Store _ _ _ _ _ _ c.from_residual-in_err-endings.result is c.in_err-endings.ensures.read)

pub returns-in_err-authorities-clause-read : goal.returns-in_err-authorities-clause-read
returns-in_err-authorities-clause-read g c =
    let is : c.from_residual-in_err-authorities.result ≡ Err c.in_err-authorities.field-0.0 = search rules in
    then g.S.Store _ _ _ _ _ _ _ _ c.in_ok-appointments.ensures.read (then g.S.Store _ _ _ _ _ _ _ _ c.in_ok-endings.ensures.read (stop g.S.Store _ _ _ _ _ _ c.from_residual-in_err-authorities.result is c.in_err-authorities.ensures.read))

pub returns-clause-read : goal.returns-clause-read
returns-clause-read g c =
    then g.S.Store _ _ _ _ _ _ _ _ c.in_ok-appointments.ensures.read (then g.S.Store _ _ _ _ _ _ _ _ c.in_ok-endings.ensures.read (last g.S.Store _ _ _ _ _ _ _ c.in_ok-authorities.ensures.read refl))
