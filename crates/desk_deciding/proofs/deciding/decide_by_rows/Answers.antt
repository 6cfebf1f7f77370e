use Rattle.std.proofs.Common.{◌≡◌, Err, ◌∙◌, rules}
use Rattle.meeting_core.specs.Decisions.{AreRead}
use Rattle.sql_load.proofs.StoredOfficeLemmas.{holds_stop}
use Rattle.desk_deciding.proofs.ReturnedLemmas.{returned_office}
use Rattle.desk_deciding.proofs.DecidingLemmas.{returned_made}
use Rattle.desk_deciding.proofs.ReturnedLemmas.{failed_returned}
use Rattle.desk_deciding.proofs.deciding.decide_by_rows.Goals as goal

pub returns-in_err-rows-clause-holds : goal.returns-in_err-rows-clause-holds
returns-in_err-rows-clause-holds g c =
    let is : c.from_residual.result ≡ Err c.in_err-rows.field-0.0 = search rules in
    returned_office g.S.Store _ _ _ _ (holds_stop g.S.Store _ _ _ _ c.in_err-rows.field-0.0 c.from_residual.result is c.in_err-rows.ensures.holds)

pub returns-in_err-answer-clause-holds : goal.returns-in_err-answer-clause-holds
returns-in_err-answer-clause-holds g c =
    failed_returned g.S.Store _ _ _ _ _ c.from_residual-in_err-answer.result c.from_residual-in_err-answer.ensures.0 (returned_office g.S.Store _ _ _ _ c.in_ok-rows.ensures.holds)

pub returns-clause-holds : goal.returns-clause-holds
returns-clause-holds g c =
    returned_made g.S.Store _ _ c.in_ok-rows.rows _ _ _ c.in_ok-rows.ensures.holds
    (λ office preserved own cached.
    let read : AreRead office c.args.party c.args.meeting c.args.asked.now c.record.result c.in_ok-rows.rows = record { public = c.record.ensures ∙ cached; own = own } in
    record { is = c.in_ok-answer.ensures.decided office c.args.party read; preserved = c.in_ok-answer.ensures.valid office c.args.party read preserved })
