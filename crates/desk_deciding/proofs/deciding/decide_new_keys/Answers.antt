use Rattle.std.proofs.Common.{◌≡◌, Err, rules}
use Rattle.desk_words.specs.declared.request.DeskRequest.TheVariants.{Keys}
use Rattle.sql_load.proofs.StoredOfficeLemmas.{holds_stop}
use Rattle.desk_deciding.specs.Deciding.{IsDecidedAlways}
use Rattle.desk_deciding.proofs.DecidingLemmas.{returned_made}
use Rattle.desk_deciding.proofs.ReturnedLemmas.{returned_office}
use Rattle.desk_deciding.proofs.ReturnedLemmas.{failed_returned}
use Rattle.desk_deciding.proofs.deciding.decide_new_keys.Goals as goal

pub returns-in_err-held-clause-holds : goal.returns-in_err-held-clause-holds
returns-in_err-held-clause-holds g c =
    let what = Keys c.args.rows.now in
    let is : c.from_residual.result ≡ Err c.in_err-held.field-0.0 = search rules in
    returned_office g.S.Store _ _ _ (IsDecidedAlways what) (holds_stop g.S.Store _ _ _ (IsDecidedAlways what) c.in_err-held.field-0.0 c.from_residual.result is c.in_err-held.ensures.holds)

pub returns-in_err-answer-clause-holds : goal.returns-in_err-answer-clause-holds
returns-in_err-answer-clause-holds g c =
    let what = Keys c.args.rows.now in
    failed_returned g.S.Store _ _ _ (IsDecidedAlways what) _ c.from_residual-in_err-answer.result c.from_residual-in_err-answer.ensures.0 (returned_office g.S.Store _ _ _ _ c.in_ok-held.ensures.holds)

pub returns-clause-holds : goal.returns-clause-holds
returns-clause-holds g c =
    returned_made g.S.Store _ _ c.in_ok-held.held _ _ (IsDecidedAlways (Keys c.args.rows.now)) c.in_ok-held.ensures.holds
    (λ office preserved same now. record { is = c.in_ok-answer.ensures.decided office now same; preserved = c.in_ok-answer.ensures.valid office preserved same })
