use Rattle.std.proofs.Common.{◌≡◌, Err, rules}
use Rattle.desk_words.specs.declared.request.PartyRequest.TheVariants.{Notice}
use Rattle.meeting_core.specs.Decisions.{party_call}
use Rattle.sql_load.proofs.StoredOfficeLemmas.{holds_stop}
use Rattle.desk_deciding.specs.Deciding.{IsDecided}
use Rattle.desk_deciding.proofs.ReturnedLemmas.{returned_office}
use Rattle.desk_deciding.proofs.DecidingLemmas.{returned_made}
use Rattle.desk_deciding.proofs.ReturnedLemmas.{failed_returned}
use Rattle.desk_deciding.proofs.deciding.decide_notice.Goals as goal

pub returns-in_err-public-clause-holds : goal.returns-in_err-public-clause-holds
returns-in_err-public-clause-holds g c =
    let call = party_call c.args.party c.args.meeting c.args.now Notice in
    let is : c.from_residual.result ≡ Err c.in_err-public.field-0.0 = search rules in
    returned_office g.S.Store _ _ _ (IsDecided call) (holds_stop g.S.Store _ _ _ (IsDecided call) c.in_err-public.field-0.0 c.from_residual.result is c.in_err-public.ensures.holds)

pub returns-in_err-answer-clause-holds : goal.returns-in_err-answer-clause-holds
returns-in_err-answer-clause-holds g c =
    let call = party_call c.args.party c.args.meeting c.args.now Notice in
    failed_returned g.S.Store _ _ _ (IsDecided call) _ c.from_residual-in_err-answer.result c.from_residual-in_err-answer.ensures.0 (returned_office g.S.Store _ _ _ _ c.in_ok-public.ensures.holds)

pub returns-clause-holds : goal.returns-clause-holds
returns-clause-holds g c =
    returned_made g.S.Store _ _ c.in_ok-public.public _ _ (IsDecided (party_call c.args.party c.args.meeting c.args.now Notice)) c.in_ok-public.ensures.holds
    (λ office preserved p. c.in_ok-answer.ensures office p preserved)
