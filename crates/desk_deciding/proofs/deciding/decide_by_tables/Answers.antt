use Rattle.std.proofs.Common.{◌≡◌, Err, rules}
use Rattle.meeting_core.specs.Decisions.{party_call}
use Rattle.sql_load.proofs.StoredOfficeLemmas.{holds_stop}
use Rattle.desk_deciding.specs.Deciding.{IsDecided}
use Rattle.desk_deciding.proofs.ReturnedLemmas.{returned_office}
use Rattle.desk_deciding.proofs.DecidingLemmas.{holds_next}
use Rattle.desk_deciding.proofs.deciding.decide_by_tables.Goals as goal

pub returns-in_err-public-clause-holds : goal.returns-in_err-public-clause-holds
returns-in_err-public-clause-holds g c =
    let call = party_call c.args.party c.args.meeting c.args.now c.args.asked.now in
    let is : c.from_residual.result ≡ Err c.in_err-public.field-0.0 = search rules in
    returned_office g.S.Store _ _ _ (IsDecided call) (holds_stop g.S.Store _ _ _ (IsDecided call) c.in_err-public.field-0.0 c.from_residual.result is c.in_err-public.ensures.holds)

pub returns-clause-holds : goal.returns-clause-holds
returns-clause-holds g c =
    holds_next g.S.Store _ _ _ c.in_ok-public.public c.decide_by_rows.result _ (IsDecided (party_call c.args.party c.args.meeting c.args.now c.args.asked.now)) c.in_ok-public.ensures.holds c.decide_by_rows.ensures.holds
