use Rattle.meeting_core.specs.Decisions.{party_call}
use Rattle.desk_deciding.specs.Deciding.{IsDecided}
use Rattle.desk_deciding.proofs.DecidingLemmas.{returned_also, holds_there}
use Rattle.desk_deciding.proofs.deciding.decide_for_party.Goals as goal

pub returns-in-Some-clause-holds : goal.returns-in-Some-clause-holds
returns-in-Some-clause-holds g c =
    returned_also g.S.Store _ _ c.decide_by_rows.result _ _ c.decide_by_rows.ensures.holds (λ office preserved answer is cached. is (c.in-Some.ensures.agrees office cached))

pub returns-in-None-clause-holds : goal.returns-in-None-clause-holds
returns-in-None-clause-holds g c =
    holds_there g.S.Store _ _ c.decide_uncached.result _ (IsDecided (party_call c.args.party c.args.meeting c.args.now c.args.asked.now)) c.decide_uncached.ensures.holds
