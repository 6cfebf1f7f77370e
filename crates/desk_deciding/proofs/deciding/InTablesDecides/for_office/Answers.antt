use Rattle.std.proofs.Common.{rules}
use Rattle.meeting_core.specs.Decisions.{office_call}
use Rattle.desk_deciding.specs.Deciding.{IsDecided}
use Rattle.desk_deciding.proofs.DecidingLemmas.{holds_there}
use Rattle.desk_deciding.proofs.deciding.InTablesDecides.for_office.Goals as goal

pub returns : goal.returns
returns g c = (
  search rules,
  search rules,
  holds_there g.S.Store _ _ c.decide_for_office.result _ (IsDecided (office_call c.args.meeting c.args.now c.args.asked.now)) c.decide_for_office.ensures.holds,
)
