use Rattle.std.proofs.Common.{rules}
use Rattle.meeting_core.specs.Decisions.{desk_call}
use Rattle.desk_deciding.specs.Deciding.{IsDecided, IsDecidedAlways}
use Rattle.desk_deciding.proofs.DecidingLemmas.{returned_also, holds_there}
use Rattle.desk_deciding.proofs.deciding.InTablesDecides.for_desk.Goals as goal

pub returns : goal.returns
returns g c =
    let what = c.args.asked.now in (
      search rules,
      search rules,
      holds_there g.S.Store _ _ c.decide_for_desk.result _ (IsDecided (desk_call c.args._now what)) (returned_also g.S.Store _ _ c.decide_for_desk.result (IsDecidedAlways what) (IsDecided (desk_call c.args._now what)) c.decide_for_desk.ensures.holds (λ office preserved answer is. is c.args._now)),
    )
