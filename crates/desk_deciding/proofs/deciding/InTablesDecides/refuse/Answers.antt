use Rattle.std.proofs.Common.{◌≡◌, rules}
use Rattle.desk_words.specs.Rulings as ruling
use Rattle.desk_deciding.specs.Deciding.{IsDecided}
use Rattle.desk_deciding.proofs.DecidingLemmas.{decided_so, returned_also, holds_there}
use Rattle.desk_deciding.proofs.deciding.InTablesDecides.refuse.Goals as goal

pub returns : goal.returns
returns g c = λ call so. (
  search rules,
  search rules,
  holds_there g.S.Store _ _ c.refused.result _ (IsDecided call) (returned_also g.S.Store _ _ c.refused.result (λ office answer. answer ≡ ruling.refused c.args.refusal) (IsDecided call) c.refused.ensures.holds (decided_so call c.args.refusal so)),
)
