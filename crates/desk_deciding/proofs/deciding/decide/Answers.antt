use Rattle.std.proofs.Common.{sym}
use Rattle.desk_deciding.proofs.deciding.decide.Goals as goal

pub returns-clause-holds : goal.returns-clause-holds
returns-clause-holds g c =
    let all = c.decide_by.ensures in
    let handed_back = c.tx-1.given.1 (sym all.0) in
    rw handed_back all.2
