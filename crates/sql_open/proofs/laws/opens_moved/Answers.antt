use Rattle.sql_open.proofs.CrashLemmas.{moved_again}
use Rattle.sql_open.proofs.laws.opens_moved.Goals as goal

pub returns : goal.returns
returns g c = moved_again g.S.Store
