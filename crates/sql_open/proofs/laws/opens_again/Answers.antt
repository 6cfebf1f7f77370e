use Rattle.sql_open.proofs.CrashLemmas.{whole_again}
use Rattle.sql_open.proofs.laws.opens_again.Goals as goal

pub returns : goal.returns
returns g c = whole_again g.S.Store
