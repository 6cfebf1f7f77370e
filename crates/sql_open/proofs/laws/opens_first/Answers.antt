use Rattle.sql_open.proofs.WholeLemmas.{first_stands}
use Rattle.sql_open.proofs.laws.opens_first.Goals as goal

pub returns : goal.returns
returns g c = first_stands g.S.Store
