use Rattle.sql_open.proofs.OpenedFoundLemmas.{found_rise}
use Rattle.sql_open.proofs.laws.found_rows_rise.Goals as goal

pub returns : goal.returns
returns c = found_rise
