use Rattle.sql_lemmas.proofs.SqlNumberLemmas.{offices_fit}
use Rattle.sql_lemmas.proofs.laws.numbers_of_an_office_fit.Goals as goal

pub returns : goal.returns
returns c = offices_fit
