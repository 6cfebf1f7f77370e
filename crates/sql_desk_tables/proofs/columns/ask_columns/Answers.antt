use Rattle.std.proofs.Common.{◌≡◌, Err, rules}
use Rattle.sql_desk_tables.proofs.TableColumnLemmas.{asks_stop, asks_then}
use Rattle.sql_desk_tables.proofs.columns.ask_columns.Goals as goal

pub returns-in_err-ask_columns_one-clause-asked : goal.returns-in_err-ask_columns_one-clause-asked
returns-in_err-ask_columns_one-clause-asked g c =
    let is : c.from_residual.result ≡ Err c.in_err-ask_columns_one.field-0.0 = search rules in
    asks_stop g.S.Store _ _ _ _ c.from_residual.result is c.in_err-ask_columns_one.ensures.asked

pub returns-clause-asked : goal.returns-clause-asked
returns-clause-asked g c = asks_then g.S.Store _ _ _ _ _ _ c.in_ok-ask_columns_one.ensures.asked c.ask_each.ensures.asked
