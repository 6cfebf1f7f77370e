use Rattle.std.proofs.Common.{◌≡◌, Err, IsTrue, is_ok, true, rules}
use Rattle.std.proofs.lemmas.Result.{err_from_is_err_and}
use Rattle.sqlite.specs.declared.error.Error.TheVariants.{SqlInputError}
use Rattle.sqlite.specs.Held.{state}
use Rattle.sql_desk_tables.proofs.TableColumnLemmas.{not_missing, stays_prepared, stood, unread_if}
use Rattle.sql_desk_tables.proofs.columns.ask.Goals as goal

pub returns-in-Err-SqlInputError-clause-asked : goal.returns-in-Err-SqlInputError-clause-asked
returns-in-Err-SqlInputError-clause-asked g c =
    let old = state g.S.Store c.args.conn.now in
    let new = state g.S.Store c.prepare-prepared.new.self in
    let auto : IsTrue c.is_autocommit.result = search rules in
    let is : c.prepare-prepared.result ≡ Err (SqlInputError c.in-Err-SqlInputError.field-0-0) = search rules in
    record {
      crash = c.prepare-prepared.ensures.survives;
      same = λ clean is_open. stays_prepared old new c.args.sql.now c.prepare-prepared.result _ (c.prepare-prepared.ensures.ok clean) (c.prepare-prepared.ensures.err clean) (c.is_autocommit.ensures.settled auto) is_open;
      stand = λ _. tt;
      missed = λ clean no. unread_if old new c.args.sql.now c.prepare-prepared.result c.in-Err-SqlInputError.field-0-0 is (c.prepare-prepared.ensures.err clean);
    }

pub returns-in_err-prepared-clause-asked : goal.returns-in_err-prepared-clause-asked
returns-in_err-prepared-clause-asked g c =
    let old = state g.S.Store c.args.conn.now in
    let new = state g.S.Store c.prepare-prepared.new.self in
    let auto : IsTrue c.is_autocommit.result = search rules in
    let p = err_from_is_err_and c.from_residual.result c.from_residual.ensures.1 in
    rw (p.1, p.2) (record {
      crash = c.prepare-prepared.ensures.survives;
      same = λ clean is_open. stays_prepared old new c.args.sql.now c.prepare-prepared.result _ (c.prepare-prepared.ensures.ok clean) (c.prepare-prepared.ensures.err clean) (c.is_autocommit.ensures.settled auto) is_open;
      stand = λ _. tt;
      missed = λ clean no. absurd (not_missing _ no);
    })

pub returns-clause-asked : goal.returns-clause-asked
returns-clause-asked g c =
    let old = state g.S.Store c.args.conn.now in
    let new = state g.S.Store c.prepare-prepared.new.self in
    let auto : IsTrue c.is_autocommit.result = search rules in
    let is : is_ok c.prepare-prepared.result ≡ true = search rules in
    record {
      crash = c.prepare-prepared.ensures.survives;
      same = λ clean is_open. stays_prepared old new c.args.sql.now c.prepare-prepared.result _ (c.prepare-prepared.ensures.ok clean) (c.prepare-prepared.ensures.err clean) (c.is_autocommit.ensures.settled auto) is_open;
      stand = λ clean. stood old new c.args.sql.now c.prepare-prepared.result is (c.prepare-prepared.ensures.ok clean) (c.prepare-prepared.ensures.shape clean);
      missed = λ clean no. absurd cc;
    }
