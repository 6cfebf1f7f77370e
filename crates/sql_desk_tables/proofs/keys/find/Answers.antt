use Rattle.sqlite.specs.Held.{state}
use Rattle.sql_lemmas.proofs.Commits.{query_opened}
use Rattle.sql_desk_tables.proofs.TableKeyLemmas.{finds_secret, find_keeps}
use Rattle.sql_desk_tables.proofs.keys.find.Goals as goal

pub returns-clause-rows : goal.returns-clause-rows
returns-clause-rows g c = λ read.
    finds_secret (λ v. v.items) c.args.secret.now c.key_text.result.now c.key_text.ensures (state g.S.Store c.args.tx.now.conn.now) (state g.S.Store c.query_all.new.self.conn.now) c.query_all.result read.1
    (rw c.params-to_sql.ensures at (c.query_all.ensures.ok read.0))

pub returns-clause-changes : goal.returns-clause-changes
returns-clause-changes g c = record {
  preserved = λ read.
      find_keeps (λ v. v.items) c.key_text.result.now (state g.S.Store c.args.tx.now.conn.now) (state g.S.Store c.query_all.new.self.conn.now) c.query_all.result read.1
      (rw c.params-to_sql.ensures at (c.query_all.ensures.ok read.0)) (rw c.params-to_sql.ensures at (c.query_all.ensures.err read.0));
  was_open = λ clean.
      query_opened (λ v. v.items) _ _ (state g.S.Store c.args.tx.now.conn.now) (state g.S.Store c.query_all.new.self.conn.now) c.query_all.result (c.query_all.ensures.ok clean) (c.query_all.ensures.err clean);
  crash = c.query_all.ensures.survives;
}
