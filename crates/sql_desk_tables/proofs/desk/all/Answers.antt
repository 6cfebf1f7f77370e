use Rattle.sqlite.specs.Held.{state}
use Rattle.sql_lemmas.proofs.Commits.{query_opened}
use Rattle.sql_desk_tables.proofs.TableDeskLemmas.{reads, reads_keeps, shows}
use Rattle.sql_desk_tables.proofs.desk.all.Goals as goal

pub returns-clause-rows : goal.returns-clause-rows
returns-clause-rows g c = λ clean noted.
    reads (λ v. v.items) (state g.S.Store c.args.tx.now.conn.now) (state g.S.Store c.query_all.new.self.conn.now) c.query_all.result noted (c.query_all.ensures.ok clean)

pub returns-clause-preserved : goal.returns-clause-preserved
returns-clause-preserved g c = λ clean noted.
    reads_keeps (λ v. v.items) (state g.S.Store c.args.tx.now.conn.now) (state g.S.Store c.query_all.new.self.conn.now) c.query_all.result noted (c.query_all.ensures.ok clean) (c.query_all.ensures.err clean)

pub returns-clause-was_open : goal.returns-clause-was_open
returns-clause-was_open g c = λ clean is_open.
    query_opened (λ v. v.items) _ _ (state g.S.Store c.args.tx.now.conn.now) (state g.S.Store c.query_all.new.self.conn.now) c.query_all.result (c.query_all.ensures.ok clean) (c.query_all.ensures.err clean) is_open

pub returns-clause-shown : goal.returns-clause-shown
returns-clause-shown g c = λ clean. shows g.S.Store c.args.tx.now.conn.now c.query_all.new.self.conn.now (λ v. v.items) c.query_all.result (c.query_all.ensures.ok clean)
