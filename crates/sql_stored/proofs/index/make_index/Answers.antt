use Rattle.sqlite.specs.Held.{state}
use Rattle.sql_lemmas.proofs.Commits.{writes_nothing}
use Rattle.sql_lemmas.proofs.Making.{index_made}
use Rattle.sql_stored.proofs.index.make_index.Goals as goal

pub returns-clause-made : goal.returns-clause-made
returns-clause-made g c = λ clean inside empty.
    index_made g.met.I.StoredIndex.makes (state g.S.Store c.args.tx.now.conn.now) (state g.S.Store c.execute.new.self.conn.now) c.execute.result empty inside
    (rw c.making.ensures at (c.execute.ensures.runs clean inside))

pub returns-clause-commits : goal.returns-clause-commits
returns-clause-commits g c = writes_nothing g.S.Store c.args.tx.now.conn.now c.execute.new.self.conn.now _ _ c.execute.result c.execute.ensures.ended c.execute.ensures.runs c.execute.ensures.survives
