use Rattle.sqlite.specs.Held.{state}
use Rattle.sql_lemmas.proofs.Commits.{writes_nothing}
use Rattle.sql_desk_tables.proofs.TableDeskLemmas.{raises}
use Rattle.sql_desk_tables.proofs.desk.raise.Goals as goal

pub returns-clause-set : goal.returns-clause-set
returns-clause-set g c = λ clean inside desk.
    raises (state g.S.Store c.args.tx.now.conn.now) (state g.S.Store c.execute.new.self.conn.now) c.execute.result desk inside (c.execute.ensures.runs clean inside)

pub returns-clause-commits : goal.returns-clause-commits
returns-clause-commits g c = writes_nothing g.S.Store c.args.tx.now.conn.now c.execute.new.self.conn.now _ _ c.execute.result c.execute.ensures.ended c.execute.ensures.runs c.execute.ensures.survives
