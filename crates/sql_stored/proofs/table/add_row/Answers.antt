use Rattle.sqlite.specs.Held.{state}
use Rattle.sqlite.specs.Values.{bound}
use Rattle.sql_lemmas.proofs.Adding.{adds_given}
use Rattle.sql_lemmas.proofs.Commits.{writes_nothing}
use Rattle.sql_lemmas.proofs.Frames.{twos_apart}
use Rattle.sql_stored.proofs.table.add_row.Goals as goal

pub returns-clause-added : goal.returns-clause-added
returns-clause-added g c = λ added row clean inside desk.
    adds_given twos_apart g.met.T.FilledTable.adds (bound c.args.values.now) row.cells added row.preserved row.means
    (state g.S.Store c.args.tx.now.conn.now) (state g.S.Store c.execute.new.self.conn.now) c.execute.result desk inside
    (rw c.adding.ensures at (c.execute.ensures.runs clean inside))

pub returns-clause-commits : goal.returns-clause-commits
returns-clause-commits g c = writes_nothing g.S.Store c.args.tx.now.conn.now c.execute.new.self.conn.now _ _ c.execute.result c.execute.ensures.ended c.execute.ensures.runs c.execute.ensures.survives
