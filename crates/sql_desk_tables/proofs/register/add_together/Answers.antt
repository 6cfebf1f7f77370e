use Rattle.sqlite.specs.Held.{state}
use Rattle.sql_lemmas.proofs.Commits.{writes_nothing}
use Rattle.sql_desk_tables.proofs.TogetherLemmas.{adds_together}
use Rattle.sql_desk_tables.proofs.register.add_together.Goals as goal

pub returns-clause-added : goal.returns-clause-added
returns-clause-added g c = λ clean inside desk.
    let (name, each, is, meeting_is, means) = c.in_ok-values.ensures in
    adds_together c.args.meeting name meeting_is each c.args.rows.now c.type_inv.rows means
    (state g.S.Store c.args.tx.now.conn.now) (state g.S.Store c.execute.new.self.conn.now) c.execute.result desk inside
    (rw (c.as_slice.ensures.value, is) at (c.execute.ensures.runs clean inside))

pub returns-clause-commits : goal.returns-clause-commits
returns-clause-commits g c = writes_nothing g.S.Store c.args.tx.now.conn.now c.execute.new.self.conn.now _ _ c.execute.result c.execute.ensures.ended c.execute.ensures.runs c.execute.ensures.survives
