use Rattle.sqlite.specs.Held.{state}
use Rattle.sql_lemmas.proofs.Commits.{writes_nothing}
use Rattle.sql_desk_tables.proofs.TableRegisterLemmas.{empties_meeting}
use Rattle.sql_desk_tables.proofs.register.empty.Goals as goal

pub returns-clause-emptied : goal.returns-clause-emptied
returns-clause-emptied g c = λ clean inside desk.
    empties_meeting c.args.meeting c.meeting_text.result.now c.meeting_text.ensures (state g.S.Store c.args.tx.now.conn.now) (state g.S.Store c.execute.new.self.conn.now) c.execute.result desk inside
    (rw c.params-to_sql.ensures at (c.execute.ensures.runs clean inside))

pub returns-clause-commits : goal.returns-clause-commits
returns-clause-commits g c = writes_nothing g.S.Store c.args.tx.now.conn.now c.execute.new.self.conn.now _ _ c.execute.result c.execute.ensures.ended c.execute.ensures.runs c.execute.ensures.survives
