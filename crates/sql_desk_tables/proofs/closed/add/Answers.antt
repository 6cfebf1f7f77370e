use Rattle.std.proofs.Common.{◌≡◌, w64, rules, to_z, of_z}
use Rattle.sqlite.specs.Held.{state}
use Rattle.sql_lemmas.proofs.Commits.{writes_nothing}
use Rattle.sql_desk_tables.proofs.ClosedLemmas.{adds_day}
use Rattle.sql_desk_tables.proofs.closed.add.Goals as goal

pub returns-clause-added : goal.returns-clause-added
returns-clause-added g c = λ clean inside desk.
    let same : to_z w64 (of_z w64 c.day_number.result) ≡ c.day_number.result = search rules in
    adds_day c.args.day c.day_number.result c.day_number.ensures (state g.S.Store c.args.tx.now.conn.now) (state g.S.Store c.execute.new.self.conn.now) c.execute.result desk inside
    (rw (c.params-to_sql.ensures, same) at (c.execute.ensures.runs clean inside))

pub returns-clause-commits : goal.returns-clause-commits
returns-clause-commits g c = writes_nothing g.S.Store c.args.tx.now.conn.now c.execute.new.self.conn.now _ _ c.execute.result c.execute.ensures.ended c.execute.ensures.runs c.execute.ensures.survives
