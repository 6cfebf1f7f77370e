use Rattle.std.proofs.Common.{[], refl}
use Rattle.sqlite.specs.Held.{state}
use Rattle.sql_lemmas.proofs.Commits.{writes_nothing}
use Rattle.sql_lemmas.proofs.Emptying.{empties, leaves_rows}
use Rattle.sql_lemmas.proofs.Frames.{twos_apart}
use Rattle.sql_schema.specs.Statements.{layout_two}
use Rattle.sql_stored.specs.Stored.{emptying_text}
use Rattle.sql_stored.proofs.table.empty.Goals as goal

pub returns-clause-emptied : goal.returns-clause-emptied
returns-clause-emptied g c = λ clean inside desk.
    let old = state g.S.Store c.args.tx.now.conn.now in
    let new = state g.S.Store c.execute.new.self.conn.now in
    let it = g.T.ListedTable.table in
    let declared = g.T.ListedTable.declared in
    let lists = g.met.T.ListedTable.lists in
    let law = g.met.T.EmptiedTable.empties in
    let runs = law.runs old.now.schema desk.schema in
    empties layout_two it old new c.execute.result
    (leaves_rows (twos_apart old.now.schema desk.schema) law.place (record declared { tree = it.number }) [] (emptying_text declared) [] runs.is runs.plain runs.there lists.numbered lists.none old new c.execute.result refl desk inside
    (rw c.emptying.ensures at (c.execute.ensures.runs clean inside)))

pub returns-clause-commits : goal.returns-clause-commits
returns-clause-commits g c = writes_nothing g.S.Store c.args.tx.now.conn.now c.execute.new.self.conn.now _ _ c.execute.result c.execute.ensures.ended c.execute.ensures.runs c.execute.ensures.survives
