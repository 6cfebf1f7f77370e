use Rattle.std.proofs.Common.{◌≡◌, w64, rules, to_z, of_z}
use Rattle.sqlite.specs.Held.{state}
use Rattle.sql_lemmas.proofs.Commits.{writes_nothing}
use Rattle.sql_desk_tables.proofs.TableSessionLemmas.{opens}
use Rattle.sql_desk_tables.proofs.sessions.open.Goals as goal

pub returns-clause-set : goal.returns-clause-set
returns-clause-set g c = λ clean inside desk.
    let same_0 : to_z w64 (of_z w64 c.in_ok-number.number) ≡ c.in_ok-number.number = search rules in
    let same_1 : to_z w64 (of_z w64 c.moment_number.result) ≡ c.moment_number.result = search rules in
    opens c.args.meeting c.meeting_text.result.now c.args.number c.in_ok-number.number c.moment_number.result c.args.moment c.meeting_text.ensures c.in_ok-number.ensures.reads_back c.moment_number.ensures
    (state g.S.Store c.args.tx.now.conn.now) (state g.S.Store c.execute.new.self.conn.now) c.execute.result desk inside
    (rw (c.params-to_sql.ensures, c.params-to_sql-2.ensures, c.params-to_sql-3.ensures, same_0, same_1) at (c.execute.ensures.runs clean inside))

pub returns-clause-commits : goal.returns-clause-commits
returns-clause-commits g c = writes_nothing g.S.Store c.args.tx.now.conn.now c.execute.new.self.conn.now _ _ c.execute.result c.execute.ensures.ended c.execute.ensures.runs c.execute.ensures.survives
