use Rattle.std.proofs.Common.{◌≡◌, w64, rules, to_z, of_z}
use Rattle.sqlite.specs.Held.{state}
use Rattle.sql_lemmas.proofs.Commits.{writes_nothing}
use Rattle.sql_meeting_tables.proofs.PollLemmas.{starts}
use Rattle.sql_meeting_tables.proofs.polls.start.Goals as goal

pub returns-clause-set : goal.returns-clause-set
returns-clause-set g c = λ clean inside desk.
    let same_resolution : to_z w64 (of_z w64 c.in_ok-resolution.resolution) ≡ c.in_ok-resolution.resolution = search rules in
    let same_moment : to_z w64 (of_z w64 c.moment_number.result) ≡ c.moment_number.result = search rules in
    starts c.args.poll c.meeting_text.result.now c.in_ok-resolution.resolution c.meeting_text.ensures c.in_ok-resolution.ensures.reads_back c.moment_number.result c.args.moment c.moment_number.ensures
    (state g.S.Store c.args.tx.now.conn.now) (state g.S.Store c.execute.new.self.conn.now) c.execute.result desk inside
    (rw (c.params-to_sql.ensures, c.params-to_sql-2.ensures, c.params-to_sql-3.ensures, same_resolution, same_moment) at (c.execute.ensures.runs clean inside))

pub returns-clause-commits : goal.returns-clause-commits
returns-clause-commits g c = writes_nothing g.S.Store c.args.tx.now.conn.now c.execute.new.self.conn.now _ _ c.execute.result c.execute.ensures.ended c.execute.ensures.runs c.execute.ensures.survives
