use Rattle.std.proofs.Common.{◌≡◌, w64, rules, to_z, of_z, Some, refl}
use Rattle.sqlite.specs.Held.{state}
use Rattle.sqlite.specs.declared.types.Value.TheVariants.{Int}
use Rattle.sql_rows.specs.Marks.{declared_of}
use Rattle.sql_lemmas.proofs.Commits.{writes_nothing}
use Rattle.sql_meeting_tables.proofs.PollLemmas.{declares}
use Rattle.sql_meeting_tables.proofs.polls.declare.Goals as goal

pub returns-clause-set : goal.returns-clause-set
returns-clause-set g c = λ clean inside desk.
    let same_resolution : to_z w64 (of_z w64 c.in_ok-resolution.resolution) ≡ c.in_ok-resolution.resolution = search rules in
    let same_votes_for : to_z w64 (of_z w64 c.in_ok-votes_for.votes_for) ≡ c.in_ok-votes_for.votes_for = search rules in
    let same_votes_against : to_z w64 (of_z w64 c.in_ok-votes_against.votes_against) ≡ c.in_ok-votes_against.votes_against = search rules in
    let same_withheld : to_z w64 (of_z w64 c.in_ok-withheld.withheld) ≡ c.in_ok-withheld.withheld = search rules in
    let same_eligible : to_z w64 (of_z w64 c.in_ok-eligible.eligible) ≡ c.in_ok-eligible.eligible = search rules in
    let figures : declared_of (Int c.in_ok-votes_for.votes_for) (Int c.in_ok-votes_against.votes_against) (Int c.in_ok-withheld.withheld) (Int c.in_ok-eligible.eligible) ≡ Some (Some c.args.tally) =
    rw (c.in_ok-votes_for.ensures.reads_back, c.in_ok-votes_against.ensures.reads_back, c.in_ok-withheld.ensures.reads_back, c.in_ok-eligible.ensures.reads_back) refl in
    declares c.args.poll c.meeting_text.result.now c.in_ok-resolution.resolution c.meeting_text.ensures c.in_ok-resolution.ensures.reads_back
    c.in_ok-votes_for.votes_for c.in_ok-votes_against.votes_against c.in_ok-withheld.withheld c.in_ok-eligible.eligible c.args.tally figures
    (state g.S.Store c.args.tx.now.conn.now) (state g.S.Store c.execute.new.self.conn.now) c.execute.result desk inside
    (rw (c.params-to_sql.ensures, c.params-to_sql-2.ensures, c.params-to_sql-3.ensures, c.params-to_sql-4.ensures, c.params-to_sql-5.ensures, c.params-to_sql-6.ensures, same_resolution, same_votes_for, same_votes_against, same_withheld, same_eligible) at (c.execute.ensures.runs clean inside))

pub returns-clause-commits : goal.returns-clause-commits
returns-clause-commits g c = writes_nothing g.S.Store c.args.tx.now.conn.now c.execute.new.self.conn.now _ _ c.execute.result c.execute.ensures.ended c.execute.ensures.runs c.execute.ensures.survives
