use Rattle.std.proofs.Common.{Ok, subst, sym}
use Rattle.sql_schema.specs.Contents.{casts}
use Rattle.sql_load.specs.LoadResults.{any_at_all}
use Rattle.sql_open.specs.Votes.{rows_on, votes_on}
use Rattle.sql_load.specs.WholeReading.{IsReading}
use Rattle.sql_open.proofs.MeetingReadLemmas.{own_read}
use Rattle.sql_open.proofs.votes.votes_on.Goals as goal

pub returns-clause-read : goal.returns-clause-read
returns-clause-read g c =
    let a = c.args.tx.now.conn.now in
    let b = c.rows_on.new.tx.conn.now in
    subst (λ l. IsReading g.S.Store a b any_at_all (Ok l) (votes_on c.args.meeting c.args.resolution)) (sym c.in_ok-filed.ensures)
    (own_read g.S.Store a b (λ v. v.items) casts (rows_on c.args.meeting c.args.resolution) c.rows_on.result c.rows_on.ensures.rows c.rows_on.ensures.changes c.records_found.result c.records_found.ensures (Ok c.in_ok-votes.votes) c.in_ok-votes.ensures)
