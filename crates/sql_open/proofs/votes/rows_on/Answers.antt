use Rattle.sql_open.proofs.VoteLemmas.{nothing_changed_on, shown_on}
use Rattle.sql_open.proofs.votes.rows_on.Goals as goal

pub returns-clause-rows : goal.returns-clause-rows
returns-clause-rows g c = shown_on g.S.Store c.args.tx.now.conn.now c.ask.new.tx.conn.now (λ v. v.items) c.ask.result c.args.meeting c.args.resolution (rw c.finding.ensures at c.ask.ensures.asked)

pub returns-clause-changes : goal.returns-clause-changes
returns-clause-changes g c = nothing_changed_on g.S.Store c.args.tx.now.conn.now c.ask.new.tx.conn.now (λ v. v.items) c.ask.result c.args.meeting c.args.resolution (rw c.finding.ensures at c.ask.ensures.asked)
