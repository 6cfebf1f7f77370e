use Rattle.sql_queries.proofs.CastQueries.{cast_count_query}
use Rattle.sql_queries.proofs.CountQueries.{asked_for_nothing, counts_asked}
use Rattle.sql_queries.proofs.casts.count_cast_on.Goals as goal

pub returns-clause-rows : goal.returns-clause-rows
returns-clause-rows g c =
    counts_asked g.S.Store c.args.tx.now.conn.now c.ask.new.tx.conn.now (λ v. v.items) (cast_count_query c.args.meeting c.args.voter c.args.resolution) c.ask.result c.ask.ensures.asked

pub returns-clause-changes : goal.returns-clause-changes
returns-clause-changes g c =
    asked_for_nothing g.S.Store c.args.tx.now.conn.now c.ask.new.tx.conn.now (λ v. v.items) (cast_count_query c.args.meeting c.args.voter c.args.resolution) c.ask.result c.ask.ensures.asked
