use Rattle.sql_lemmas.proofs.Queries.{asked_alone}
use Rattle.sql_queries.proofs.CountQueries.{counts}
use Rattle.sql_queries.proofs.MeetingQueries.{meeting_count_query}
use Rattle.sql_queries.proofs.meetings.count.Goals as goal

pub returns-clause-rows : goal.returns-clause-rows
returns-clause-rows g c =
    counts g.S.Store c.args.tx.now.conn.now c.query_all.new.self.conn.now (λ v. v.items) meeting_count_query c.query_all.result c.query_all.ensures.ok

pub returns-clause-changes : goal.returns-clause-changes
returns-clause-changes g c =
    asked_alone g.S.Store c.args.tx.now.conn.now c.query_all.new.self.conn.now (λ v. v.items) _ _ c.query_all.result (λ read. (meeting_count_query.asks _ read.1.schema).plain) c.query_all.ensures.ok
    c.query_all.ensures.err c.query_all.ensures.survives
