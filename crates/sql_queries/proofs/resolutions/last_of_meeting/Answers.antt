use Rattle.sql_queries.proofs.LastQueries.{finds_last}
use Rattle.sql_lemmas.proofs.Queries.{asked_alone}
use Rattle.sql_queries.proofs.ResolutionQueries.{last_of_meeting}
use Rattle.sql_queries.proofs.resolutions.last_of_meeting.Goals as goal

pub returns-clause-rows : goal.returns-clause-rows
returns-clause-rows g c =
    finds_last g.S.Store c.args.tx.now.conn.now c.query_all.new.self.conn.now (λ v. v.items) (last_of_meeting c.args.meeting c.meeting_text.result.now c.meeting_text.ensures) c.query_all.result (λ clean. rw c.params-to_sql.ensures at (c.query_all.ensures.ok clean))

pub returns-clause-changes : goal.returns-clause-changes
returns-clause-changes g c =
    let q = last_of_meeting c.args.meeting c.meeting_text.result.now c.meeting_text.ensures in
    asked_alone g.S.Store c.args.tx.now.conn.now c.query_all.new.self.conn.now (λ v. v.items) _ _ c.query_all.result (λ read. (q.asks _ read.1.schema).plain) (λ clean. rw c.params-to_sql.ensures at (c.query_all.ensures.ok clean))
    (λ clean. rw c.params-to_sql.ensures at (c.query_all.ensures.err clean)) c.query_all.ensures.survives
