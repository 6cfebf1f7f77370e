use Rattle.std.proofs.Common.{rules}
use Rattle.sql_queries.proofs.polls.OfMeetingQuery.finding.Goals as goal

pub returns : goal.returns
returns c = search rules
