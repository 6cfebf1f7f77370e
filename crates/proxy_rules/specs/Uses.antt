-- For what appointments of proxies, and their endings, are asked to count (sections 327 and 330).
use Rattle.std.specs.Prelude.{Option, Some, None}
use Rattle.desk_words.specs.ViewTypes.{SessionNumber}
use Rattle.desk_words.specs.declared.records.Poll.{Poll}
use Rattle.proxy_rules.specs.declared.cutoff.Use.{Use as LentUse}
use Rattle.proxy_rules.specs.declared.cutoff.Use.TheVariants as lent

-- for the acts of those who are present in a session, by which its quorum and demands of polls go
-- (sections 318, 321 and 329); for votes on its polls that are not late; or for votes on one poll,
-- late or not
pub data Use : Type 0 where
  Acts : SessionNumber → Use
  Votes : SessionNumber → Use
  Vote : Poll → Use

-- a use whose poll is lent
abbrev pub use_of : LentUse → Use
use_of (lent.Acts session) = Acts session
use_of (lent.Votes session) = Votes session
use_of (lent.Vote poll) = Vote poll.now

-- votes on a poll that was looked up; where there is none, votes in a session on the polls that are
-- not late
abbrev pub vote_on : SessionNumber → Option Poll → Use
vote_on session None = Votes session
vote_on session (Some poll) = Vote poll
