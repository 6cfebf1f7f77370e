use Rattle.http_heads.proofs.HeadReadLemmas.{found_read}
use Rattle.http_heads.proofs.heads.HeadReader.read.Goals as goal

pub returns-in-Some-clause-read : goal.returns-in-Some-clause-read
returns-in-Some-clause-read g c = found_read c.in-Some.front c.judge.new.self c.in-Some.ensures.found
