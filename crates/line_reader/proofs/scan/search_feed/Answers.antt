use Rattle.line_reader.proofs.Feeds.{found-first}
use Rattle.line_reader.proofs.scan.search_feed.Goals as goal

pub returns : goal.returns
returns c = found-first c.args.bytes.now c.memchr.result c.memchr.ensures
