use Rattle.std.proofs.Common.{arith}
use Rattle.line_reader.proofs.Feeds.{feed_place-le, found-behind}
use Rattle.line_reader.proofs.scan.find_feed.Goals as goal

pub split_at-requires : goal.split_at-requires
split_at-requires c = omega (arith, c.requires, feed_place-le c.args.bytes.now)

pub returns-in-Some : goal.returns-in-Some
returns-in-Some c = found-behind c.args.searched c.args.bytes.now _ c.requires (rw c.split_at.ensures.back at c.in-Some.ensures)

pub returns-in-None : goal.returns-in-None
returns-in-None c = found-behind c.args.searched c.args.bytes.now _ c.requires (rw c.split_at.ensures.back at c.in-None.ensures)
