use Rattle.std.proofs.Common.{◌<◌, length, arith}
use Rattle.line_reader.specs.Lines.{feed_place}
use Rattle.line_reader.proofs.Giving.{gives-fed, Keeps-same}
use Rattle.line_reader.proofs.reader.LineReader.next_line.Goals as goal

pub returns-in-Some-clause-given : goal.returns-in-Some-clause-given
returns-in-Some-clause-given g c =
    let place = c.in-Some.ensures.place in
    let fed : feed_place c.args.self.now.pending < length c.args.self.now.pending = omega (arith, place.0, place.1) in
    gives-fed _ _ _ _ _ _ (Keeps-same _) fed (rw c.find_feed.ensures.same at c.give_fed_line.ensures.gives)
