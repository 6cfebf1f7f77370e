use Rattle.std.proofs.Common.{◌≡◌, length, ap, arith, length-take}
use Rattle.line_reader.specs.Lines.{feed_place}
use Rattle.line_reader.proofs.Feeds.{feed_place-take}
use Rattle.line_reader.proofs.reader.LineReader.keep_front.Goals as goal

pub returns-clause-front : goal.returns-clause-front
returns-clause-front c =
    let pending = c.self.inside.window.pending in
    let long = rw (← c.self.view_is) at c.requires.long in
    omega (arith, ap length c.keep.ensures.pending, length-take 65538 pending, long)

pub returns-clause-unfed : goal.returns-clause-unfed
returns-clause-unfed c = rw c.keep.ensures.pending (feed_place-take 65538 c.self.inside.window.pending (rw (← c.self.view_is) at c.requires.unfed))

pub invariant_of-self : goal.invariant_of-self
invariant_of-self c =
    let pending = c.self.inside.window.pending in
    let long = rw (← c.self.view_is) at c.requires.long in
    let preserved : feed_place c.keep.new.self.pending ≡ length c.keep.new.self.pending = rw c.keep.ensures.pending (feed_place-take 65538 pending (rw (← c.self.view_is) at c.requires.unfed)) in
    (omega (arith, preserved, ap length c.keep.ensures.pending, length-take 65538 pending, long), omega (arith, c.self.invariant.1))
