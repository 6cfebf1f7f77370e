use Rattle.std.proofs.Common.{◌≡◌, ◌∙◌, length, ap, arith}
use Rattle.line_reader.specs.Lines.{feed_place}
use Rattle.line_reader.proofs.Feeds.{feed_place-front}
use Rattle.line_reader.proofs.Giving.{same-long, on_err}
use Rattle.line_reader.proofs.Taking.{stays-chained, stays-read, loses-line, SameWhole-chained}
use Rattle.line_reader.proofs.reader.LineReader.skip_line.Goals as goal

pub returns-in_err-read_more-clause-unfed : goal.returns-in_err-read_more-clause-unfed
returns-in_err-read_more-clause-unfed g c =
    let before = c.loop-self.invariant in
    let failed = c.in_err-read_more.ensures in
    let none : feed_place c.read_more.new.self.pending ≡ length c.read_more.new.self.pending = rw failed.err before.unfed in
    on_err _ (stays-chained _ _ _ before.stays (stays-read _ _ _ _ failed.reads.unread_preserved (omega (arith, ap length failed.err)) none))

pub returns-in_err-read_more-clause-same : goal.returns-in_err-read_more-clause-same
returns-in_err-read_more-clause-same g c =
    let before = c.loop-self.invariant in
    let failed = c.in_err-read_more.ensures in
    let none : feed_place c.read_more.new.self.pending ≡ length c.read_more.new.self.pending = rw failed.err before.unfed in
    let behind = stays-chained _ _ _ before.stays (stays-read _ _ _ _ failed.reads.unread_preserved (omega (arith, ap length failed.err)) none) in
    on_err _ (same-long _ _ _ _ c.requires.unfed c.requires.long none (omega (arith, ap length failed.err, before.front)) behind)

pub returns-in-Some-clause-skips : goal.returns-in-Some-clause-skips
returns-in-Some-clause-skips g c =
    let before = c.loop-self.invariant in
    let place = c.in-Some.ensures.place in
    loses-line _ _ _ _ _ _ c.in-Some.place before.stays c.in_ok-read_more.ensures.reads.unread_preserved before.unfed place.0 place.1 (rw c.find_feed.ensures.same at c.give_line.ensures.pending)

pub returns-in-Some-clause-read : goal.returns-in-Some-clause-read
returns-in-Some-clause-read g c =
    let before = c.loop-self.invariant in
    let read = c.in_ok-read_more.ensures in
    let behind = feed_place-front _ _ read.behind before.unfed in
    let given = rw c.find_feed.ensures.same at c.give_line.ensures.left in
    let taken = rw c.find_feed.ensures.same at c.give_line.ensures.taken in
    omega (arith, behind, given, taken, c.in-Some.ensures.place.0, read.count, read.more, before.more)

pub loop-self-preserved : goal.loop-self-preserved
loop-self-preserved g c =
    let before = c.loop-self.invariant in
    let read = c.in_ok-read_more.ensures in
    let preserved = c.keep_front-in-loop-self.ensures in
    let taken = rw c.find_feed.ensures.same at preserved.taken in
    record {
      unfed = preserved.unfed;
      front = preserved.front;
      stays = stays-chained _ _ _ before.stays (stays-read _ _ _ _ read.reads.unread_preserved (omega (arith, read.more)) c.in_default.ensures.place);
      counted = omega (arith, before.counted, read.reads.counted, taken);
      whole = SameWhole-chained _ _ _ _ _ _ _ before.whole read.reads.whole taken;
      works = read.works ∙ before.works;
      more = omega (arith, before.more, read.count, taken);
    }
