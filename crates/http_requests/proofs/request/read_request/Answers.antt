use Rattle.http_requests.proofs.SpellLemmas.{large-spelled, whole-spelled}
use Rattle.http_requests.proofs.request.read_request.Goals as goal

pub returns-in-Whole-clause-came : goal.returns-in-Whole-clause-came
returns-in-Whole-clause-came g c =
    let found = rw c.in-Whole.is at c.in_ok-read.ensures.read in
    let known = rw (c.in-Whole.is, c.new-head.ensures) at c.in_ok-read.ensures.front in
    let comes = rw c.new-head.ensures at c.read.ensures.comes in
    whole-spelled c.read.new.self c.received.result _ _ _ _ _ _ comes c.read.ensures.bound found known c.received.ensures.came

pub returns-in-TooLarge-clause-came : goal.returns-in-TooLarge-clause-came
returns-in-TooLarge-clause-came g c =
    let found = rw c.in-TooLarge.is at c.in_ok-read.ensures.read in
    let known = rw (c.in-TooLarge.is, c.new-head.ensures) at c.in_ok-read.ensures.front in
    let comes = rw c.new-head.ensures at c.read.ensures.comes in
    large-spelled c.read.new.self _ _ _ _ comes c.read.ensures.bound found known
