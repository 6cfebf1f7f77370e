use Rattle.std.proofs.Common.{◌≤◌, arith}
use Rattle.std.proofs.lemmas.Int.{ints}
use Rattle.wall_clock.specs.Clock.{ShowsSecond, unix_seconds}
use Rattle.wall_clock.proofs.moment.wall_clock.Goals as goal

pub returns-in-Some-clause-out_of_range : goal.returns-in-Some-clause-out_of_range
returns-in-Some-clause-out_of_range c =
    let within : c.in-Some.moment ≤ 34712668799 = omega (arith, ints, c.in-Some.ensures.value, c.in-Some.ensures.valid) in
    let shown : ShowsSecond c.args.zone.now c.args.instant.nanosecond (unix_seconds c.in-Some.moment) =
    record {
      begun = omega (arith, ints, c.second_shown-second.ensures.shown.begun, c.in-Some.ensures.value);
      not_over = omega (arith, ints, c.second_shown-second.ensures.shown.not_over, c.in-Some.ensures.value);
    } in
    (λ other. absurd (cc), λ none. absurd (none c.in-Some.moment within shown))
