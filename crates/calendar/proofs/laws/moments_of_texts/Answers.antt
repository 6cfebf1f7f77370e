use Rattle.std.proofs.Common.{Some, ap, ◌+◌, ◌*◌}
use Rattle.calendar.specs.DateTexts.{moment_of}
use Rattle.calendar.proofs.Named.{day_number-first, day_number-1970, day_number-last}
use Rattle.calendar.proofs.laws.moments_of_texts.Goals as goal

pub returns : goal.returns
unfolding moment_of
returns c = record { first = ap (λ n. Some (86400 * n + 0)) day_number-first; epoch = ap (λ n. Some (86400 * n + 0)) day_number-1970; last = ap (λ n. Some (86400 * n + 86399)) day_number-last }
