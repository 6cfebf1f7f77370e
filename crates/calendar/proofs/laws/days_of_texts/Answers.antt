use Rattle.std.proofs.Common.{Some, ap}
use Rattle.calendar.specs.DateTexts.{day_of}
use Rattle.calendar.proofs.Named.{day_number-first, day_number-1970, day_number-last}
use Rattle.calendar.proofs.laws.days_of_texts.Goals as goal

pub returns : goal.returns
unfolding day_of
returns c = record { first = ap Some day_number-first; epoch = ap Some day_number-1970; last = ap Some day_number-last }
