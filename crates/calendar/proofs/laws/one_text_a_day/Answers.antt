use Rattle.calendar.proofs.Unique.{day_of_injective}
use Rattle.calendar.proofs.laws.one_text_a_day.Goals as goal

pub returns : goal.returns
returns c = day_of_injective
