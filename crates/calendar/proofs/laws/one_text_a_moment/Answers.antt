use Rattle.calendar.proofs.Unique.{moment_of_injective}
use Rattle.calendar.proofs.laws.one_text_a_moment.Goals as goal

pub returns : goal.returns
returns c = moment_of_injective
