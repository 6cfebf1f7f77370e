use Rattle.std.proofs.lemmas.Map.Lookups.{exact_unsigned}
use Rattle.unit_tests.proofs.ordered_lists.different_days.Goals as goal

pub returns : goal.returns
returns c = c.in_order_once.ensures.same_values exact_unsigned
