use Rattle.http_routes.proofs.TargetLemmas.{named, no_other}
use Rattle.http_routes.proofs.laws.targets_are_spelled.Goals as goal

pub returns : goal.returns
returns c = record { named = named; no_other = no_other }
