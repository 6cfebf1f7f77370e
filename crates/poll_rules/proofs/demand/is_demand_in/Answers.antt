use Rattle.std.proofs.Common.{rules}
use Rattle.poll_rules.proofs.demand.is_demand_in.Goals as goal

pub returns-then-demand-session : goal.returns-then-demand-session
returns-then-demand-session c = search rules
