use Rattle.std.proofs.Common.{rules}
use Rattle.office_decisions.proofs.calls.load_refusal.Goals as goal

pub returns-then-is_opened : goal.returns-then-is_opened
returns-then-is_opened c = search rules

pub returns-then-lt : goal.returns-then-lt
returns-then-lt c = search rules

pub returns : goal.returns
returns c = search rules
