use Rattle.std.proofs.Common.{rules}
use Rattle.meeting_core.proofs.changes.moved.Goals as goal

pub returns-in-Closed : goal.returns-in-Closed
returns-in-Closed c = search rules
