use Rattle.meeting_core.proofs.Placed.{can_be_made}
use Rattle.meeting_core.proofs.laws.decided_changes_can_be_made.Goals as goal

pub returns : goal.returns
returns c = can_be_made
