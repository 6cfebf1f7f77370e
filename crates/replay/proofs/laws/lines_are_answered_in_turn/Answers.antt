use Rattle.replay.proofs.ReplayRunLaws.{answered_in_turn}
use Rattle.replay.proofs.laws.lines_are_answered_in_turn.Goals as goal

pub returns : goal.returns
returns c = answered_in_turn
