use Rattle.laws_text.proofs.ReplayLemmas.{replays_make, replays_answer, replays_write}
use Rattle.laws_text.proofs.replays.replays_show_runs.Goals as goal

pub returns-clause-written : goal.returns-clause-written
returns-clause-written c = replays_write c.lines_are_answered_in_turn.ensures

pub returns-clause-calls : goal.returns-clause-calls
returns-clause-calls c = replays_make

pub returns-clause-holds : goal.returns-clause-holds
returns-clause-holds c = replays_answer
