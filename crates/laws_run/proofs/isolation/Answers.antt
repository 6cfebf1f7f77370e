use Rattle.meeting_core.specs.Step.{decided}
use Rattle.laws_run.proofs.RunsDeskLemmas.{desk_steps}
use Rattle.laws_run.proofs.RunsRunLemmas.{calls_isolated, runs_are_the_desks, runs_isolated}
use Rattle.laws_run.proofs.isolation.Goals as goal

pub returns-clause-steps : goal.returns-clause-steps
returns-clause-steps c = desk_steps

pub returns-clause-runs : goal.returns-clause-runs
returns-clause-runs c = runs_isolated

pub returns-clause-desk : goal.returns-clause-desk
returns-clause-desk c = runs_are_the_desks

pub returns-clause-calls : goal.returns-clause-calls
returns-clause-calls c = calls_isolated decided desk_steps
