use Rattle.laws_step.specs.WrongLoads.{loads_anew, writes_anew}
use Rattle.laws_step.proofs.StepLoadLemmas.{caught_by, loaded_twice, never_caught, never_written, written_twice}
use Rattle.laws_step.proofs.loads.wrong_loads_are_caught.Goals as goal

pub returns-clause-loaded : goal.returns-clause-loaded
returns-clause-loaded c = loaded_twice

pub returns-clause-written : goal.returns-clause-written
returns-clause-written c = written_twice

pub returns-clause-holds : goal.returns-clause-holds
returns-clause-holds c = never_written

pub returns-clause-loaded_caught : goal.returns-clause-loaded_caught
returns-clause-loaded_caught c = caught_by loads_anew loaded_twice

pub returns-clause-written_caught : goal.returns-clause-written_caught
returns-clause-written_caught c = caught_by writes_anew written_twice

pub returns-clause-shown_caught : goal.returns-clause-shown_caught
returns-clause-shown_caught c = never_caught
