use Rattle.std.proofs.Common.{rules}
use Rattle.office_decisions.proofs.calls.load_register.Goals as goal

pub returns-then-same_rows-clause-answer : goal.returns-then-same_rows-clause-answer
returns-then-same_rows-clause-answer c = search rules

pub returns-in_err-copy-clause-sure : goal.returns-in_err-copy-clause-sure
returns-in_err-copy-clause-sure c = search rules

pub returns-clause-answer : goal.returns-clause-answer
returns-clause-answer c = search rules

pub returns-in_err-copy-clause-same : goal.returns-in_err-copy-clause-same
returns-in_err-copy-clause-same c = search rules
