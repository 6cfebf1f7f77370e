use Rattle.std.proofs.Common.{ap, sym, ◌∙◌}
use Rattle.std.specs.Result.{result_err}
use Rattle.meeting_core.proofs.ReadPreserved.{decided_early}
use Rattle.meeting_core.proofs.office.go_on_in_meeting.Goals as goal

pub returns-in-Err-clause-decided : goal.returns-in-Err-clause-decided
returns-in-Err-clause-decided c = λ office meeting read.
    c.refuse.ensures
    ∙ decided_early office meeting c.args.now c.args.asked.now c.args.found c.in-Err.refusal read (sym c.unless_refused.ensures.refusal ∙ ap result_err c.in-Err.is)
