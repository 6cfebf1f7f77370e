use Rattle.office_decisions.proofs.ReadLaws.{read_meeting}
use Rattle.office_decisions.proofs.laws.read_meetings_are_meetings.Goals as goal

pub returns : goal.returns
returns c = read_meeting
