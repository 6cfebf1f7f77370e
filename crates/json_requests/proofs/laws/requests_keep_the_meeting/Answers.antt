use Rattle.json_requests.proofs.JsonLawLemmas.{requests_keep_the_meeting_lem}
use Rattle.json_requests.proofs.laws.requests_keep_the_meeting.Goals as goal

pub returns : goal.returns
returns c = requests_keep_the_meeting_lem
