use Rattle.laws_step.proofs.OneSessionLemmas.{one_count, one_cutoffs, one_known, one_last, one_meeting, one_notice, one_read}
use Rattle.laws_step.proofs.sessions.one_session_is_the_meeting.Goals as goal

pub returns-clause-last : goal.returns-clause-last
returns-clause-last c = one_last

pub returns-clause-cutoffs : goal.returns-clause-cutoffs
returns-clause-cutoffs c = one_cutoffs

pub returns-clause-counted : goal.returns-clause-counted
returns-clause-counted c = one_count

pub returns-clause-known : goal.returns-clause-known
returns-clause-known c = one_known

pub returns-clause-read : goal.returns-clause-read
returns-clause-read c = one_read

pub returns-clause-attendance : goal.returns-clause-attendance
returns-clause-attendance c = one_meeting

pub returns-clause-notice : goal.returns-clause-notice
returns-clause-notice c = one_notice
