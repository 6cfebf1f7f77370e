use Rattle.laws_step.proofs.OfficeReadLemmas.{presence_unread, presence_unread_caught}
use Rattle.laws_step.proofs.office_reads.unread_presence_is_caught.Goals as goal

pub returns-clause-presence : goal.returns-clause-presence
returns-clause-presence c = presence_unread

pub returns-clause-caught : goal.returns-clause-caught
returns-clause-caught c = presence_unread_caught
