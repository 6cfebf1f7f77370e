use Rattle.laws_step.proofs.OfficeReadLemmas.{desk_enough, lists_enough}
use Rattle.laws_step.proofs.office_reads.what_the_office_reads_is_enough.Goals as goal

pub returns-clause-lists : goal.returns-clause-lists
returns-clause-lists c = lists_enough c.rulings_read_no_more.ensures

pub returns-clause-desk : goal.returns-clause-desk
returns-clause-desk c = desk_enough
