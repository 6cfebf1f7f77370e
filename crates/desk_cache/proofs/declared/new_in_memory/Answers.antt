use Rattle.sqlite.proofs.Callers.{memory_is_clean}
use Rattle.desk_cache.proofs.declared.new_in_memory.Goals as goal

pub returns-in-Ok-create : goal.returns-in-Ok-create
returns-in-Ok-create c = (c.in-Ok-create.ensures.made (memory_is_clean c.in-Ok-create.conn)).1
