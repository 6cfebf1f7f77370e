use Rattle.sqlite.proofs.Callers.{memory_is_clean}
use Rattle.sql_open.proofs.first.first_in_memory.Goals as goal

pub returns : goal.returns
returns c = c.in_ok-make_first_in.ensures (memory_is_clean c.make_first_in.new.conn) c.in_ok-conn.ensures.empty.2
