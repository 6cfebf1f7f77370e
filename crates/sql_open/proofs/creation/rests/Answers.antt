use Rattle.std.proofs.Common.{IsTrue, rules}
use Rattle.sql_open.proofs.CrashLemmas.{leaves_itself}
use Rattle.sql_open.proofs.creation.rests.Goals as goal

pub returns-clause-settled : goal.returns-clause-settled
returns-clause-settled g c = λ is_open.
    let auto : IsTrue c.is_autocommit.result = search rules in
    leaves_itself g.S.Store c.args.conn.now g.met.S.Store.settled g.met.S.Store.stays is_open (c.is_autocommit.ensures.settled auto is_open)
