use Rattle.std.proofs.Common.{sym, ◌∙◌}
use Rattle.sql_open.proofs.MakingLemmas.{commits_made}
use Rattle.sql_open.proofs.creation.make_desk.Goals as goal

pub returns-clause-crash : goal.returns-clause-crash
returns-clause-crash g c =
    let handed = c.conn-2-1.given.1 (sym (c.make_empty_desk.ensures.same_reference ∙ c.transaction-tx.ensures.same_reference)) in
    rw handed (commits_made g.S.Store c.args.conn.now c.transaction-tx.result.conn.now c.make_empty_desk.new.tx.conn.now c.in_ok-make_empty_desk.field-0 c.transaction-tx.ensures.begun c.in_ok-make_empty_desk.ensures.made _ c.commit.ensures.survives)
