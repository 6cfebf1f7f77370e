use Rattle.std.proofs.Common.{sym, ◌∙◌}
use Rattle.sql_open.proofs.OpenedMoveLemmas.{commits_moved, ends_moved}
use Rattle.sql_open.proofs.moving.move_desk.Goals as goal

pub returns-in_err-done-in-Ok-clause-crash : goal.returns-in_err-done-in-Ok-clause-crash
returns-in_err-done-in-Ok-clause-crash g c =
    let handed = c.conn-1.given.1 (sym (c.move_and_judge.ensures.same_reference ∙ c.transaction-tx.ensures.same_reference)) in
    rw handed (commits_moved g.S.Store c.args.conn.now c.transaction-tx.result.conn.now c.move_and_judge.new.tx.conn.now c.transaction-tx.ensures.begun c.in-Ok.ensures.moves _ c.commit-done.ensures.survives)

pub returns-in_ok-done-in-Ok-clause-moved : goal.returns-in_ok-done-in-Ok-clause-moved
returns-in_ok-done-in-Ok-clause-moved g c =
    let handed = c.conn-1.given.1 (sym (c.move_and_judge.ensures.same_reference ∙ c.transaction-tx.ensures.same_reference)) in
    rw handed
    (ends_moved g.S.Store c.args.conn.now c.transaction-tx.result.conn.now c.move_and_judge.new.tx.conn.now c.transaction-tx.ensures.begun c.in-Ok.ensures.moves _ c.commit-done.ensures.survives
    (λ clean. (c.in_ok-done-in-Ok.ensures.ok clean).1.now_is))

pub returns-in_ok-done-in-Ok-clause-crash : goal.returns-in_ok-done-in-Ok-clause-crash
returns-in_ok-done-in-Ok-clause-crash g c =
    let handed = c.conn-1.given.1 (sym (c.move_and_judge.ensures.same_reference ∙ c.transaction-tx.ensures.same_reference)) in
    rw handed (commits_moved g.S.Store c.args.conn.now c.transaction-tx.result.conn.now c.move_and_judge.new.tx.conn.now c.transaction-tx.ensures.begun c.in-Ok.ensures.moves _ c.commit-done.ensures.survives)
