use Rattle.sql_open.proofs.OpenedMoveLemmas.{moves_judged}
use Rattle.sql_open.proofs.moving.move_and_judge.Goals as goal

pub returns-clause-moves : goal.returns-clause-moves
returns-clause-moves g c =
    moves_judged g.S.Store c.args.tx.now.conn.now c.move_tables.new.tx.conn.now c.judge_tables.new.tx.conn.now c.in_ok-move_tables.field-0 c.judge_tables.result c.in_ok-move_tables.ensures.moves c.judge_tables.ensures.judged
