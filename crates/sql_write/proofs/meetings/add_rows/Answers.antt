use Rattle.std.proofs.Common.{◌++◌, ◌∷◌, [], Ok, take, sym, ap, subst, ◌∙◌}
use Rattle.std.proofs.lemmas.List.{take_more}
use Rattle.sql_write.specs.Writes.{Rewrites, any_records, rows_added}
use Rattle.sql_write.proofs.WrittenTurnLemmas.{rows_more, turns_failed}
use Rattle.sql_write.proofs.meetings.add_rows.Goals as goal

pub returns-in_err-add-clause-turns : goal.returns-in_err-add-clause-turns
returns-in_err-add-clause-turns g c =
    turns_failed g.S.Store c.args.tx.now.conn.now c.loop-row.tx.conn.now c.add.new.tx.conn.now c.from_residual.result c.in_err-add.field-0.0 any_records
    (rows_added c.args.meeting (take c.loop-row.row-index c.args.rows.now)) (rows_added c.args.meeting c.args.rows.now) c.from_residual.ensures.0 c.loop-row.invariant.turns c.in_err-add.ensures.commits

pub loop-row-preserved : goal.loop-row-preserved
loop-row-preserved g c =
    let i = c.loop-row.row-index in
    let all = c.args.rows.now in
    let it = c.row-item.result in
    let next = take_more all i it c.loop-row-test.true ∙ ap (λ z. take i all ++ z ∷ []) (sym c.row-item.is) in
    record {
      same = c.in_ok-add.ensures.same_reference ∙ c.loop-row.invariant.same;
      turns = subst (λ l. Rewrites {T = Unit {0}} g.S.Store c.args.tx.now.conn.now c.add.new.tx.conn.now (Ok tt) any_records (rows_added c.args.meeting l)) (sym next)
          (rows_more g.S.Store c.args.tx.now.conn.now c.loop-row.tx.conn.now c.add.new.tx.conn.now c.in_ok-add.field-0 c.in_ok-add.ensures.commits c.args.meeting (take i all) (it ∷ []) c.loop-row.invariant.turns c.in_ok-add.ensures.added);
    }
