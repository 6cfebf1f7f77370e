use Rattle.std.proofs.Common.{◌++◌, ◌∷◌, [], Ok, take, sym, ap, subst, ◌∙◌}
use Rattle.std.proofs.lemmas.List.{take_more}
use Rattle.sql_write.specs.Writes.{Rewrites, any_records, keys_added}
use Rattle.sql_write.proofs.WrittenTurnLemmas.{key_more, turns_failed}
use Rattle.sql_write.proofs.desk_lists.add_keys.Goals as goal

pub returns-in_err-add-clause-turns : goal.returns-in_err-add-clause-turns
returns-in_err-add-clause-turns g c =
    turns_failed g.S.Store c.args.tx.now.conn.now c.loop-key.tx.conn.now c.add.new.tx.conn.now c.from_residual.result c.in_err-add.field-0.0 any_records
    (keys_added (take c.loop-key.key-index c.args.keys.now)) (keys_added c.args.keys.now) c.from_residual.ensures.0 c.loop-key.invariant.turns c.in_err-add.ensures.commits

pub loop-key-preserved : goal.loop-key-preserved
loop-key-preserved g c =
    let i = c.loop-key.key-index in
    let all = c.args.keys.now in
    let it = c.key-item.result in
    let next = take_more all i it c.loop-key-test.true ∙ ap (λ z. take i all ++ z ∷ []) (sym c.key-item.is) in
    record {
      same = c.in_ok-add.ensures.same_reference ∙ c.loop-key.invariant.same;
      turns = subst (λ l. Rewrites {T = Unit {0}} g.S.Store c.args.tx.now.conn.now c.add.new.tx.conn.now (Ok tt) any_records (keys_added l)) (sym next)
          (key_more g.S.Store c.args.tx.now.conn.now c.loop-key.tx.conn.now c.add.new.tx.conn.now c.in_ok-add.field-0 c.in_ok-add.ensures.commits (take i all) it c.loop-key.invariant.turns c.in_ok-add.ensures.added);
    }
