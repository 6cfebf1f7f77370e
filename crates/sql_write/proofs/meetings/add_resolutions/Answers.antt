use Rattle.std.proofs.Common.{◌≡◌, ◌+◌, ◌++◌, ◌∷◌, [], Ok, take, sym, ap, subst, ◌∙◌, arith, length}
use Rattle.std.proofs.lemmas.List.{take_more, length-take-le}
use Rattle.sql_write.specs.Writes.{Rewrites, any_records, resolutions_added}
use Rattle.sql_write.proofs.WrittenTurnLemmas.{resolution_more, turns_failed}
use Rattle.sql_write.proofs.meetings.add_resolutions.Goals as goal

pub returns-in_err-add-clause-turns : goal.returns-in_err-add-clause-turns
returns-in_err-add-clause-turns g c =
    turns_failed g.S.Store c.args.tx.now.conn.now c.loop-resolution.tx.conn.now c.add.new.tx.conn.now c.from_residual.result c.in_err-add.field-0.0 any_records
    (resolutions_added c.args.meeting (take c.loop-resolution.resolution-index c.args.resolutions.now)) (resolutions_added c.args.meeting c.args.resolutions.now) c.from_residual.ensures.0 c.loop-resolution.invariant.turns c.in_err-add.ensures.commits

pub loop-resolution-preserved : goal.loop-resolution-preserved
loop-resolution-preserved g c =
    let i = c.loop-resolution.resolution-index in
    let all = c.args.resolutions.now in
    let it = c.resolution-item.result in
    let next = take_more all i it c.loop-resolution-test.true ∙ ap (λ z. take i all ++ z ∷ []) (sym c.resolution-item.is) in
    let as_many = length-take-le i all (omega arith) in
    let numbered_so : c.loop-resolution.number + 1 ≡ 1 + length (take i all) = omega (arith, as_many, c.loop-resolution.invariant.counted) in
    record {
      same = c.in_ok-add.ensures.same_reference ∙ c.loop-resolution.invariant.same;
      turns = subst (λ l. Rewrites {T = Unit {0}} g.S.Store c.args.tx.now.conn.now c.add.new.tx.conn.now (Ok tt) any_records (resolutions_added c.args.meeting l)) (sym next)
          (resolution_more g.S.Store c.args.tx.now.conn.now c.loop-resolution.tx.conn.now c.add.new.tx.conn.now c.in_ok-add.field-0 c.in_ok-add.ensures.commits c.args.meeting (take i all) it (c.loop-resolution.number + 1) numbered_so c.loop-resolution.invariant.turns c.in_ok-add.ensures.added);
      counted = omega (arith, c.loop-resolution.invariant.counted);
    }
