use Rattle.std.proofs.Common.{◌≡◌, ◌++◌, [], refl, sym, ap, subst, ◌∙◌, append_assoc}
use Rattle.std.proofs.lemmas.List.{append-nil, take-append-drop}
use Rattle.sql_write.specs.Writes.{Rewrites, any_records, rows_added}
use Rattle.sql_write.proofs.WrittenTurnLemmas.{nothing_turned, rows_more, rows_then, turns_failed}
use Rattle.sql_write.proofs.meetings.add_register.Goals as goal

pub loop-first-init : goal.loop-first-init
loop-first-init g c = record {
  same = refl;
  turns = ([], refl, nothing_turned g.S.Store c.args.tx.now.conn.now any_records (rows_added c.args.meeting []) (λ flat. ap (λ l. record flat { register = l }) (append-nil flat.register)));
}

pub returns-in_err-add_together-clause-turns : goal.returns-in_err-add_together-clause-turns
returns-in_err-add_together-clause-turns g c =
    let (done, is, turns) = c.loop-first.invariant.turns in
    turns_failed g.S.Store c.args.tx.now.conn.now c.loop-first.tx.conn.now c.add_together.new.tx.conn.now c.from_residual.result c.in_err-add_together.field-0.0 any_records
    (rows_added c.args.meeting done) (rows_added c.args.meeting c.args.rows.now) c.from_residual.ensures.0 turns c.in_err-add_together.ensures.commits

pub loop-first-preserved : goal.loop-first-preserved
loop-first-preserved g c =
    let (done, is, turns) = c.loop-first.invariant.turns in
    let rest = c.loop-first.rest.now in
    let first = c.in-Some.first.now in
    let more = c.in-Some.more.now in
    let (first_is, more_is, long) = c.in-Some.ensures.cases in
    let both : rest ≡ first ++ more = rw (first_is, more_is) (sym (take-append-drop 8 rest)) in
    record {
      same = c.in_ok-add_together.ensures.same_reference ∙ c.loop-first.invariant.same;
      turns = (
        done ++ first,
        is ∙ ap (λ l. done ++ l) both ∙ sym (append_assoc done first more),
        rows_more g.S.Store c.args.tx.now.conn.now c.loop-first.tx.conn.now c.add_together.new.tx.conn.now c.in_ok-add_together.field-0 c.in_ok-add_together.ensures.commits c.args.meeting done first turns c.in_ok-add_together.ensures.added,
      );
    }

pub returns-clause-turns : goal.returns-clause-turns
returns-clause-turns g c =
    let (done, is, turns) = c.loop-first.invariant.turns in
    subst (λ l. Rewrites g.S.Store c.args.tx.now.conn.now c.add_rows.new.tx.conn.now c.add_rows.result any_records (rows_added c.args.meeting l)) (sym is)
    (rows_then g.S.Store c.args.tx.now.conn.now c.loop-first.tx.conn.now c.add_rows.new.tx.conn.now c.add_rows.result c.args.meeting done c.loop-first.rest.now turns c.add_rows.ensures.turns)
