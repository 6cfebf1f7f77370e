use Rattle.std.proofs.Common.{◌≡◌, ◌++◌, ◌∷◌, [], Err, refl, take, rules, sym, ap, ◌∙◌}
use Rattle.std.proofs.lemmas.List.{take_more}
use Rattle.sql_open.specs.Judging.{judged_in, rows_judged}
use Rattle.sql_open.specs.StoredRows.{counted_on}
use Rattle.sql_open.proofs.MeetingReadLemmas.{counted_fault, counted_turn}
use Rattle.sql_load.proofs.ReadingLemmas.{read_first}
use Rattle.sql_open.proofs.judging.judge_each.Goals as goal

pub returns-in_err-its-clause-read : goal.returns-in_err-its-clause-read
returns-in_err-its-clause-read g c =
    let is : c.from_residual-in_err-its.result ≡ Err c.in_err-its.field-0.0 = search rules in
    counted_fault g.S.Store _ _ _ rows_judged judged_in c.as_slice-all.result.now 0 c.loop-row.row-index c.row-item.result c.loop-row.listed c.loop-row.invariant.read c.as_slice-all.result.now (λ rows. counted_on judged_in rows 0) c.in_err-its.field-0.0
    c.from_residual-in_err-its.result c.loop-row-test.true c.row-item.is c.loop-row.invariant.held (λ trees. refl) is c.in_err-its.ensures.read

pub loop-row-preserved : goal.loop-row-preserved
loop-row-preserved g c =
    let i = c.loop-row.row-index in
    let all = c.as_slice-all.result.now in
    let row = c.row-item.result in
    let next = take_more all i row c.loop-row-test.true ∙ ap (λ z. take i all ++ z ∷ []) (sym c.row-item.is) in
    let done = c.in_ok-its.ensures.read in
    record {
      same = c.in_ok-its.ensures.same_reference ∙ c.loop-row.invariant.same;
      read = counted_turn g.S.Store c.args.tx.now.conn.now c.loop-row.tx.conn.now c.judge_meeting.new.tx.conn.now rows_judged judged_in all 0 i row c.loop-row.listed c.loop-row.invariant.read c.in_ok-its.its c.in_ok-listed.listed c.in_ok-listed.ensures next done;
      held = λ read. c.loop-row.invariant.held (read_first g.S.Store c.args.tx.now.conn.now c.loop-row.tx.conn.now c.judge_meeting.new.tx.conn.now done.changes.crash read);
    }
