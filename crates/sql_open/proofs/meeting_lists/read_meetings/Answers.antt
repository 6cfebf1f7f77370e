use Rattle.std.proofs.Common.{◌≡◌, ◌+◌, ◌++◌, ◌∷◌, [], Err, Ok, take, rules, subst, sym, ap, ◌∙◌}
use Rattle.std.specs.List.{list_all}
use Rattle.std.proofs.lemmas.List.{take_more}
use Rattle.desk_words.specs.Office.{is_meeting}
use Rattle.sql_load.specs.LoadResults.{any_at_all}
use Rattle.sql_load.specs.declared.fault.LoadError.TheVariants.{Memory}
use Rattle.sql_open.specs.MeetingReading.{lists_in, meetings_in}
use Rattle.sql_load.specs.WholeReading.{IsReading}
use Rattle.sql_open.proofs.MeetingReadLemmas.{as_any, first_lists, lists_stop, lists_turn, out_of_memory}
use Rattle.sql_load.proofs.ReadingLemmas.{read_first}
use Rattle.sql_open.proofs.meeting_lists.read_meetings.Goals as goal

pub returns-in_err-lists-clause-read : goal.returns-in_err-lists-clause-read
returns-in_err-lists-clause-read g c =
    let is : c.from_residual-in_err-lists.result ≡ Err c.in_err-lists.field-0.0 = search rules in
    lists_stop g.S.Store c.args.tx.now.conn.now c.loop-row.tx.conn.now c.as_slice-all.result.now c.loop-row.row-index c.read_lists.new.tx.conn.now c.row-item.result c.loop-row.meetings c.in_err-lists.field-0.0 c.from_residual-in_err-lists.result
    c.loop-row-test.true c.row-item.is c.loop-row.invariant.held is c.loop-row.invariant.read c.in_err-lists.ensures.read

pub returns-in_err-push-clause-read : goal.returns-in_err-push-clause-read
returns-in_err-push-clause-read g c =
    let i = c.loop-row.row-index in
    let all = c.as_slice-all.result.now in
    let it = c.row-item.result in
    let next = take_more all i it c.loop-row-test.true ∙ ap (λ z. take i all ++ z ∷ []) (sym c.row-item.is) in
    let is : c.from_residual-in_err-push.result ≡ Err Memory = search rules in
    out_of_memory g.S.Store _ _ any_at_all (list_all is_meeting) _ c.from_residual-in_err-push.result (first_lists all (i + 1)) meetings_in is
    (lists_turn g.S.Store c.args.tx.now.conn.now c.loop-row.tx.conn.now all i c.read_lists.new.tx.conn.now it c.loop-row.meetings c.in_ok-lists.lists next c.loop-row.invariant.read
    (as_any g.S.Store _ _ is_meeting (lists_in it) c.in_ok-lists.lists c.in_ok-lists.ensures.read))

pub loop-row-preserved : goal.loop-row-preserved
loop-row-preserved g c =
    let a = c.args.tx.now.conn.now in
    let i = c.loop-row.row-index in
    let all = c.as_slice-all.result.now in
    let it = c.row-item.result in
    let next = take_more all i it c.loop-row-test.true ∙ ap (λ z. take i all ++ z ∷ []) (sym c.row-item.is) in
    let done = c.in_ok-lists.ensures.read in
    record {
      same = c.in_ok-lists.ensures.same_reference ∙ c.loop-row.invariant.same;
      read = subst (λ l. IsReading g.S.Store a c.read_lists.new.tx.conn.now any_at_all (Ok l) (first_lists all (i + 1))) (sym c.in_ok-push.ensures.ok)
          (lists_turn g.S.Store a c.loop-row.tx.conn.now all i c.read_lists.new.tx.conn.now it c.loop-row.meetings c.in_ok-lists.lists next c.loop-row.invariant.read (as_any g.S.Store _ _ is_meeting (lists_in it) c.in_ok-lists.lists done));
      held = λ read. c.loop-row.invariant.held (read_first g.S.Store a c.loop-row.tx.conn.now c.read_lists.new.tx.conn.now done.changes.crash read);
    }
