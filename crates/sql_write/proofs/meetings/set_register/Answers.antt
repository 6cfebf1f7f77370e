use Rattle.std.proofs.Common.{Ok, subst}
use Rattle.desk_words.specs.declared.change.Change.TheVariants as change
use Rattle.desk_words.specs.declared.change.MeetingChange.TheVariants as meeting_change
use Rattle.sql_write.specs.Writes.{Rewrites, any_records, rows_added}
use Rattle.sql_write.proofs.SetLemmas.{register_written, rows_turned, rows_unloaded}
use Rattle.sql_write.proofs.WrittenTurnLemmas.{writes_failed}
use Rattle.sql_write.proofs.meetings.set_register.Goals as goal

pub returns-in_err-add_register-clause-writes : goal.returns-in_err-add_register-clause-writes
returns-in_err-add_register-clause-writes g c =
    let old = c.args.tx.now.conn.now in
    let new = c.add_register.new.tx.conn.now in
    let turned = rows_turned g.S.Store old c.empty.new.tx.conn.now new c.in_ok-empty.field-0 c.in_ok-empty.ensures.commits c.add_register.result c.args.meeting c.rows.result.now c.in_ok-empty.ensures.emptied c.add_register.ensures.turns in
    writes_failed g.S.Store old new c.add_register.result c.from_residual-in_err-add_register.result (change.InMeeting c.args.meeting (meeting_change.SetRegister c.args.rows.now)) _ c.from_residual-in_err-add_register.ensures.0 turned

pub returns-in_err-load-clause-writes : goal.returns-in_err-load-clause-writes
returns-in_err-load-clause-writes g c =
    let old = c.args.tx.now.conn.now in
    let mid = c.add_register.new.tx.conn.now in
    let new = c.load.new.tx.conn.now in
    let turned = rows_turned g.S.Store old c.empty.new.tx.conn.now mid c.in_ok-empty.field-0 c.in_ok-empty.ensures.commits (Ok tt) c.args.meeting c.rows.result.now c.in_ok-empty.ensures.emptied c.in_ok-add_register.ensures.turns in
    rows_unloaded g.S.Store old mid new c.args.meeting c.rows.result.now c.args.rows.now c.in_err-load.field-0.0 c.from_residual-in_err-load.result c.from_residual-in_err-load.ensures.0 turned c.in_err-load.ensures.commits

pub returns-clause-writes : goal.returns-clause-writes
returns-clause-writes g c =
    let old = c.args.tx.now.conn.now in
    let mid = c.add_register.new.tx.conn.now in
    let turns = subst (λ l. Rewrites {T = Unit {0}} g.S.Store c.empty.new.tx.conn.now mid (Ok tt) any_records (rows_added c.args.meeting l)) c.rows.ensures.value c.in_ok-add_register.ensures.turns in
    let turned = rows_turned g.S.Store old c.empty.new.tx.conn.now mid c.in_ok-empty.field-0 c.in_ok-empty.ensures.commits (Ok tt) c.args.meeting c.args.rows.now c.in_ok-empty.ensures.emptied turns in
    register_written g.S.Store old mid c.load.new.tx.conn.now c.in_ok-load.field-0 c.args.meeting c.args.rows.now c.rows.ensures.valid turned c.in_ok-load.ensures.set c.in_ok-load.ensures.commits
