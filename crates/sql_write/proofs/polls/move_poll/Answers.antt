use Rattle.std.proofs.Common.{sym, subst, Ok}
use Rattle.desk_words.specs.declared.change.Change.TheVariants as change
use Rattle.desk_words.specs.declared.change.MeetingChange.TheVariants as meeting_change
use Rattle.sql_write.specs.Writes.{Writes}
use Rattle.sql_write.proofs.WrittenMoveLemmas.{closed, declared, started}
use Rattle.sql_write.proofs.polls.move_poll.Goals as goal

pub returns-in_ok-start-in-Started-clause-writes : goal.returns-in_ok-start-in-Started-clause-writes
returns-in_ok-start-in-Started-clause-writes g c =
    let old = c.args.tx.now.conn.now in
    let new = c.start.new.tx.conn.now in
    let it = c.in_ok-start-in-Started in
    subst (λ progress. Writes {T = Unit {0}} g.S.Store old new (Ok tt) (change.InMeeting c.args.meeting (meeting_change.SetPoll c.args.resolution progress))) (sym c.in-Started.is)
    (started g.S.Store old new c.args.meeting it.field-0 it.ensures.commits c.args.resolution c.in-Started.moment it.ensures.set)

pub returns-in_ok-close-in-Closed-clause-writes : goal.returns-in_ok-close-in-Closed-clause-writes
returns-in_ok-close-in-Closed-clause-writes g c =
    let old = c.args.tx.now.conn.now in
    let new = c.close.new.tx.conn.now in
    let it = c.in_ok-close-in-Closed in
    subst (λ progress. Writes {T = Unit {0}} g.S.Store old new (Ok tt) (change.InMeeting c.args.meeting (meeting_change.SetPoll c.args.resolution progress))) (sym c.in-Closed.is)
    (closed g.S.Store old new c.args.meeting it.field-0 it.ensures.commits c.args.resolution c.in-Closed.moment it.ensures.set)

pub returns-in_ok-declare-in-Declared-clause-writes : goal.returns-in_ok-declare-in-Declared-clause-writes
returns-in_ok-declare-in-Declared-clause-writes g c =
    let old = c.args.tx.now.conn.now in
    let new = c.declare.new.tx.conn.now in
    let it = c.in_ok-declare-in-Declared in
    subst (λ progress. Writes {T = Unit {0}} g.S.Store old new (Ok tt) (change.InMeeting c.args.meeting (meeting_change.SetPoll c.args.resolution progress))) (sym c.in-Declared.is)
    (declared g.S.Store old new c.args.meeting it.field-0 it.ensures.commits c.args.resolution c.in-Declared.tally it.ensures.set)
