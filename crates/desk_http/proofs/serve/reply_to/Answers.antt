use Rattle.desk_http.proofs.ServedLemmas.{answered_replies, unanswered_replies}
use Rattle.desk_http.proofs.serve.reply_to.Goals as goal

pub returns-in-Ok : goal.returns-in-Ok
returns-in-Ok g c =
    let wrote = c.write_answered.ensures in
    answered_replies g.O.Office g.W.Sink c.args.moment c.args.received c.args.office.now c.answer.new.office c.args.writer.now c.write_answered.new.writer
    c.write_answered.result c.sent.result c.in-Ok.answered c.sent.ensures c.in-Ok.ensures.done c.answer.ensures.makes wrote.written wrote.partly wrote.works wrote.failed

pub returns-in-Err : goal.returns-in-Err
returns-in-Err g c =
    let wrote = c.write_unanswered.ensures in
    unanswered_replies g.O.Office g.W.Sink c.args.moment c.args.received c.args.office.now c.answer.new.office c.args.writer.now c.write_unanswered.new.writer
    c.write_unanswered.result c.in-Err.why c.in-Err.ensures.cause c.in-Err.ensures.unmade c.answer.ensures.makes wrote.served wrote.partly wrote.unread wrote.works wrote.failed
