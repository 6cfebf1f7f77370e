use Rattle.std.proofs.Common.{true≢false, ◌≡◌, ℕ, ◌+◌, ◌==◌, List, length, refl, ap, sym, subst, ◌∙◌}
use Rattle.std.specs.Prelude.{Result, Ok, IfOk, IfErr}
use Rattle.std.specs.declared.alloc.Global.{Global}
use Rattle.std.specs.declared.vec.Vec.{Vec}
use Rattle.std.proofs.lemmas.Result.{err_from_is_err_and}
use Rattle.line_reader.specs.FirstLine.{StaysInLine}
use Rattle.line_reader.specs.LineState.{LineReading}
use Rattle.line_reader.specs.Lines.{HasFeed}
use Rattle.line_reader.specs.NextLine.{NextIs, SameWhole, unread}
use Rattle.line_reader.specs.declared.outcome.NextLine.{NextLine}
use Rattle.vocabulary.specs.declared.refusal.Refusal.TheVariants.{TooLarge}
use Rattle.desk_words.specs.declared.reply.Failure.{Failure}
use Rattle.desk_words.specs.declared.reply.Failure.TheVariants.{Memory}
use Rattle.desk_words.specs.declared.reply.Reply.TheVariants.{Refused}
use Rattle.json_replies.specs.Replies.{reply_bytes}
use Rattle.replay.specs.ReplayRuns.{as_line}
use Rattle.replay.specs.Transcript.{text_or_failure}
use Rattle.replay.proofs.Gathering.{gathered-chained, gathered-longer_part, written_all}
use Rattle.replay.proofs.ReplayTurnLemmas.{answers-same, at_end-rest, stops-before, stops-too_long, stops-whole, turns-empty, turns-too_long, turns-whole, whole-same}
use Rattle.replay.proofs.script.turn.Goals as goal
use Rattle.replay.proofs.script.turn.Goals.{in-TooLong, in-Whole+else-is_empty}

-- nothing was taken where the writer failed before
pub returns-in_err-write_before_read-clause-stops : goal.returns-in_err-write_before_read-clause-stops
returns-in_err-write_before_read-clause-stops g c =
    let p = err_from_is_err_and c.from_residual.result c.from_residual.ensures.1 in
    rw (p.1, p.2) (λ reliable is_open it stands. stops-before g.O.Office (unread c.args.lines.now.pending (g.R.Source.remaining c.args.reader.now)) (unread c.write_before_read.new.lines.pending (g.R.Source.remaining c.args.reader.now)) (g.R.Source.remaining c.args.reader.now) it c.args.office.now (g.W.Sink.contents c.args.writer.now) (g.W.Sink.contents c.write_before_read.new.writer) c.args.gathered.now c.write_before_read.new.self stands c.in_err-write_before_read.ensures.partly)

pub returns-in_err-write_before_read-clause-whole : goal.returns-in_err-write_before_read-clause-whole
returns-in_err-write_before_read-clause-whole g c = whole-same _ _ _ (ap (λ lines. lines.taken) c.write_before_read.ensures.same)

-- where the reader failed, or has ended, no line was ahead, so nothing waits
pub returns-in_err-next_line-clause-stops : goal.returns-in_err-next_line-clause-stops
returns-in_err-next_line-clause-stops g c =
    let p = err_from_is_err_and c.from_residual-in_err-next_line.result c.from_residual-in_err-next_line.ensures.1 in
    let before = c.in_ok-write_before_read.ensures in
    let none = before.none_waits (λ feed. true≢false (sym (c.in_err-next_line.ensures.ahead (subst (λ (l : LineReading). HasFeed l.pending) (sym c.write_before_read.ensures.same) feed)).0)) in
    rw (p.1, p.2) (λ reliable is_open it stands.
    (it, stands, (written_all (g.W.Sink.contents c.args.writer.now) (g.W.Sink.contents c.write_before_read.new.writer) c.args.gathered.now c.write_before_read.new.self before.waits none, subst (λ (l : LineReading). StaysInLine (unread l.pending (g.R.Source.remaining c.args.reader.now)) (g.R.Source.remaining c.next_line.new.source)) c.write_before_read.ensures.same c.in_err-next_line.ensures.unfed, refl)))

pub returns-in-End-clause-turns : goal.returns-in-End-clause-turns
returns-in-End-clause-turns g c = λ reliable is_open it stands.
    let before = c.in_ok-write_before_read.ensures in
    let none = before.none_waits (λ feed. c.in_ok-next_line.ensures.line_ahead (subst (λ (l : LineReading). HasFeed l.pending) (sym c.write_before_read.ensures.same) feed) (ap Ok c.in-End.is)) in
    let given = subst (λ (n : NextLine). NextIs n (unread c.args.lines.now.pending (g.R.Source.remaining c.args.reader.now)) (unread c.next_line.new.self.pending (g.R.Source.remaining c.next_line.new.source)) c.next_line.new.self.line) c.in-End.is (subst (λ (l : LineReading). NextIs c.in_ok-next_line.field-0 (unread l.pending (g.R.Source.remaining c.args.reader.now)) (unread c.next_line.new.self.pending (g.R.Source.remaining c.next_line.new.source)) c.next_line.new.self.line) c.write_before_read.ensures.same c.in_ok-next_line.ensures.given) in
    (it, stands, (given.1, written_all (g.W.Sink.contents c.args.writer.now) (g.W.Sink.contents c.write_before_read.new.writer) c.args.gathered.now c.write_before_read.new.self before.waits none, refl))

pub returns-in-End-clause-end : goal.returns-in-End-clause-end
returns-in-End-clause-end g c = λ _.
    let given = rw c.in-End.is at c.in_ok-next_line.ensures.given in
    (at_end-rest c.next_line.new.self.pending (g.R.Source.remaining c.next_line.new.source) given.2, c.in_ok-next_line.ensures.end (ap Ok c.in-End.is))

-- an empty line is passed over
pub returns-then-is_empty-clause-turns : goal.returns-then-is_empty-clause-turns
returns-then-is_empty-clause-turns g c = λ reliable is_open it stands.
    let before = unread c.args.lines.now.pending (g.R.Source.remaining c.args.reader.now) in
    let after = unread c.next_line.new.self.pending (g.R.Source.remaining c.next_line.new.source) in
    let line : List ℕ = c.next_line.new.self.line in
    let given = subst (λ (n : NextLine). NextIs n (unread c.args.lines.now.pending (g.R.Source.remaining c.args.reader.now)) (unread c.next_line.new.self.pending (g.R.Source.remaining c.next_line.new.source)) c.next_line.new.self.line) c.in-Whole.is (subst (λ (l : LineReading). NextIs c.in_ok-next_line.field-0 (unread l.pending (g.R.Source.remaining c.args.reader.now)) (unread c.next_line.new.self.pending (g.R.Source.remaining c.next_line.new.source)) c.next_line.new.self.line) c.write_before_read.ensures.same c.in_ok-next_line.ensures.given) in
    let empty = sym (c.is_empty.ensures ∙ ap (λ (l : List ℕ). length l == 0) c.line-line.ensures) ∙ c.if-is_empty.true in
    turns-empty g.O.Office before after line it c.args.office.now (g.W.Sink.contents c.args.writer.now) (g.W.Sink.contents c.write_before_read.new.writer) c.args.gathered.now c.write_before_read.new.self given empty stands c.in_ok-write_before_read.ensures.waits

-- where the writer failed, of the answer to the line that was read and of those that waited a part was written
pub returns-in_err-put_answer-clause-stops : goal.returns-in_err-put_answer-clause-stops
returns-in_err-put_answer-clause-stops g c =
    let p = err_from_is_err_and c.from_residual-in_err-put_answer.result c.from_residual-in_err-put_answer.ensures.1 in
    let before = unread c.args.lines.now.pending (g.R.Source.remaining c.args.reader.now) in
    let after = unread c.next_line.new.self.pending (g.R.Source.remaining c.next_line.new.source) in
    let left = g.R.Source.remaining c.next_line.new.source in
    let line : List ℕ = c.next_line.new.self.line in
    let text : Result (Vec ℕ Global) Failure = c.match-branch-3.text in
    let old = g.W.Sink.contents c.args.writer.now in
    let last = g.W.Sink.contents c.put_answer.new.writer in
    let waiting : List ℕ = c.args.gathered.now in
    let part = gathered-longer_part old (g.W.Sink.contents c.write_before_read.new.writer) last waiting (text_or_failure text) c.write_before_read.new.self
    c.in_ok-write_before_read.ensures.waits c.in_err-put_answer.ensures.partly in
    let given = λ (next : NextLine) (is : c.in_ok-next_line.field-0 ≡ next). subst (λ (n : NextLine). NextIs n before after line) is (subst (λ (l : LineReading). NextIs c.in_ok-next_line.field-0 (unread l.pending (g.R.Source.remaining c.args.reader.now)) after line) c.write_before_read.ensures.same c.in_ok-next_line.ensures.given) in
    rw (p.1, p.2) (λ reliable is_open it stands. elim c.match-branch-3.branch [
      | in-TooLong w ↦
          stops-too_long g.O.Office before after left line it text c.match-branch-3.office old last waiting c.put_answer.new.gathered (given _ w.in-TooLong.is)
          (subst (λ (t : Result (Vec ℕ Global) Failure). IfOk t (λ v. v.items ≡ as_line (reply_bytes (Refused TooLarge)))) (sym w.text-is) w.refusal_line-text.ensures.text)
          (subst (λ (t : Result (Vec ℕ Global) Failure). IfErr t (λ why. why ≡ Memory)) (sym w.text-is) w.refusal_line-text.ensures.cause)
          (subst (λ o. g.O.Office.stands o it) (sym w.office-is) stands)
          part
      | in-Whole+else-is_empty w ↦
          stops-whole g.O.Office before after left line it text c.match-branch-3.office old last waiting c.put_answer.new.gathered (given _ w.in-Whole.is)
          (answers-same g.O.Office it w.line-line.result.now line w.answer-text.result text w.answer-text.new.office c.match-branch-3.office w.line-line.ensures w.text-is w.office-is
          (λ reliable is_open. w.answer-text.ensures.answers reliable is_open it stands) reliable is_open)
          part
    ])

pub returns-clause-turns : goal.returns-clause-turns
returns-clause-turns g c = λ reliable is_open it stands.
    let before = unread c.args.lines.now.pending (g.R.Source.remaining c.args.reader.now) in
    let after = unread c.next_line.new.self.pending (g.R.Source.remaining c.next_line.new.source) in
    let line : List ℕ = c.next_line.new.self.line in
    let text : Result (Vec ℕ Global) Failure = c.match-branch-3.text in
    let old = g.W.Sink.contents c.args.writer.now in
    let last = g.W.Sink.contents c.put_answer.new.writer in
    let waiting : List ℕ = c.args.gathered.now in
    let waits = gathered-chained old (g.W.Sink.contents c.write_before_read.new.writer) last waiting (text_or_failure text) c.write_before_read.new.self c.put_answer.new.gathered
    c.in_ok-write_before_read.ensures.waits c.in_ok-put_answer.ensures.waits in
    let given = λ (next : NextLine) (is : c.in_ok-next_line.field-0 ≡ next). subst (λ (n : NextLine). NextIs n before after line) is (subst (λ (l : LineReading). NextIs c.in_ok-next_line.field-0 (unread l.pending (g.R.Source.remaining c.args.reader.now)) after line) c.write_before_read.ensures.same c.in_ok-next_line.ensures.given) in
    elim c.match-branch-3.branch [
      | in-TooLong w ↦
          turns-too_long g.O.Office before after line it text c.match-branch-3.office old last waiting c.put_answer.new.gathered (given _ w.in-TooLong.is)
          (subst (λ (t : Result (Vec ℕ Global) Failure). IfOk t (λ v. v.items ≡ as_line (reply_bytes (Refused TooLarge)))) (sym w.text-is) w.refusal_line-text.ensures.text)
          (subst (λ (t : Result (Vec ℕ Global) Failure). IfErr t (λ why. why ≡ Memory)) (sym w.text-is) w.refusal_line-text.ensures.cause)
          (subst (λ o. g.O.Office.stands o it) (sym w.office-is) stands)
          waits
      | in-Whole+else-is_empty w ↦
          turns-whole g.O.Office before after line it text c.match-branch-3.office old last waiting c.put_answer.new.gathered (given _ w.in-Whole.is)
          (answers-same g.O.Office it w.line-line.result.now line w.answer-text.result text w.answer-text.new.office c.match-branch-3.office w.line-line.ensures w.text-is w.office-is
          (λ reliable is_open. w.answer-text.ensures.answers reliable is_open it stands) reliable is_open)
          waits
    ]

pub returns-in_err-next_line-clause-counted : goal.returns-in_err-next_line-clause-counted
returns-in_err-next_line-clause-counted g c = subst (λ (l : LineReading). c.next_line.new.self.taken + g.R.Source.passed c.args.reader.now ≡ l.taken + g.R.Source.passed c.next_line.new.source) c.write_before_read.ensures.same c.next_line.ensures.counted

pub returns-in_err-next_line-clause-whole : goal.returns-in_err-next_line-clause-whole
returns-in_err-next_line-clause-whole g c = subst (λ (l : LineReading). SameWhole l.taken (g.R.Source.remaining c.args.reader.now) c.next_line.new.self.taken (g.R.Source.remaining c.next_line.new.source)) c.write_before_read.ensures.same c.next_line.ensures.whole

pub returns-in-End-clause-counted : goal.returns-in-End-clause-counted
returns-in-End-clause-counted g c = subst (λ (l : LineReading). c.next_line.new.self.taken + g.R.Source.passed c.args.reader.now ≡ l.taken + g.R.Source.passed c.next_line.new.source) c.write_before_read.ensures.same c.next_line.ensures.counted

pub returns-in-End-clause-whole : goal.returns-in-End-clause-whole
returns-in-End-clause-whole g c = subst (λ (l : LineReading). SameWhole l.taken (g.R.Source.remaining c.args.reader.now) c.next_line.new.self.taken (g.R.Source.remaining c.next_line.new.source)) c.write_before_read.ensures.same c.next_line.ensures.whole

pub returns-then-is_empty-clause-counted : goal.returns-then-is_empty-clause-counted
returns-then-is_empty-clause-counted g c = subst (λ (l : LineReading). c.next_line.new.self.taken + g.R.Source.passed c.args.reader.now ≡ l.taken + g.R.Source.passed c.next_line.new.source) c.write_before_read.ensures.same c.next_line.ensures.counted

pub returns-then-is_empty-clause-whole : goal.returns-then-is_empty-clause-whole
returns-then-is_empty-clause-whole g c = subst (λ (l : LineReading). SameWhole l.taken (g.R.Source.remaining c.args.reader.now) c.next_line.new.self.taken (g.R.Source.remaining c.next_line.new.source)) c.write_before_read.ensures.same c.next_line.ensures.whole

pub returns-in_err-put_answer-clause-counted : goal.returns-in_err-put_answer-clause-counted
returns-in_err-put_answer-clause-counted g c = subst (λ (l : LineReading). c.next_line.new.self.taken + g.R.Source.passed c.args.reader.now ≡ l.taken + g.R.Source.passed c.next_line.new.source) c.write_before_read.ensures.same c.next_line.ensures.counted

pub returns-in_err-put_answer-clause-whole : goal.returns-in_err-put_answer-clause-whole
returns-in_err-put_answer-clause-whole g c = subst (λ (l : LineReading). SameWhole l.taken (g.R.Source.remaining c.args.reader.now) c.next_line.new.self.taken (g.R.Source.remaining c.next_line.new.source)) c.write_before_read.ensures.same c.next_line.ensures.whole

pub returns-clause-counted : goal.returns-clause-counted
returns-clause-counted g c = subst (λ (l : LineReading). c.next_line.new.self.taken + g.R.Source.passed c.args.reader.now ≡ l.taken + g.R.Source.passed c.next_line.new.source) c.write_before_read.ensures.same c.next_line.ensures.counted

pub returns-clause-whole : goal.returns-clause-whole
returns-clause-whole g c = subst (λ (l : LineReading). SameWhole l.taken (g.R.Source.remaining c.args.reader.now) c.next_line.new.self.taken (g.R.Source.remaining c.next_line.new.source)) c.write_before_read.ensures.same c.next_line.ensures.whole
