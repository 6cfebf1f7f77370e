use Rattle.std.proofs.Common.{◌≡◌, [], ◌++◌, ◌∙◌}
use Rattle.std.proofs.lemmas.Result.{on_err_weaker, on_ok_weaker}
use Rattle.byte_io.proofs.BytesChained.{Appends-chained}
use Rattle.replay.proofs.Gathering.{all_written, part-behind}
use Rattle.replay.proofs.gathered.Gathered.put.Goals as goal

-- what waited was written, and then the text
pub returns-clause-waits : goal.returns-clause-waits
returns-clause-waits g c =
    let before = g.W.Sink.contents c.args.writer.now in
    let mid = g.W.Sink.contents c.write_out.new.writer in
    let after = g.W.Sink.contents c.write_all.new.sink in
    let waited = c.has_taken.ensures.same c.if-has_taken.false in
    let none : c.has_taken-2.new.self ≡ [] = c.has_taken-2.ensures.same c.if-has_taken-2.false ∙ c.in_ok-write_out.ensures.none_waits in
    on_ok_weaker c.write_all.result
    (λ written. all_written before after (c.args.self.now ++ c.args.text.now) c.has_taken-2.new.self
    (Appends-chained before mid after c.args.self.now c.args.text.now (rw (← waited) c.in_ok-write_out.ensures.written) written) none)
    c.write_all.ensures.written

pub returns-clause-partly : goal.returns-clause-partly
returns-clause-partly g c =
    let before = g.W.Sink.contents c.args.writer.now in
    let mid = g.W.Sink.contents c.write_out.new.writer in
    let after = g.W.Sink.contents c.write_all.new.sink in
    let waited = c.has_taken.ensures.same c.if-has_taken.false in
    on_err_weaker c.write_all.result
    (λ part. part-behind before mid after c.args.self.now c.args.text.now (rw (← waited) c.in_ok-write_out.ensures.written) part)
    c.write_all.ensures.partly
