use Rattle.std.proofs.Common.{◌++◌, ap, ◌∙◌, codes, arith}
use Rattle.desk_papers.specs.PrintedResults.{line}
use Rattle.desk_papers.proofs.PaperResultLemmas.{sessions-more}
use Rattle.desk_papers.proofs.text.push_sessions.Goals as goal

pub loop-session-preserved : goal.loop-session-preserved
loop-session-preserved c =
    let n = c.loop-session.number in
    let s = c.session-item.result in
    let added = c.in_ok-push_line.ensures ∙ ap (λ value. c.loop-session.text.items ++ line (codes "session") value) (c.deref.ensures.value ∙ c.in_ok-value.ensures) in
    record {
      number = omega (arith, c.loop-session.invariant.number);
      text =
          sessions-more n c.loop-session.session-index c.args.sessions.now s c.loop-session.text.items c.push_line.new.text.items c.loop-session-test.true c.session-item.is added
          ∙ c.loop-session.invariant.text;
    }
