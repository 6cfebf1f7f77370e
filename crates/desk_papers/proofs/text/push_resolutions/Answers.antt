use Rattle.std.proofs.Common.{◌++◌, ap, ◌∙◌, arith}
use Rattle.desk_papers.specs.PrintedResults.{resolution_text}
use Rattle.desk_papers.specs.States.{state_of}
use Rattle.desk_papers.proofs.PaperResultLemmas.{resolutions-more}
use Rattle.desk_papers.proofs.text.push_resolutions.Goals as goal

pub loop-resolution-preserved : goal.loop-resolution-preserved
loop-resolution-preserved c =
    let n = c.loop-resolution.number in
    let r = c.resolution-item.result in
    let added = c.in_ok-push_resolution.ensures ∙ ap (λ state. c.loop-resolution.text.items ++ resolution_text n r state) (c.state_of-state.ensures ∙ ap (state_of r.kind) c.find_poll.ensures) in
    record {
      number = omega (arith, c.loop-resolution.invariant.number);
      text =
          resolutions-more c.args.polls.now n c.loop-resolution.resolution-index c.args.resolutions.now r c.loop-resolution.text.items c.push_resolution.new.text.items c.loop-resolution-test.true c.resolution-item.is added
          ∙ c.loop-resolution.invariant.text;
    }
