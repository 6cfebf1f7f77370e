use Rattle.std.proofs.Common.{None, sym, ◌∙◌}
use Rattle.share_blocks.proofs.BlockPartLemmas.{last_before-found, last_before-none}
use Rattle.share_blocks.proofs.linked.newest_at.Goals as goal

pub returns-in-Some : goal.returns-in-Some
returns-in-Some c = sym (last_before-found None c.args.newest.now.entries _ (c.in-Some.field-0-0.now, c.in-Some.node.now) c.args.place (sym (c.range.ensures.between tt) ∙ c.in-Some.ensures.steps))

pub returns-in-None : goal.returns-in-None
returns-in-None c = sym (last_before-none None c.args.newest.now.entries c.args.place (sym (c.range.ensures.between tt) ∙ c.in-None.ensures.steps.0))
