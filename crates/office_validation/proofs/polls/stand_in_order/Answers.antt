use Rattle.std.proofs.Common.{◌∙◌}
use Rattle.seq.proofs.Numbers.{ascends_by-numbers}
use Rattle.desk_words.specs.declared.records.Poll.{Poll}
use Rattle.office_validation.proofs.polls.stand_in_order.Goals as goal

pub returns : goal.returns
returns c = c.ascend.ensures ∙ ascends_by-numbers (λ (p : Poll). p.resolution) c.args.polls.now
