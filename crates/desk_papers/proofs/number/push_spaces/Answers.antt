use Rattle.std.proofs.Common.{◌++◌, ap, ◌∙◌, arith}
use Rattle.std.proofs.lemmas.List.{take-replicate}
use Rattle.desk_papers.proofs.number.push_spaces.Goals as goal

pub returns : goal.returns
returns c = c.in_ok-extend_from_slice.ensures.items ∙ ap (λ spaces. c.args.text.now.items ++ spaces) (take-replicate c.args.count 13 32 (omega arith))
