use Rattle.std.proofs.Common.{rules}
use Rattle.std.proofs.lemmas.Fn.{filter_same}
use Rattle.poll_rules.specs.Acting.{is_one_of}
use Rattle.poll_rules.proofs.roles.present_among.Goals as goal

pub returns : goal.returns
returns c = filter_same _ (is_one_of c.args.present.now) _ (λ x b f' k. search rules) _ _ c.retain.ensures.filtered
