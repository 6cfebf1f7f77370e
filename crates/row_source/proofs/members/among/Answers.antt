use Rattle.std.proofs.Common.{rules}
use Rattle.std.proofs.lemmas.Fn.{filter_same}
use Rattle.std.specs.BTreeSet.{contains}
use Rattle.vocabulary.specs.Names.{name_cmp}
use Rattle.row_source.proofs.members.among.Goals as goal

pub returns : goal.returns
returns c = filter_same _ (contains name_cmp c.args.set.now) _ (λ x b f' k. search rules) _ _ c.retain.ensures.filtered
