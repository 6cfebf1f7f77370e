use Rattle.std.specs.BTreeMap.{get}
use Rattle.vocabulary.specs.Names.{name_cmp}
use Rattle.vote_rules.proofs.SilentLemmas.{silent}
use Rattle.vote_rules.proofs.alike.one_vote.Goals as goal

pub returns-then-is_silent : goal.returns-then-is_silent
returns-then-is_silent c = λ authorities resolution share is high.
    silent c.args.on_row.now (get name_cmp c.args.instructed.now) (c.is_silent.ensures.blocks c.if-is_silent.true) (c.is_silent.ensures.instructed c.if-is_silent.true)
    authorities resolution c.args.row.now share
