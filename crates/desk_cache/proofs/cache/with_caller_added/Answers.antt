use Rattle.desk_cache.proofs.CacheLemmas.{caller_inserted}
use Rattle.desk_cache.proofs.cache.with_caller_added.Goals as goal

pub returns : goal.returns
returns c = λ office callers has. caller_inserted c.insert.result office c.args.callers c.insert.new.self c.args.key c.args.caller c.insert.ensures.updates c.insert.ensures.err callers has
