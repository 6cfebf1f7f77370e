use Rattle.std.proofs.Common.{◌≡◌, Some, IfSome, sym, subst, ◌∙◌}
use Rattle.meeting_core.specs.KeyHolders.{caller_with}
use Rattle.desk_cache.proofs.cache.Cache.caller.Goals as goal

pub returns : goal.returns
returns c = λ office cache. subst (λ found. IfSome found (λ caller. caller_with office.keys c.args.key.now ≡ Some caller)) (sym (c.copied.ensures ∙ c.get.ensures.value)) (cache.callers c.args.key.now)
