use Rattle.std.proofs.Common.{Ok, ap, subst, sym, ◌∙◌}
use Rattle.std.specs.Fn.{FnOnceReturnsAt}
use Rattle.sqlite.specs.Held.{Held}
use Rattle.meeting_core.specs.Step.{decided}
use Rattle.desk_cache.specs.Caching.{Performs}
use Rattle.desk_cache.proofs.CacheLemmas.{if_some, performed_at_once}
use Rattle.desk_cache.proofs.caching.CachingDesk.perform_cached.Goals as goal

pub returns-in-Ok-Some : goal.returns-in-Ok-Some
returns-in-Ok-Some g c =
    let decides = if_some _ _ _ c.in-Ok-Some.field-0-is c.in-Ok-Some.ensures in
    subst (λ (new : Held _). Performs g.S.Store c.args.self.now new c.args.call.now c.show_reply.result (λ reply t. FnOnceReturnsAt g.F.FnOnce c.args.show reply (Ok t))) (sym c.show_reply.ensures.same)
    (performed_at_once g.S.Store c.args.self.now c.args.cache c.args.call.now c.show_reply.result c.in-Ok-Some.reply _ c.requires.cache (λ office is preserved. ap (decided office) c.in-Some.ensures ∙ decides office is preserved) c.show_reply.ensures.shown)
