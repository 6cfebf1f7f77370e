use Rattle.std.proofs.Common.{Ok, Some, subst}
use Rattle.std.specs.Fn.{FnOnceReturnsAt}
use Rattle.sqlite.specs.Held.{Held}
use Rattle.desk_cache.specs.Caching.{Performs}
use Rattle.desk_cache.proofs.CacheLemmas.{new_cache_valid, not_performed}
use Rattle.desk_cache.proofs.caching.CachingDesk.perform_uncached.Goals as goal

pub returns-in_err-shown : goal.returns-in_err-shown
returns-in_err-shown g c =
    subst (λ (old : Held _). Performs g.S.Store old c.perform.new.self c.args.call c.from_residual.result (λ reply t. FnOnceReturnsAt g.F.FnOnce c.args.show reply (Ok t))) c.self.view_is
    (not_performed g.S.Store _ _ c.args.call c.from_residual.result _ c.from_residual.ensures.0 c.in_err-shown.ensures.leaves c.in_err-shown.ensures.ended (λ clean. c.in_err-shown.ensures.crash.crash clean))

pub invariant_of-self-2 : goal.invariant_of-self-2
invariant_of-self-2 g c = new_cache_valid g.S.Store (Some c.args.call) c.self.inside.desk c.perform.new.self c.self.inside.is_known c.new_cache_if.result c.self.invariant.0 c.in_ok-shown.ensures.leaves c.in_ok-shown.ensures.ended c.in_ok-shown.ensures.stays_open c.in_ok-shown.ensures.settled c.in_ok-shown.ensures.whole c.new_cache_if.ensures
