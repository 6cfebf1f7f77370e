use Rattle.std.proofs.Common.{Ok, subst}
use Rattle.std.specs.Fn.{FnOnceReturnsAt}
use Rattle.sqlite.specs.Held.{Held}
use Rattle.desk_cache.specs.Caching.{Performs}
use Rattle.desk_cache.proofs.caching.CachingDesk.perform.Goals as goal

pub returns-in-Some : goal.returns-in-Some
returns-in-Some g c =
    subst (λ (old : Held _). Performs g.S.Store old c.perform_with_cache.new.self c.args.call c.perform_with_cache.result (λ reply t. FnOnceReturnsAt g.F.FnOnce c.args.show reply (Ok t))) c.self.view_is c.perform_with_cache.ensures
