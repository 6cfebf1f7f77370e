use Rattle.std.proofs.Common.{None, Ok, subst}
use Rattle.sqlite.specs.Held.{Held}
use Rattle.desk_cache.specs.Caching.{Finds}
use Rattle.desk_store.specs.TableReads.{IsCallerWith}
use Rattle.desk_cache.proofs.CacheLemmas.{new_cache_valid, not_found}
use Rattle.desk_cache.proofs.caching.CachingDesk.caller_uncached.Goals as goal

pub returns : goal.returns
returns g c =
    subst (λ (old : Held _). Finds g.S.Store old c.caller_of.new.self (Ok c.in_ok-found.found) (IsCallerWith c.args.key.now)) c.self.view_is
    (record { found = c.in_ok-found.ensures.found; leaves = c.in_ok-found.ensures.leaves; ended = c.in_ok-found.ensures.ended; stays_open = c.in_ok-found.ensures.stays_open; settled = c.in_ok-found.ensures.settled; whole = c.in_ok-found.ensures.whole; still = c.in_ok-found.ensures.still; crash = c.in_ok-found.ensures.crash })

pub returns-in_err-found : goal.returns-in_err-found
returns-in_err-found g c =
    subst (λ (old : Held _). Finds g.S.Store old c.caller_of.new.self c.from_residual.result (IsCallerWith c.args.key.now)) c.self.view_is
    (not_found g.S.Store _ _ c.from_residual.result _ c.from_residual.ensures.0 c.in_err-found.ensures.leaves c.in_err-found.ensures.ended c.in_err-found.ensures.crash)

pub invariant_of-self-2 : goal.invariant_of-self-2
invariant_of-self-2 g c = new_cache_valid g.S.Store None c.self.inside.desk c.caller_of.new.self c.self.inside.is_known c.new_cache_if.result c.self.invariant.0 c.in_ok-found.ensures.leaves c.in_ok-found.ensures.ended c.in_ok-found.ensures.stays_open c.in_ok-found.ensures.settled c.in_ok-found.ensures.whole c.new_cache_if.ensures
