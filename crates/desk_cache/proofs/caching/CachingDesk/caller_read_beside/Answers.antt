use Rattle.std.proofs.Common.{None, Ok, subst, sym}
use Rattle.sqlite.specs.Held.{Held}
use Rattle.desk_cache.specs.Cache.{IsValid}
use Rattle.desk_cache.specs.Caching.{Finds}
use Rattle.desk_store.specs.TableReads.{IsCallerWith}
use Rattle.desk_cache.proofs.CacheLemmas.{cache_after, not_found, stands_after}
use Rattle.desk_cache.proofs.caching.CachingDesk.caller_read_beside.Goals as goal

pub returns : goal.returns
returns g c =
    subst (λ (old : Held _). Finds g.S.Store old c.caller_of.new.self (Ok c.in_ok-found.found) (IsCallerWith c.args.key.now)) c.self.view_is
    (record { found = c.in_ok-found.ensures.found; leaves = c.in_ok-found.ensures.leaves; ended = c.in_ok-found.ensures.ended; stays_open = c.in_ok-found.ensures.stays_open; settled = c.in_ok-found.ensures.settled; whole = c.in_ok-found.ensures.whole; still = c.in_ok-found.ensures.still; crash = c.in_ok-found.ensures.crash })

pub returns-in_err-found : goal.returns-in_err-found
returns-in_err-found g c =
    subst (λ (old : Held _). Finds g.S.Store old c.caller_of.new.self c.from_residual.result (IsCallerWith c.args.key.now)) c.self.view_is
    (not_found g.S.Store _ _ c.from_residual.result _ c.from_residual.ensures.0 c.in_err-found.ensures.leaves c.in_err-found.ensures.ended c.in_err-found.ensures.crash)

pub invariant_of-self-2 : goal.invariant_of-self-2
invariant_of-self-2 g c =
    let cache = subst (λ (old : Held _). IsValid g.S.Store old c.args.cache) (sym c.self.view_is) c.requires.cache in
    let found = c.in_ok-found.ensures in (
      λ known. stands_after g.S.Store None c.self.inside.desk c.caller_of.new.self (c.self.invariant.0 known) found.leaves,
      cache_after g.S.Store None c.self.inside.desk c.caller_of.new.self cache.stands found.leaves found.ended found.stays_open found.settled c.with_caller.result found.whole
          (λ clean before stands. c.with_caller.ensures before (cache.agrees (found.leaves.was_reliable clean) before stands) (found.found clean before stands)),
    )
