use Rattle.std.proofs.Common.{Ok, Some, subst, sym}
use Rattle.std.specs.Fn.{FnOnceReturnsAt}
use Rattle.sqlite.specs.Held.{Held}
use Rattle.meeting_core.specs.Step.{decided}
use Rattle.desk_cache.specs.Cache.{IsValid}
use Rattle.desk_cache.specs.Caching.{Performs}
use Rattle.desk_cache.proofs.CacheLemmas.{cache_after, not_performed, stands_after}
use Rattle.desk_cache.proofs.caching.CachingDesk.perform_in_tables.Goals as goal

pub returns-in_err-shown : goal.returns-in_err-shown
returns-in_err-shown g c =
    subst (λ (old : Held _). Performs g.S.Store old c.perform_with_records.new.self c.args.call.now c.from_residual.result (λ reply t. FnOnceReturnsAt g.F.FnOnce c.args.show reply (Ok t))) c.self.view_is
    (not_performed g.S.Store _ _ c.args.call.now c.from_residual.result _ c.from_residual.ensures.0 c.in_err-shown.ensures.leaves c.in_err-shown.ensures.ended (λ clean. c.in_err-shown.ensures.crash.crash clean))

pub invariant_of-self-2 : goal.invariant_of-self-2
invariant_of-self-2 g c =
    let cache = subst (λ (old : Held _). IsValid g.S.Store old c.args.cache) (sym c.self.view_is) c.requires.cache in
    let done = c.in_ok-shown.ensures in (
      λ known. stands_after g.S.Store (Some c.args.call.now) c.self.inside.desk c.perform_with_records.new.self (c.self.invariant.0 known) done.leaves,
      cache_after g.S.Store (Some c.args.call.now) c.self.inside.desk c.perform_with_records.new.self cache.stands done.leaves done.ended done.stays_open done.settled c.after.result done.whole
          (λ clean before stands. c.after.ensures before (decided before c.args.call.now).change (cache.agrees (done.leaves.was_reliable clean) before stands) (done.done clean before stands).2),
    )
