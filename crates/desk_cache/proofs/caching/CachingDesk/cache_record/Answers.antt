use Rattle.std.proofs.Common.{None, subst, sym}
use Rattle.sqlite.specs.Held.{Held}
use Rattle.desk_cache.specs.Cache.{IsValid}
use Rattle.desk_cache.proofs.CacheLemmas.{cache_after}
use Rattle.desk_cache.proofs.caching.CachingDesk.cache_record.Goals as goal

pub returns-clause-cache : goal.returns-clause-cache
returns-clause-cache g c =
    let cache = subst (λ (old : Held _). IsValid g.S.Store old c.args.cache) (sym c.self.view_is) c.requires.cache in
    let read = c.in_ok-public.ensures in
    cache_after g.S.Store None c.self.inside.desk c.read_public.new.self cache.stands read.leaves read.ended read.stays_open read.settled c.with_record.result read.whole
    (λ clean before stands. c.with_record.ensures before (cache.agrees (read.leaves.was_reliable clean) before stands) (read.held clean before stands))
