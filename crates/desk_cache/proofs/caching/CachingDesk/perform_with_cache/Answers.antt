use Rattle.desk_cache.proofs.CacheLemmas.{performed_then}
use Rattle.desk_cache.proofs.caching.CachingDesk.perform_with_cache.Goals as goal

pub returns : goal.returns
returns g c =
    let read = c.in_ok-cache.ensures in
    performed_then g.S.Store c.args.self.now c.cache_record.new.self c.perform_cached.new.self c.args.call.now c.perform_cached.result _ read.cache.answered.is_open read.leaves read.still read.crash c.perform_cached.ensures
