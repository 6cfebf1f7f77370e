use Rattle.std.proofs.Common.{ap}
use Rattle.desk_store.specs.declared.cached.StillValid.{StillValid}
use Rattle.desk_cache.proofs.CacheLemmas.{callers_still_valid, records_still_valid}
use Rattle.desk_cache.proofs.cache.Cache.after.Goals as goal

pub returns : goal.returns
returns c = λ office change cache is. record {
  callers = callers_still_valid office change c.args.self.callers c.callers_if.result c.args.valid.callers (ap (λ (s : StillValid). s.callers) is) c.callers_if.ensures.same c.callers_if.ensures.none cache.callers;
  records = records_still_valid office change c.args.self.records.items c.records_if.result.items c.args.valid.records (ap (λ (s : StillValid). s.records) is) c.records_if.ensures.same c.records_if.ensures.none cache.records;
}
