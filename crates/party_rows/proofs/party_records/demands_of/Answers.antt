use Rattle.desk_words.specs.declared.records.DemandMark.{DemandMark}
use Rattle.proxy_rules.proofs.ProxyNameLemmas.{found-named}
use Rattle.party_rows.proofs.party_records.demands_of.Goals as goal

pub returns : goal.returns
returns c = found-named (λ (x : DemandMark). x.party) c.args.party c.args.demands.now c.by_first.result c.by_first.ensures
