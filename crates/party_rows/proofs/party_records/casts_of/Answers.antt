use Rattle.desk_words.specs.declared.records.CastMark.{CastMark}
use Rattle.proxy_rules.proofs.ProxyNameLemmas.{found-named}
use Rattle.party_rows.proofs.party_records.casts_of.Goals as goal

pub returns : goal.returns
returns c = found-named (λ (x : CastMark). x.voter) c.args.party c.args.casts.now c.by_first.result c.by_first.ensures
