use Rattle.desk_words.specs.declared.records.Ending.{Ending}
use Rattle.proxy_rules.proofs.ProxyNameLemmas.{found-named}
use Rattle.party_rows.proofs.party_records.ended_by.Goals as goal

pub returns : goal.returns
returns c = found-named (λ (x : Ending). x.member) c.args.party c.args.endings.now c.by_first.result c.by_first.ensures
