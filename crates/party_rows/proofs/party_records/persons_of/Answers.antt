use Rattle.desk_words.specs.declared.records.Authority.{Authority}
use Rattle.proxy_rules.proofs.ProxyNameLemmas.{found-named}
use Rattle.party_rows.proofs.party_records.persons_of.Goals as goal

pub returns : goal.returns
returns c = found-named (λ (x : Authority). x.corporation) c.args.party c.args.authorities.now c.by_first.result c.by_first.ensures
