use Rattle.http_heads.proofs.HeadLemmas as lemmas
use Rattle.http_heads.proofs.laws.one_head.Goals as goal

pub returns : goal.returns
returns c = lemmas.one_head
