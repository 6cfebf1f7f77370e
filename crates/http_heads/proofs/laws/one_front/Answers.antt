use Rattle.http_heads.proofs.HeadLemmas as lemmas
use Rattle.http_heads.proofs.laws.one_front.Goals as goal

pub returns : goal.returns
returns c = lemmas.one_front
