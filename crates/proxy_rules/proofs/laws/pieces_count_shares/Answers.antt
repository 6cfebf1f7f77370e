use Rattle.proxy_rules.proofs.TileLemmas.{places_that-pieces}
use Rattle.proxy_rules.proofs.laws.pieces_count_shares.Goals as goal

pub returns : goal.returns
returns c = places_that-pieces
