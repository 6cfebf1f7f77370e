use Rattle.proxy_rules.proofs.TileLemmas.{places_that-tiles}
use Rattle.proxy_rules.proofs.laws.tiles_count_places.Goals as goal

pub returns : goal.returns
returns c = places_that-tiles
