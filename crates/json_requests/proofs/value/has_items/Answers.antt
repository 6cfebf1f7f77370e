use Rattle.json_requests.proofs.ItemLemmas.{items_seen}
use Rattle.json_requests.proofs.value.has_items.Goals as goal

pub returns-in-Some : goal.returns-in-Some
returns-in-Some c = rw (c.as_slice.ensures.value, ← c.in-Some.ensures, items_seen)
