use Rattle.std.proofs.Common.{◌≡◌, drop, length}
use Rattle.json.specs.Tree.{json_tokens, items_tokens, members_tokens}
use Rattle.json.specs.Value.{value_view, items_view, members_view}
use Rattle.json_requests.specs.BodyValues.{items_fit, members_fit}
use Rattle.json_requests.proofs.number.+fits.Given as goal

abbrev pub decreases-fits : goal.decreases-fits
decreases-fits l = length (json_tokens (value_view l.value.now))

abbrev pub decreases-items_fit : goal.decreases-items_fit
decreases-items_fit l = length (items_tokens (items_view l.items.now.items))

abbrev pub decreases-members_fit : goal.decreases-members_fit
decreases-members_fit l = length (members_tokens (members_view l.members.now.items))

abbrev pub invariant-items_fit-loop-item : goal.invariant-items_fit-loop-item
invariant-items_fit-loop-item l = items_fit (items_view l.item-items) ≡ items_fit (items_view (drop l.item-index l.item-items))

abbrev pub invariant-members_fit-loop-member : goal.invariant-members_fit-loop-member
invariant-members_fit-loop-member l = members_fit (members_view l.member-items) ≡ members_fit (members_view (drop l.member-index l.member-items))
