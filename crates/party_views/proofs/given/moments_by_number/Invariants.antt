use Rattle.std.proofs.Common.{◌≡◌, ℕ, take}
use Rattle.std.specs.BTreeMap.{get}
use Rattle.std.specs.Ordering.{nat_cmp}
use Rattle.party_views.specs.OwnViews.{ended_at}
use Rattle.party_views.proofs.given.moments_by_number.Given as goal

-- the moments of the first endings
abbrev pub invariant-loop-ending : goal.invariant-loop-ending
invariant-loop-ending l = (number : ℕ) → get nat_cmp l.moments number ≡ ended_at (take l.ending-index l.ended) number
