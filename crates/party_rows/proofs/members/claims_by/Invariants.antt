use Rattle.std.proofs.Common.{◌≡◌, map, take}
use Rattle.std.specs.List.{filter_map, slice_get}
use Rattle.proxy_rules.specs.Holdings.{claim_of}
use Rattle.party_rows.proofs.members.claims_by.Given as goal

-- the claims of the appointments at the first places
abbrev pub invariant-loop-place : goal.invariant-loop-place
invariant-loop-place l = l.claims.items ≡ map claim_of (filter_map (slice_get l.all) (take l.place-index l.places))
