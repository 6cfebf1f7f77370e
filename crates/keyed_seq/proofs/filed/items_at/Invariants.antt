use Rattle.std.proofs.Common.{◌≡◌, take}
use Rattle.std.specs.List.{filter_map, slice_get}
use Rattle.keyed_seq.proofs.filed.items_at.Given as goal

-- the items at the first places
abbrev pub invariant-loop-place : goal.invariant-loop-place
invariant-loop-place g l = l.found.items ≡ filter_map (slice_get l.items) (take l.place-index l.places)
