use Rattle.std.proofs.Common.{◌≡◌, ◌≤◌, take}
use Rattle.std.specs.List.{filter_map, slice_get}
use Rattle.party_views.specs.OwnCasts.{cast_count}
use Rattle.party_rows.proofs.party_records.count_cast_on.Given as goal

-- the votes on the resolution at the first places
abbrev pub invariant-loop-place : goal.invariant-loop-place
invariant-loop-place l = record {
  counted : l.count ≡ cast_count (filter_map (slice_get l.all) (take l.place-index l.places)) l.resolution;
  few : l.count ≤ l.place-index;
}
