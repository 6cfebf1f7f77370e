use Rattle.std.proofs.Common.{◌≡◌, ◌≤◌, take}
use Rattle.std.specs.Prelude.{count_by}
use Rattle.std.specs.List.{filter_map, slice_get}
use Rattle.std.specs.Ordering.{is_eq}
use Rattle.office_validation.proofs.keys.times.Given as goal

-- those of the first places that have the mark are counted
abbrev pub invariant-loop-place : goal.invariant-loop-place
invariant-loop-place g l =
    (l.times ≡ count_by (λ item. is_eq (g.T.Mark.Ord.cmp (g.T.Marked.mark_of item) l.mark)) (filter_map (slice_get l.all) (take l.place-index l.place-items)))
    × (l.times ≤ l.place-index)
