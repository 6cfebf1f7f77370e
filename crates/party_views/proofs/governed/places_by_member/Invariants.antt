use Rattle.std.proofs.Common.{◌≡◌, ℕ, List, take}
use Rattle.std.specs.BTreeMap.{get}
use Rattle.std.specs.List.{slice_get}
use Rattle.std.specs.Prelude.{option_and_then}
use Rattle.vocabulary.specs.Names.{name_cmp}
use Rattle.party_views.specs.OwnViews.{rows_by}
use Rattle.party_views.proofs.governed.places_by_member.Given as goal

-- for each member the place of its last rows among the first
abbrev pub invariant-loop-rows : goal.invariant-loop-rows
invariant-loop-rows l = record {
  count : l.place ≡ l.rows-index;
  found : (member : List ℕ) → option_and_then (slice_get l.members) (get name_cmp l.places member) ≡ rows_by (take l.rows-index l.members) member;
}
