use Rattle.std.proofs.Common.{◌≡◌, ◌+◌, ℕ, length}
use Rattle.std.specs.Prelude.{find, IsTrue, Option, Some, None}
use Rattle.std.specs.FinSet as set
use Rattle.share_blocks.specs.LinkedPieces.{is_among_first, tags_by, tags_of_nodes}
use Rattle.share_blocks.proofs.linked.first_admitted.Given as goal

-- those below have the same first admitted tag
abbrev pub invariant-loop-next : goal.invariant-loop-next
invariant-loop-next l =
    record {
      node : IsTrue (is_among_first (length l.nodes) l.next);
      tags : find (set.contains l.admitted) (tags_by (tags_of_nodes l.nodes) l.next) ≡ find (set.contains l.admitted) (tags_by (tags_of_nodes l.nodes) l.fn.newest);
    }

-- one more than where the next node stands
abbrev pub height : Option ℕ → ℕ
height None = 0
height (Some index) = index + 1

abbrev pub decreases-loop-next : goal.decreases-loop-next
decreases-loop-next l = height l.next
