use Rattle.std.proofs.Common.{◌≡◌, ◌+◌, ◌-◌, ◌≤◌, length, take}
use Rattle.std.specs.Prelude.{vec_len}
use Rattle.std.specs.Vec.{vec_capacity}
use Rattle.share_blocks.specs.LinkedPieces.{AreLinked, marks_of, tagged_each}
use Rattle.share_blocks.proofs.linked.tag_pieces.Given as goal

-- the pieces at the places so far have the tag, and there is room for the others
abbrev pub invariant-loop-place : goal.invariant-loop-place
invariant-loop-place l =
    record {
      linked : AreLinked l.newest.entries l.nodes.items;
      room : vec_len l.nodes + (length l.places - l.place-index) ≤ vec_capacity l.nodes;
      marks : marks_of l.newest.entries l.nodes.items ≡ tagged_each l.tag (marks_of l.initial.newest.entries l.initial.nodes.items) (take l.place-index l.places);
    }
