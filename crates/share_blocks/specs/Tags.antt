-- Tags, and sets of them.
use Rattle.std.specs.Prelude.{ℕ, ◌+◌, Bool, true, false, ◌&&◌, nat_le, List, [], ◌∷◌, Option, Some, None, if◌then◌else◌}
use Rattle.share_blocks.specs.declared.tag.TheConstants.{MOST_TAGS}

-- what contracts see of a tag: its number
abbrev pub Tag : Type 0
Tag = ℕ

-- whether a number is that of a tag
abbrev pub is_tag : ℕ → Bool
is_tag number = nat_le 1 number && nat_le number MOST_TAGS

-- the tag of a number, if it has one
abbrev pub tag_of : ℕ → Option Tag
tag_of number = if is_tag number then Some number else None

-- the numbers that are marked, counted from `first`
abbrev pub marked_from : Tag → List Bool → List Tag
marked_from first [] = []
marked_from first (true ∷ marks) = first ∷ marked_from (first + 1) marks
marked_from first (false ∷ marks) = marked_from (first + 1) marks
