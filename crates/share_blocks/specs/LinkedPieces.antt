-- Pieces by where they begin, each with its newest node, and nodes with what each came over.
use Rattle.std.specs.Prelude.{ℕ, ◌≡◌, ◌++◌, ◌+◌, ◌-◌, ◌==◌, Bool, true, IsTrue, nat_le, nat_lt, List, [], ◌∷◌, map, fold, length, slice_get, slice_index_or, All, Option, Some, None, if◌then◌else◌}
use Rattle.std.specs.BTreeMap.{insert_entry}
use Rattle.std.specs.BTreeMap.Range.{entries_between}
use Rattle.std.specs.declared.ops.Bound.TheVariants.{Excluded, Included}
use Rattle.std.specs.Map.{keys_of, values_of}
use Rattle.std.specs.Ordering.{nat_cmp}
use Rattle.vocabulary.specs.declared.range.TheConstants.{MOST_PLACES}
use Rattle.desk_words.specs.ViewTypes.{Place}
use Rattle.share_blocks.specs.Cuts.{rise_from}
use Rattle.share_blocks.specs.Pieces.{Piece}
use Rattle.share_blocks.specs.Tags.{Tag}
use Rattle.share_blocks.specs.declared.linked.Node.{Node}

-- where a node stands among the nodes, counted from 0
abbrev pub Index : Type 0
Index = ℕ

-- where pieces begin, in order, each with its newest node, or none
abbrev pub Newest : Type 0
Newest = List (Place × Option Index)

-- ---- the tags that nodes stand for

-- the tags of a node, or none, by the tags of each
abbrev pub tags_by : List (List Tag) → Option Index → List Tag
tags_by each None = []
tags_by each (Some index) = slice_index_or each index []

-- with one node more: its own tag, before those of the node that it came over
abbrev pub with_node : List (List Tag) → Node → List (List Tag)
with_node each node = each ++ (node.tag ∷ tags_by each node.older) ∷ []

-- the tags of each node
abbrev pub tags_of_nodes : List Node → List (List Tag)
tags_of_nodes nodes = fold with_node [] nodes

-- whether it is none, or one of the first nodes
abbrev pub is_among_first : ℕ → Option Index → Bool
is_among_first count None = true
is_among_first count (Some index) = nat_lt index count

-- each node came over an earlier one, or over none
abbrev pub LinksGoBack : List Node → Type 0
LinksGoBack nodes =
    (index : Index) (node : Node) → slice_get nodes index ≡ Some node
    → IsTrue (is_among_first index node.older)

-- pieces begin at places in order, each with one of the nodes or none, and links go back
abbrev pub AreLinked : Newest → List Node → Type 0
AreLinked newest nodes =
    IsTrue (rise_from 0 (keys_of newest))
    × All (λ node. IsTrue (is_among_first (length nodes) node)) (values_of newest)
    × LinksGoBack nodes

-- ---- the pieces

-- where a piece begins, and its tags
abbrev pub Mark : Type 0
Mark = Place × List Tag

-- where pieces begin, each with its tags
abbrev pub marks_of : Newest → List Node → List Mark
marks_of newest nodes =
    map (λ (piece : Place × Option Index). (piece.0, tags_by (tags_of_nodes nodes) piece.1)) newest

-- the pieces from a place on, which has these tags as far as the first mark
abbrev pub pieces_by : Place → List Tag → List Mark → List Piece
pieces_by first tags [] =
    record { range = record { from = first; to = MOST_PLACES }; tags = tags } ∷ []
pieces_by first tags (mark ∷ marks) =
    if nat_lt first mark.0
    then record { range = record { from = first; to = mark.0 - 1 }; tags = tags }
    ∷ pieces_by mark.0 mark.1 marks
    else pieces_by mark.0 mark.1 marks

-- the pieces of all places; those before the first that begins have no node, and so no tags
abbrev pub linked_pieces : Newest → List Node → List Piece
linked_pieces newest nodes = pieces_by 1 [] (marks_of newest nodes)

-- what the last that begins at the place or before it has, or what is before all of them
abbrev pub last_before : {X : Type 0} → X → List (Place × X) → Place → X
last_before before [] place = before
last_before before (begun ∷ others) place =
    last_before (if nat_le begun.0 place then begun.1 else before) others place

-- the newest node of a place, if it has one
abbrev pub newest_at : Newest → Place → Option Index
newest_at newest place = last_before None newest place

-- with the piece of a place parted before the place; both parts have its newest node
abbrev pub split_before : Place → Newest → Newest
split_before place newest = insert_entry nat_cmp newest place (newest_at newest place)

-- with the piece of a place parted behind it, if a place is behind it
abbrev pub split_after : Place → Newest → Newest
split_after place newest =
    if nat_lt place MOST_PLACES then split_before (place + 1) newest else newest

-- a mark, with the tag in front of its tags if it is at the place
abbrev pub tagged_at : Place → Tag → Mark → Mark
tagged_at place tag mark = (mark.0, if mark.0 == place then tag ∷ mark.1 else mark.1)

-- marks, with the tag in front of those at the places
abbrev pub tagged_each : Tag → List Mark → List Place → List Mark
tagged_each tag marks places =
    fold (λ (marks : List Mark) (place : Place). map (tagged_at place tag) marks) marks places

-- the pieces that begin past a place and up to another
abbrev pub begun_between : Place → Place → Newest → Newest
begun_between place last newest = entries_between nat_cmp (Excluded place) (Included last) newest
