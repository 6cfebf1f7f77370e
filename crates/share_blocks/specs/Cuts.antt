-- The cuts in order, and the ranges between them.
use Rattle.std.specs.Prelude.{◌-◌, Bool, true, ◌&&◌, nat_lt, nat_le, List, [], ◌∷◌, if◌then◌else◌}
use Rattle.vocabulary.specs.declared.range.TheConstants.{MOST_PLACES}
use Rattle.desk_words.specs.Places.{Places}
use Rattle.desk_words.specs.ViewTypes.{Place}

-- whether a number is that of a place with one before it
abbrev pub is_inner : Place → Bool
is_inner place = nat_lt 1 place && nat_le place MOST_PLACES

-- the place alone, if there is one before it
abbrev pub inner : Place → List Place
inner place = if is_inner place then place ∷ [] else []

-- whether the cuts are places after `first`, in order, each once
abbrev pub rise_from : Place → List Place → Bool
rise_from first [] = true
rise_from first (cut ∷ cuts) = nat_lt first cut && nat_le cut MOST_PLACES && rise_from cut cuts

-- the ranges between the cuts, the first of them from `first` on
abbrev pub ranges_between : Place → List Place → List Places
ranges_between first [] = record { from = first; to = MOST_PLACES } ∷ []
ranges_between first (cut ∷ cuts) = record { from = first; to = cut - 1 } ∷ ranges_between cut cuts
