-- A holding's appointments as covers of its places, each under the tag of its number. For private
-- contracts.
use Rattle.std.specs.Prelude.{ℕ, ◌-◌, Bool, nat_le, nat_lt, min, List, find, Option, Some, None, option_map, option_and_then, if◌then◌else◌}
use Rattle.std.specs.List.{filter_map}
use Rattle.vocabulary.specs.Places.{Places, range_of}
use Rattle.desk_words.specs.ViewTypes.{Place}
use Rattle.desk_words.specs.declared.records.Appointment.{Appointment}
use Rattle.desk_words.specs.declared.records.Ending.{Ending}
use Rattle.proxy_rules.specs.declared.meeting_records.Cutoffs.{Cutoffs}
use Rattle.proxy_rules.specs.declared.pieces.GovernedPiece.{GovernedPiece}
use Rattle.share_blocks.specs.Covers.{Cover}
use Rattle.share_blocks.specs.Pieces.{Piece, tags_at}
use Rattle.share_blocks.specs.Tags.{Tag, tag_of}

-- the range of an appointment that counts, under the tag of its number
abbrev pub cover_by : Cutoffs → Appointment → Option Cover
cover_by cutoffs a =
    if nat_le a.moment cutoffs.appointments
    then option_map (λ tag. (a.range, tag)) (tag_of a.number)
    else None

-- the covers of the appointments that count, in order of receipt
abbrev pub covers_by : Cutoffs → List Appointment → List Cover
covers_by cutoffs appointed = filter_map (cover_by cutoffs) appointed

-- the tag of the number that an ending names, in time to count
abbrev pub tag_ended : Cutoffs → Ending → Option Tag
tag_ended cutoffs e = if nat_lt e.moment cutoffs.endings then tag_of e.number else None

-- the tag, unless it is ended
abbrev pub if_unended : (Tag → Bool) → Tag → Option Tag
if_unended is_ended tag = if is_ended tag then None else Some tag

-- the newest tag of a place that passes a test, unless it is ended
abbrev pub tag_over : (Tag → Bool) → (Tag → Bool) → List Piece → Place → Option Tag
tag_over test is_ended pieces place =
    option_and_then (if_unended is_ended) (find test (tags_at pieces place))

-- what of a range of places a holding of so many shares has
abbrev pub held_of : ℕ → Places → Option Places
held_of shares range = range_of range.from (min shares range.to)

-- what of a range the holding has, with where the appointment of that tag stands among those that
-- are numbered 1, 2, ..
abbrev pub piece_by : Option Places → Option Tag → Option GovernedPiece
piece_by held tag =
    option_map (λ range. record { range = range; by = option_map (λ number. number - 1) tag }) held

-- what of a range the holding has, by the newest tag of its first place
abbrev pub piece_over : (Tag → Bool) → (Tag → Bool) → List Piece → ℕ → Places → Option GovernedPiece
piece_over test is_ended pieces shares range =
    piece_by (held_of shares range) (tag_over test is_ended pieces range.from)
