-- The votes that a party cast: all of them, or how many are on one resolution.
use Rattle.std.specs.Prelude.{ℕ, ◌==◌, List, [], count_by, Option, Some, None, if◌then◌else◌}
use Rattle.desk_words.specs.ViewTypes.{Number}
use Rattle.desk_words.specs.declared.records.CastMark.{CastMark}
use Rattle.party_views.specs.declared.own_rows.OwnCasts.{OwnCasts}
use Rattle.party_views.specs.declared.own_rows.OwnCasts.TheVariants.{All, Counted}

-- how many of these votes are on a resolution
abbrev pub cast_count : List CastMark → Number → ℕ
cast_count casts resolution = count_by (λ (c : CastMark). c.resolution == resolution) casts

-- how many of a party's are, as far as they are known
abbrev pub count_on : OwnCasts → Number → ℕ
count_on (All casts) resolution = cast_count casts resolution
count_on (Counted on count) resolution = if on == resolution then count else 0

-- of its votes nothing but how many are on a resolution
abbrev pub counted_on : Number → OwnCasts → OwnCasts
counted_on resolution casts = Counted resolution (count_on casts resolution)

-- there are none, of all or on the resolution that is asked for
abbrev pub no_casts : Option Number → OwnCasts
no_casts None = All []
no_casts (Some resolution) = Counted resolution 0

-- all of them, as far as they are known
abbrev pub all_casts : OwnCasts → List CastMark
all_casts (All casts) = casts
all_casts (Counted on count) = []
