-- Laws of the count.
use Rattle.std.specs.Prelude.{◌≡◌, true, ◌==◌, List, filter}
use Rattle.desk_words.specs.Office.{is_tally, are_rows}
use Rattle.desk_words.specs.ViewTypes.{Number}
use Rattle.desk_words.specs.declared.records.Appointment.{Appointment}
use Rattle.desk_words.specs.declared.records.Authority.{Authority}
use Rattle.desk_words.specs.declared.records.CastMark.{CastMark}
use Rattle.desk_words.specs.declared.records.Ending.{Ending}
use Rattle.desk_words.specs.declared.records.RegisterRow.{RegisterRow}
use Rattle.proxy_rules.specs.declared.meeting_records.Cutoffs.{Cutoffs}
use Rattle.vote_rules.specs.Tallies.{tally_of}

-- whatever is cast and whoever governs, the votes for, against and withheld are at most the shares,
-- and the shares at most `MOST_PLACES`
abbrev pub TalliesFitTheShares : Type 0
TalliesFitTheShares =
    (cutoffs : Cutoffs) (register : List RegisterRow) (given : List Appointment)
    (ended : List Ending) (authorities : List Authority) (casts : List CastMark)
    (resolution : Number)
    → are_rows register ≡ true
    → is_tally (tally_of cutoffs register given ended authorities casts resolution) ≡ true

-- the casts on a resolution
abbrev pub casts_on : Number → List CastMark → List CastMark
casts_on resolution casts = filter (λ (mark : CastMark). mark.resolution == resolution) casts

-- lists with the same casts on a resolution give it the same tally
abbrev pub TalliesReadTheirOwnCasts : Type 0
TalliesReadTheirOwnCasts =
    (cutoffs : Cutoffs) (register : List RegisterRow) (given : List Appointment)
    (ended : List Ending) (authorities : List Authority) (casts others : List CastMark)
    (resolution : Number)
    → casts_on resolution casts ≡ casts_on resolution others
    → tally_of cutoffs register given ended authorities casts resolution
    ≡ tally_of cutoffs register given ended authorities others resolution
