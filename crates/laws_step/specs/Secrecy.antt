-- What replies show of votes before they are declared: nothing.
use Rattle.std.specs.Prelude.{◌≡◌, Bool, false, not, ◌==◌, List, filter, Some}
use Rattle.desk_words.specs.ViewTypes.{Day, Moment, Number}
use Rattle.desk_words.specs.declared.office.MeetingLists.{MeetingLists}
use Rattle.desk_words.specs.declared.records.CastMark.{CastMark}
use Rattle.desk_words.specs.declared.request.OfficeRequest.{OfficeRequest}
use Rattle.desk_words.specs.declared.request.OfficeRequest.TheVariants.{Declare}
use Rattle.office_decisions.specs.OfficeRulings.{ruling_on}
use Rattle.party_views.specs.Views.{public_in}

-- the votes on other resolutions
abbrev pub casts_off : Number → List CastMark → List CastMark
casts_off resolution casts = filter (λ (c : CastMark). not (c.resolution == resolution)) casts

-- the request declares the resolution
abbrev pub declares : Number → OfficeRequest → Bool
declares resolution (Declare other) = other == resolution
declares resolution other = false

-- a meeting with these votes in place of its own
abbrev pub with_casts : List CastMark → MeetingLists → MeetingLists
with_casts casts m = record m { casts = casts }

-- whatever the office asks in a meeting, but the declaration of a resolution, is decided alike
-- whatever the votes on that resolution are
abbrev pub TheOfficeLearnsNoVotes : Type 0
TheOfficeLearnsNoVotes =
    (m : MeetingLists) (casts : List CastMark) (resolution : Number) (closed : List Day)
    (now : Moment) (asked : OfficeRequest)
    → casts_off resolution casts ≡ casts_off resolution m.casts
    → declares resolution asked ≡ false
    → ruling_on closed now asked (with_casts casts m) ≡ ruling_on closed now asked m

-- and votes stand in no public record
abbrev pub VotesAreNotPublic : Type 0
VotesAreNotPublic =
    (m : MeetingLists) (casts : List CastMark) (closed : List Day)
    → public_in (Some (with_casts casts m)) closed ≡ public_in (Some m) closed
