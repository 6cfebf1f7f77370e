-- Which appointment of a proxy governs a share. A member's appointments and endings stand in order
-- of receipt.
use Rattle.std.specs.Prelude.{ℕ, Bool, false, ◌&&◌, ◌==◌, nat_le, nat_lt, List, find, reverse, Option, Some, None, option_map, option_and_then, if◌then◌else◌}
use Rattle.std.specs.List.{list_any}
use Rattle.std.specs.Option.{option_map_or}
use Rattle.vocabulary.specs.Places.{Places, holds}
use Rattle.desk_words.specs.ViewTypes.{Place}
use Rattle.desk_words.specs.declared.records.Appointment.{Appointment}
use Rattle.desk_words.specs.declared.records.Ending.{Ending}
use Rattle.proxy_rules.specs.declared.holdings.Holding.{Holding}
use Rattle.proxy_rules.specs.declared.meeting_records.Cutoffs.{Cutoffs}
use Rattle.proxy_rules.specs.PlaceRuns.{runs_that}
use Rattle.proxy_rules.specs.Shares.{is_share}

-- received in time to count, and over the place (sections 324 and 327)
abbrev pub is_over : Cutoffs → Place → Appointment → Bool
is_over cutoffs place a = nat_le a.moment cutoffs.appointments && holds a.range place

-- the last received of the appointments that count and hold the place (section 324)
abbrev pub last_over : Cutoffs → Holding → Place → Option Appointment
last_over cutoffs holding place = find (is_over cutoffs place) (reverse holding.appointed)

-- the ending names the appointment of that number, in time to count (section 330)
abbrev pub ends : Cutoffs → ℕ → Ending → Bool
ends cutoffs number e = e.number == number && nat_lt e.moment cutoffs.endings

-- a counted ending names the appointment (section 330)
abbrev pub is_ended : Cutoffs → Holding → Appointment → Bool
is_ended cutoffs holding a = list_any (ends cutoffs a.number) holding.ended

-- the appointment, unless a counted ending names it
abbrev pub unended : Cutoffs → Holding → Appointment → Option Appointment
unended cutoffs holding a = if is_ended cutoffs holding a then None else Some a

-- the place is that of a share of the holding
abbrev pub has_share : Holding → Place → Bool
has_share holding place = is_share holding.shares place

-- the appointment that governs a share (section 324): none past the holding; else the last received
-- that counts and holds its place, and none where a counted ending names that one; what it replaced
-- is not revived (own, after section 330)
abbrev pub governing_in : Cutoffs → Holding → Place → Option Appointment
governing_in cutoffs holding place =
    if has_share holding place
    then option_and_then (unended cutoffs holding) (last_over cutoffs holding place)
    else None

-- the number of the appointment that governs a share
abbrev pub governing_number : Cutoffs → Holding → Place → Option ℕ
governing_number cutoffs holding place =
    option_map (λ (a : Appointment). a.number) (governing_in cutoffs holding place)

-- the appointment of that number is the one that governs the share
abbrev pub governs : Cutoffs → Holding → ℕ → Place → Bool
governs cutoffs holding number place =
    option_map_or (λ (a : Appointment). a.number == number) (governing_in cutoffs holding place)
    false

-- the shares of the holding that the appointment of that number governs, in runs in order, with
-- gaps between them (section 324)
abbrev pub governed_in : Cutoffs → Holding → ℕ → List Places
governed_in cutoffs holding number = runs_that (governs cutoffs holding number) holding.shares
