-- Laws of the appointments that govern.
use Rattle.std.specs.Prelude.{◌≡◌, ◌↔◌, ℕ, Bool, true, false, ◌&&◌, ◌==◌, nat_le, List, [], ◌∷◌, ◌++◌, Some, IsTrue}
use Rattle.std.specs.List.{list_any}
use Rattle.vocabulary.specs.Places.{Places, holds}
use Rattle.desk_words.specs.ViewTypes.{Party, Place}
use Rattle.desk_words.specs.declared.records.Appointment.{Appointment}
use Rattle.desk_words.specs.declared.records.Ending.{Ending}
use Rattle.desk_words.specs.declared.records.RegisterRow.{RegisterRow}
use Rattle.proxy_rules.specs.declared.holdings.Holding.{Holding}
use Rattle.proxy_rules.specs.declared.meeting_records.Cutoffs.{Cutoffs}
use Rattle.proxy_rules.specs.Governing.{governed_in, governing_in, governing_number}
use Rattle.proxy_rules.specs.Holdings.{claims_of, holding_of}
use Rattle.proxy_rules.specs.PlaceRuns.{are_parted, runs_that}

-- runs hold exactly the places 1 to n that pass the test
abbrev pub RunsHoldWhatPasses : Type 0
RunsHoldWhatPasses =
    (test : Place → Bool) (n : ℕ) (place : Place)
    → list_any (λ (run : Places). holds run place) (runs_that test n)
    ≡ (nat_le 1 place && nat_le place n && test place)

-- runs are in order, with gaps between them
abbrev pub RunsAreParted : Type 0
RunsAreParted = (test : Place → Bool) (n : ℕ) → are_parted (runs_that test n) ≡ true

-- the runs of what an appointment governs hold exactly the places that it governs
abbrev pub RunsHoldWhatGoverns : Type 0
RunsHoldWhatGoverns =
    (cutoffs : Cutoffs) (holding : Holding) (number : ℕ) (place : Place)
    → IsTrue (list_any (λ (run : Places). holds run place) (governed_in cutoffs holding number))
    ↔ (governing_number cutoffs holding place ≡ Some number)

-- what governs a member's share where one ending more is received governed it without that ending
abbrev pub EndingsReviveNothing : Type 0
EndingsReviveNothing =
    (cutoffs : Cutoffs) (register : List RegisterRow) (given : List Appointment)
    (ended : List Ending) (ending : Ending) (member : Party) (place : Place) (a : Appointment)
    → governing_in cutoffs (holding_of register given (ended ++ ending ∷ []) member) place ≡ Some a
    → governing_in cutoffs (holding_of register given ended member) place ≡ Some a

-- the appointment has that number
abbrev pub has_number : ℕ → Appointment → Bool
has_number number a = a.number == number

-- appointments received earlier take no place from one that is received after them
abbrev pub EarlierTakeNothing : Type 0
EarlierTakeNothing =
    (cutoffs : Cutoffs) (shares : ℕ) (earlier later : List Appointment) (ended : List Ending)
    (number : ℕ)
    → list_any (has_number number) earlier ≡ false
    → governed_in cutoffs (record { shares = shares; appointed = earlier ++ later; ended = ended })
    number
    ≡ governed_in cutoffs (record { shares = shares; appointed = later; ended = ended }) number

-- claims alone decide what an appointment governs
abbrev pub ClaimsGovern : Type 0
ClaimsGovern =
    (cutoffs : Cutoffs) (holding : Holding) (number : ℕ)
    → governed_in cutoffs (claims_of holding) number ≡ governed_in cutoffs holding number
