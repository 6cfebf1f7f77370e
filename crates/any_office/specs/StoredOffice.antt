-- What is left of an office after it was asked, wherever it is stored.
use Rattle.std.specs.Prelude.{◌≡◌, ◌⊎◌, ℕ, ◌≤◌, Option, Some, None, Result, Ok, Err}
use Rattle.byte_io.specs.Counts.{one_more}
use Rattle.desk_words.specs.declared.office.OfficeLists.{OfficeLists}
use Rattle.desk_words.specs.declared.request.Call.{Call}
use Rattle.meeting_core.specs.Step.{stepped}

-- the office after the step of a call, or, where no call was made, as it was
abbrev pub office_after : OfficeLists → Option Call → OfficeLists
office_after office None = office
office_after office (Some call) = stepped office call

-- a call that is answered was made, and one that failed was not
abbrev pub made_by : {T E : Type 0} → Result T E → Call → Option Call
made_by (Ok x) call = Some call
made_by (Err e) call = None

-- this holds of the office that was stored, where what stores it is reliable afterwards
abbrev pub HoldsOfOffice : {H : Type 0} → (H → Type 0) → (H → OfficeLists → Type 0) → H → H
    → (OfficeLists → Type 0) → Type 0
HoldsOfOffice IsReliable Stands old new Holds =
    IsReliable new → (office : OfficeLists) → Stands old office → Holds office

-- a device under it failed between these two counts
abbrev pub HasFailed : ℕ → ℕ → Type 0
HasFailed before after = one_more before ≤ after

-- what is left after a call was made, or none: no failure is made good, and nothing is opened
-- again; only a device that fails shuts it; and the office that was stored is the one after the
-- call
pub record IsTransition {H : Type 0} (IsReliable IsOpen : H → Type 0)
    (Stands : H → OfficeLists → Type 0) (faults : H → ℕ) (made : Option Call) (old new : H)
    : Type 0 where
  pub was_reliable : IsReliable new → IsReliable old
  pub was_open : IsReliable new → IsOpen new → IsOpen old
  pub closes : IsReliable new → IsOpen old → IsOpen new ⊎ HasFailed (faults old) (faults new)
  pub counts : faults old ≤ faults new
  pub stands : IsReliable new → IsOpen new → (office : OfficeLists) → Stands old office
      → Stands new (office_after office made)

-- an office that is open is known to be stored
abbrev pub IsKnownIfOpen : {H : Type 0} → (H → Type 0) → (H → OfficeLists → Type 0) → H → Type 0
IsKnownIfOpen IsOpen Stands h = IsOpen h → (office : OfficeLists) × Stands h office

-- whatever a crash leaves is opened as this office: as no other, and it is never unreadable
abbrev pub LeavesOnly : {H L : Type 0} → (H → L → Type 0) → (L → OfficeLists → Type 0) → H
    → OfficeLists → Type 0
LeavesOnly {L = L} MayLeave OpensAs new office =
    (left : L) → MayLeave new left → OpensAs left office

-- whatever a crash leaves it could leave before, or this holds of it
abbrev pub LeavesAtMost : {H L : Type 0} → (H → L → Type 0) → H → H → (L → Type 0) → Type 0
LeavesAtMost {L = L} MayLeave old new IsNext =
    (left : L) → MayLeave new left → MayLeave old left ⊎ IsNext left

-- what stored the office was open, and what a crash left is opened as the office after the step of
-- the call
abbrev pub IsAfterCall : {H L : Type 0} → (H → Type 0) → (H → OfficeLists → Type 0)
    → (L → OfficeLists → Type 0) → H → Call → L → Type 0
IsAfterCall IsOpen Stands OpensAs old call left =
    IsOpen old × ((office : OfficeLists) → Stands old office → OpensAs left (stepped office call))
