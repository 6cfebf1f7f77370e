-- What a crash leaves of an office, whatever was asked of it.
use Rattle.std.specs.Prelude.{◌≡◌, ◌⊎◌, ⊤, List, [], ◌∷◌, filter_map, Option, Some, None}
use Rattle.any_office.specs.StoredOffice.{IsAfterCall, IsKnownIfOpen, LeavesAtMost, LeavesOnly, office_after}
use Rattle.any_office.specs.OfficeRuns.{LeavesOffice}
use Rattle.any_office.specs.declared.Office as office
use Rattle.desk_words.specs.declared.office.OfficeLists.{OfficeLists}
use Rattle.desk_words.specs.declared.request.Call.{Call}
use Rattle.meeting_core.specs.Step.{run_of, stepped}

-- what is asked of an office: a reading, whether it is answered or fails, a call that is answered,
-- or a call that fails
pub data OfficeEvent : Type 0 where
  Reads : OfficeEvent
  Answers : Call → OfficeEvent
  Fails : Call → OfficeEvent

-- the call that was made
abbrev pub made_in : OfficeEvent → Option Call
made_in Reads = None
made_in (Answers call) = Some call
made_in (Fails call) = None

-- the calls that were answered
abbrev pub calls_answered : List OfficeEvent → List Call
calls_answered = filter_map made_in

-- no call is lost, or one that failed
abbrev pub MayBeLost : Option Call → List OfficeEvent → Type 0
MayBeLost None asked = ⊤
MayBeLost (Some call) [] = ⊥
MayBeLost (Some call) (Fails failed ∷ later) = (failed ≡ call) ⊎ MayBeLost (Some call) later
MayBeLost (Some call) (asked ∷ later) = MayBeLost (Some call) later

module _ {O : Type 0} (g : office.Ghosts O) where
  -- what a crash leaves, as each reading and each call promises
  abbrev pub CrashLeaves : OfficeEvent → O → O → Type 0
  CrashLeaves Reads old new =
      IsKnownIfOpen g.is_open g.stands old → LeavesAtMost g.may_leave old new (λ _. ⊥)
  CrashLeaves (Answers call) old new =
      g.is_open new
      × ((office : OfficeLists) → g.stands old office
      → LeavesOnly g.may_leave g.opens_as new (stepped office call))
  CrashLeaves (Fails call) old new =
      LeavesAtMost g.may_leave old new (IsAfterCall g.is_open g.stands g.opens_as old call)

  -- one after another, from an office to an office
  abbrev pub LeadsOn : O → List OfficeEvent → O → Type 0
  LeadsOn old [] new = new ≡ old
  LeadsOn old (asked ∷ later) new =
      (between : O) × LeavesOffice g (made_in asked) old between
      × (g.is_reliable between → CrashLeaves asked old between) × LeadsOn between later new

  -- where a crash left only the office that was stored, and what is asked leads to what is
  -- reliable, open or shut, whatever a crash then leaves is opened as the office after the run of
  -- the calls that were answered, or as that office after one step more, of a call that failed
  abbrev pub CrashesLeaveARun : Type 0
  CrashesLeaveARun =
      (old new : O) (asked : List OfficeEvent) → LeadsOn old asked new → g.is_reliable new
      → (office : OfficeLists) → g.stands old office → LeavesOnly g.may_leave g.opens_as old office
      → (left : g.Left) → g.may_leave new left
      → (lost : Option Call) × MayBeLost lost asked
      × g.opens_as left (office_after (run_of office (calls_answered asked)).office lost)
