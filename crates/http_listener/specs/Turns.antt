-- What serving one connection after another leaves.
use Rattle.std.specs.Prelude.{◌≡◌, ◌⊎◌, ⊤, ℕ, ◌≤◌, List, [], ◌∷◌, length, Option, Some, None, Result, Err}
use Rattle.any_office.specs.StoredOffice.{HasFailed}
use Rattle.any_office.specs.CrashedOffice.{LeadsOn, OfficeEvent, calls_answered}
use Rattle.any_office.specs.OfficeRuns.{calls_in}
use Rattle.any_office.specs.declared.Office as office
use Rattle.byte_io.specs.declared.sink.Sink as sink
use Rattle.byte_io.specs.declared.source.Source as source
use Rattle.wall_clock.specs.GivenMoments.{GivesMoments}
use Rattle.wall_clock.specs.declared.clock.Clock as clock
use Rattle.desk_http.specs.AskedOffice.{calls_tried}
use Rattle.desk_words.specs.ViewTypes.{Moment}
use Rattle.desk_words.specs.declared.office.OfficeLists.{OfficeLists}
use Rattle.desk_words.specs.declared.request.Call.{Call}
use Rattle.meeting_core.specs.Step.{run_of}
use Rattle.tcp_close.specs.declared.listener.Listener as listener
use Rattle.http_listener.specs.Connections.{ServesTurns, Standing}
use Rattle.http_listener.specs.declared.listening.LoopFault.{LoopFault}
use Rattle.http_listener.specs.declared.listening.LoopFault.TheVariants as fault

-- a call, if one was tried, was tried at that moment
abbrev pub IsMadeAt : Option Call → Moment → Type 0
IsMadeAt None now = ⊤
IsMadeAt (Some call) now = call.moment ≡ now

-- at each of these moments one call was tried, or none
abbrev pub AreMadeAt : List (Option Call) → List Moment → Type 0
AreMadeAt [] [] = ⊤
AreMadeAt [] (now ∷ moments) = ⊥
AreMadeAt (tried ∷ later) [] = ⊥
AreMadeAt (tried ∷ later) (now ∷ moments) = IsMadeAt tried now × AreMadeAt later moments

-- the calls that were tried, answered or failed, were tried at these moments: at each one or none
abbrev pub AreTriedAt : List OfficeEvent → List Moment → Type 0
AreTriedAt asked moments =
    (tried : List (Option Call)) × AreMadeAt tried moments × (calls_in tried ≡ calls_tried asked)

module _ {O : Type 0} (g : office.Ghosts O) where
  -- what is left of an office of which this was asked, at these moments: no failure is made good,
  -- and nothing is opened again; only a device that fails shuts it; and the office that was stored
  -- is the one after the run of the calls that were answered
  pub record Ran (moments : List Moment) (old new : O) : Type 0 where
    pub was_reliable : g.is_reliable new → g.is_reliable old
    pub was_open : g.is_reliable new → g.is_open new → g.is_open old
    pub closes : g.is_reliable new → g.is_open old
        → g.is_open new ⊎ HasFailed (g.faults old) (g.faults new)
    pub counts : g.faults old ≤ g.faults new
    pub asked : List OfficeEvent
    pub leads : LeadsOn g old asked new
    pub at : AreTriedAt asked moments
    pub stands : g.is_reliable new → g.is_open new → (office : OfficeLists) → g.stands old office
        → g.stands new (run_of office (calls_answered asked)).office

  -- a clock gave some moments, at most so many, and such a run was made at these
  pub record Turned {C : Type 0} (gives : C → Moment → C → Type 0) (most : ℕ) (clock clock' : C)
      (old new : O) : Type 0 where
    pub moments : List Moment
    pub gave : GivesMoments gives clock moments clock'
    pub bound : length moments ≤ most
    pub ran : Ran moments old new

-- this clock gave them, and the run was of this office
abbrev pub RanAt : {C O : Type 0} → clock.Ghosts C → office.Ghosts O → ℕ → C → C → O → O → Type 0
RanAt k g most before after old new = Turned g k.gives most before after old new

-- such a run was made; and where the loop ended for want of a moment, the clock gave no further one
abbrev pub RanBy : {L C O : Type 0} → clock.Ghosts C → office.Ghosts O → ℕ
    → Result (Unit {0}) LoopFault → Standing L C O → Standing L C O → Type 0
RanBy {C = C} k g most (Err fault.Clock) before after =
    (between : C) × RanAt k g most before.clock between before.office after.office
    × k.fails between after.clock
RanBy k g most returned before after =
    RanAt k g most before.clock after.clock before.office after.office

-- a loop over connections, however it ends, leaves an office after such a run
abbrev pub LoopsAreRuns : {L R W C O : Type 0} → listener.Ghosts L R W → source.Ghosts R
    → sink.Ghosts W → clock.Ghosts C → office.Ghosts O → Type 0
LoopsAreRuns {L} {R} {W} {C} {O} l r w k g =
    (count : ℕ) (result : Result (Unit {0}) LoopFault) (before after : Standing L C O)
    → ServesTurns l r w k g count result before after → RanBy k g count result before after
