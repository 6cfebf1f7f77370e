-- What a served run does to the office that a file stores.
use Rattle.std.specs.Prelude.{◌≡◌, ◌⊎◌, ℕ, ◌≤◌, List, [], length, Option}
use Rattle.host.specs.declared.offices.OfficeFiles as offices
use Rattle.host.specs.declared.ports.Ports as ports
use Rattle.host.specs.declared.zone_clocks.ZoneClocks as zones
use Rattle.any_office.specs.CrashedOffice.{MayBeLost, OfficeEvent, calls_answered}
use Rattle.any_office.specs.StoredOffice.{office_after}
use Rattle.any_office.specs.declared.Office as office
use Rattle.byte_io.specs.declared.sink.Sink as sink
use Rattle.byte_io.specs.declared.source.Source as source
use Rattle.wall_clock.specs.GivenMoments.{GivesMoments}
use Rattle.wall_clock.specs.declared.clock.Clock as clock
use Rattle.cli_exit.specs.Endings.{Ending}
use Rattle.desk_words.specs.ViewTypes.{Moment}
use Rattle.desk_words.specs.declared.office.OfficeLists.{OfficeLists}
use Rattle.desk_words.specs.declared.request.Call.{Call}
use Rattle.http_listener.specs.Turns.{AreTriedAt}
use Rattle.meeting_core.specs.Step.{run_of}
use Rattle.tcp_close.specs.declared.listener.Listener as listener
use Rattle.wall_clock.specs.Zones.{Zone}
use Rattle.host_run.specs.Commands.{ServesFile}
use Rattle.host_run.specs.Stored.{Stores, StoresSome}

-- the office after the run of the calls that were answered, or after one step more, of a call that
-- failed
abbrev pub IsAfterRun : OfficeLists → List OfficeEvent → OfficeLists → Type 0
IsAfterRun held asked office =
    (lost : Option Call) × MayBeLost lost asked
    × (office ≡ office_after (run_of held (calls_answered asked)).office lost)

module _ {O D K C : Type 0} (o : offices.Ghosts O D) (k : zones.Ghosts K C)
    (c : clock.Ghosts C) where
  -- the clock of the zone gave some moments, at most as many as requests were asked for; at each of
  -- these one call was tried on the office that was held, or none; and the file stores the office
  -- after that run
  pub record StoresRun (file : List ℕ) (requests : ℕ) (zone : Zone) (held : OfficeLists)
      (offices' : O) (clocks clocks' : K) : Type 0 where
    pub moments : List Moment
    pub bound : length moments ≤ requests
    pub gave : (moments ≡ [])
        ⊎ ((made till : C) × k.makes clocks zone made clocks'
        × GivesMoments c.gives made moments till)
    pub asked : List OfficeEvent
    pub at : AreTriedAt asked moments
    pub stores : StoresSome o offices' file (IsAfterRun held asked)

  -- of the office that a file stored, where the files are reliable afterwards: it was refused, and
  -- stores it still; or it was served
  abbrev pub ServesStored : List ℕ → ℕ → Zone → O → O → K → K → Ending → Type 0
  ServesStored file requests zone offices offices' clocks clocks' end =
      o.is_reliable offices' → (held : OfficeLists) → Stores o offices file held
      → (o.refuses offices file end offices' × Stores o offices' file held)
      ⊎ StoresRun file requests zone held offices' clocks clocks'

  -- so it is of every `serve` of `run`
  abbrev pub ServesAreStored : {P L R S W : Type 0} → office.Ghosts D → ports.Ghosts P L R S
      → listener.Ghosts L R S → source.Ghosts R → sink.Ghosts S → sink.Ghosts W → Type 0
  ServesAreStored {P} {W = W} d p l r s w =
      (file : List ℕ) (port requests : ℕ) (zone : Zone) (offices offices' : O) (ports ports' : P)
      (clocks clocks' : K) (output output' : W) (end : Ending)
      → ServesFile o d p l r s k c w file port requests zone offices offices' ports ports'
      clocks clocks' output output' end
      → ServesStored file requests zone offices offices' clocks clocks' end
