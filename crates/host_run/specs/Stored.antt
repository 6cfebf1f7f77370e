-- What a run does to the office that a file stores.
use Rattle.std.specs.Prelude.{◌≡◌, ◌⊎◌, ℕ, List}
use Rattle.host.specs.declared.offices.OfficeFiles as offices
use Rattle.host.specs.declared.files.Files as files
use Rattle.host.specs.declared.zone_clocks.ZoneClocks as zones
use Rattle.byte_io.specs.declared.source.Source as source
use Rattle.byte_io.specs.declared.sink.Sink as sink
use Rattle.any_office.specs.declared.Office as office
use Rattle.wall_clock.specs.declared.clock.Clock as clock
use Rattle.cli_exit.specs.Endings.{Ending, ended_by}
use Rattle.cli_exit.specs.declared.ended.ExitError.TheVariants as fault
use Rattle.desk_words.specs.Changes.{empty_office}
use Rattle.desk_words.specs.ViewTypes.{MeetingName}
use Rattle.desk_words.specs.declared.office.OfficeLists.{OfficeLists}
use Rattle.wall_clock.specs.Zones.{Zone}
use Rattle.host_run.specs.Commands.{LoadsFile, LoadsKind, PrintsResults, reader_of}
use Rattle.host_run.specs.Opening.{OnFile, AtMoment}
use Rattle.host_run.specs.declared.loading.Load.{Load}

module _ {O D : Type 0} (o : offices.Ghosts O D) where
  -- the file of that name stores an office of which this holds: as such a one all is opened that it
  -- may hold, also after a crash
  abbrev pub StoresSome : O → List ℕ → (OfficeLists → Type 0) → Type 0
  StoresSome files name Is =
      (left : o.Left) → o.may_hold files name left
      → (office : OfficeLists) × o.opens_as left office × Is office

  -- the file of that name stores this office
  abbrev pub Stores : O → List ℕ → OfficeLists → Type 0
  Stores files name office = (left : o.Left) → o.may_hold files name left → o.opens_as left office

  -- the file of that name stores one of these two offices
  abbrev pub StoresEither : O → List ℕ → OfficeLists → OfficeLists → Type 0
  StoresEither files name office next =
      (left : o.Left) → o.may_hold files name left → o.opens_as left office ⊎ o.opens_as left next

  -- a file in which a new office was made stores the office that holds nothing
  abbrev pub CreatesStored : Type 0
  CreatesStored =
      (before after : O) (file : List ℕ) (end : Ending) → o.creates before file end after
      → o.is_reliable after → end.status ≡ 0 → Stores after file empty_office

  -- where results are printed of a file, it stores the office that it stored
  abbrev pub ResultsKeepStored : {W : Type 0} → office.Ghosts D → sink.Ghosts W → Type 0
  ResultsKeepStored {W} d w =
      (file : List ℕ) (meeting : MeetingName) (before after : O) (output output' : W) (end : Ending)
      → PrintsResults o d w file meeting before after output output' end
      → o.is_reliable after → (held : OfficeLists) → Stores before file held
      → Stores after file held

module _ {O D K C F R : Type 0} (o : offices.Ghosts O D) (d : office.Ghosts D)
    (k : zones.Ghosts K C) (c : clock.Ghosts C) (f : files.Ghosts F R) (r : source.Ghosts R) where
  -- a file was loaded at the moment of the clock, and then another file stores the office after
  -- that, or, where the store failed, that office or the one before; or the file that is loaded, or
  -- the moment, was not had, and it stores what it stored
  abbrev pub ChangesStored : Load → List ℕ → List ℕ → Zone → OfficeLists → O → K → K → F → F
      → Ending → Type 0
  ChangesStored kind file name zone held offices' clocks clocks' before after end =
      AtMoment k c zone clocks clocks'
      ((end ≡ ended_by fault.Clock) × (after ≡ before) × Stores o offices' file held)
      (λ now. OnFile f name before after
      ((end ≡ ended_by fault.ReadFault) × Stores o offices' file held)
      (λ opened read. LoadsKind kind (reader_of r opened) (reader_of r read) held now end
      (Stores o offices' file) (StoresEither o offices' file held)))

  -- of the office that a file stored, where the files are reliable afterwards: it was refused, and
  -- stores it still; or a file was loaded into it
  abbrev pub LoadsStored : Load → List ℕ → List ℕ → Zone → O → O → K → K → F → F → Ending → Type 0
  LoadsStored kind file name zone offices offices' clocks clocks' before after end =
      o.is_reliable offices' → (held : OfficeLists) → Stores o offices file held
      → (o.refuses offices file end offices' × Stores o offices' file held)
      ⊎ ChangesStored kind file name zone held offices' clocks clocks' before after end

  -- so it is of every load that `run` makes
  abbrev pub LoadsAreStored : Type 0
  LoadsAreStored =
      (kind : Load) (file name : List ℕ) (zone : Zone) (offices offices' : O) (clocks clocks' : K)
      (before after : F) (end : Ending)
      → LoadsFile o d k c f r kind file name zone offices offices' clocks clocks' before after end
      → LoadsStored kind file name zone offices offices' clocks clocks' before after end
