-- What each command does.
use Rattle.std.specs.Prelude.{◌≡◌, ◌≢◌, ◌⊎◌, ℕ, ◌-◌, ◌+◌, ◌≤◌, List, Result, OnOk, IfErr}
use Rattle.std.specs.Io.KnownBytes.{IsAtEnd}
use Rattle.host.specs.declared.offices.OfficeFiles as offices
use Rattle.host.specs.declared.files.Files as files
use Rattle.host.specs.declared.ports.Ports as ports
use Rattle.host.specs.declared.zone_clocks.ZoneClocks as zones
use Rattle.wall_clock.specs.declared.clock.Clock as clock
use Rattle.wall_clock.specs.Zones.{Zone}
use Rattle.byte_io.specs.declared.source.Source as source
use Rattle.byte_io.specs.declared.sink.Sink as sink
use Rattle.any_office.specs.declared.Office as office
use Rattle.any_office.specs.StoredOffice.{HoldsOfOffice, IsKnownIfOpen, LeavesAtMost}
use Rattle.any_office.specs.Storing.{HoldsOfStored, IsStored, IsStoredOrNext}
use Rattle.cli_exit.specs.Endings.{Ending, ended_by}
use Rattle.cli_exit.specs.declared.ended.ExitError.TheVariants as fault
use Rattle.cli_commands.specs.Serving.{EndsServing}
use Rattle.http_listener.specs.Connections.{standing}
use Rattle.tcp_close.specs.declared.listener.Listener as listener
use Rattle.desk_papers.specs.ResultPrinting.{Prints, Writer}
use Rattle.cli_commands.specs.FileReading.{Reader, with_days, with_keys, with_register}
use Rattle.cli_commands.specs.LoadCommands.{Loads}
use Rattle.cli_commands.specs.ReplayCommand.{AllIfKnown, UntilIfKnown, ended_replaying, failures_of}
use Rattle.csv_import.specs.DayFiles.{day_file}
use Rattle.csv_import.specs.KeyFiles.{key_file}
use Rattle.csv_import.specs.RegisterFiles.{register_file}
use Rattle.csv_import.specs.declared.whole.TheConstants.{DAY_FILE_LIMIT, FILE_LIMIT}
use Rattle.desk_words.specs.ViewTypes.{MeetingName, Moment}
use Rattle.desk_words.specs.declared.office.OfficeLists.{OfficeLists}
use Rattle.line_reader.specs.NextLine.{longest_input}
use Rattle.party_views.specs.Views.{public_of}
use Rattle.replay.specs.ReplaySteps.{HasEndedFor}
use Rattle.replay.specs.declared.script.ReplayFault.{ReplayFault}
use Rattle.host_run.specs.Reporting.{Says, SaysPart, listening}
use Rattle.host_run.specs.Opening.{OnDesk, OnFile, OnPort, AtMoment}
use Rattle.host_run.specs.declared.loading.Load.{Load}
use Rattle.host_run.specs.declared.loading.Load.TheVariants as load

-- how a reader and a writer stand
abbrev pub reader_of : {R : Type 0} → source.Ghosts R → R → Reader
reader_of g r = record { rest = g.remaining r; passed = g.passed r; failures = g.failures r }

abbrev pub writer_of : {W : Type 0} → sink.Ghosts W → W → Writer
writer_of g w = record { contents = g.contents w; failures = g.failures w }

-- what the bytes of a reader spell was loaded, as the kind of file asks
abbrev pub LoadsKind : Load → Reader → Reader → OfficeLists → Moment → Ending
    → (OfficeLists → Type 0) → (OfficeLists → Type 0) → Type 0
LoadsKind load.Keys before after held now end Stands Unsure =
    Loads key_file with_keys FILE_LIMIT before after held now end Stands Unsure
LoadsKind load.Days before after held now end Stands Unsure =
    Loads day_file with_days DAY_FILE_LIMIT before after held now end Stands Unsure
LoadsKind (load.Register meeting record_moment) before after held now end Stands Unsure =
    Loads register_file (with_register meeting record_moment) FILE_LIMIT before after held now end
    Stands Unsure

-- a reader's bytes were loaded into a desk at this moment; where that did not end well, a desk that
-- is open is as it was
pub record LoadsInto {D R : Type 0} (d : office.Ghosts D) (r : source.Ghosts R) (kind : Load)
    (desk desk' : D) (end : Ending) (now : Moment) (opened read : R) : Type 0 where
  pub trust : d.is_reliable desk' → d.is_reliable desk
  pub loads : HoldsOfOffice d.is_reliable d.stands desk desk' (λ held.
      LoadsKind kind (reader_of r opened) (reader_of r read) held now end
      (d.stands desk') (λ _. d.is_open desk' → d.stands desk' held))
  pub stores : HoldsOfStored d desk desk' (λ held.
      LoadsKind kind (reader_of r opened) (reader_of r read) held now end
      (IsStored d desk') (IsStoredOrNext d desk' held))
  pub same : HoldsOfOffice d.is_reliable d.stands desk desk'
      (λ held. d.is_open desk' → end.status ≢ 0 → d.stands desk' held)

-- the file of that name was opened, and loaded
abbrev pub LoadsAt : {F D R : Type 0} → files.Ghosts F R → office.Ghosts D → source.Ghosts R
    → Load → List ℕ → F → F → D → D → Ending → Moment → Type 0
LoadsAt f d r kind name before after desk desk' end now =
    OnFile f name before after
    ((end ≡ ended_by fault.ReadFault) × (desk' ≡ desk))
    (LoadsInto d r kind desk desk' end now)

-- the clock was asked for the moment, then the file was opened, and loaded
abbrev pub LoadsNow : {K C F D R : Type 0} → zones.Ghosts K C → clock.Ghosts C → files.Ghosts F R
    → office.Ghosts D → source.Ghosts R
    → Load → List ℕ → Zone → K → K → F → F → D → D → Ending → Type 0
LoadsNow k c f d r kind name zone clocks clocks' before after desk desk' end =
    AtMoment k c zone clocks clocks'
    ((end ≡ ended_by fault.Clock) × (after ≡ before) × (desk' ≡ desk))
    (LoadsAt f d r kind name before after desk desk' end)

-- a file is loaded into the desk in another: first the desk is opened, then the clock is asked,
-- then the file is opened
abbrev pub LoadsFile : {O D K C F R : Type 0} → offices.Ghosts O D → office.Ghosts D
    → zones.Ghosts K C → clock.Ghosts C → files.Ghosts F R → source.Ghosts R
    → Load → List ℕ → List ℕ → Zone → O → O → K → K → F → F → Ending → Type 0
LoadsFile o d k c f r kind file name zone offices offices' clocks clocks' before after end =
    OnDesk o file offices offices' end
    ((clocks' ≡ clocks) × (after ≡ before))
    (λ desk desk'. LoadsNow k c f d r kind name zone clocks clocks' before after desk desk' end)

-- the results of a meeting were printed, as the public record shows them; the office stays as it
-- was, and a crash leaves what it left before
pub record PrintsRecord {D W : Type 0} (d : office.Ghosts D) (w : sink.Ghosts W)
    (meeting : MeetingName) (desk desk' : D) (output output' : W) (end : Ending) : Type 0 where
  pub trust : d.is_reliable desk' → d.is_reliable desk
  pub prints : HoldsOfOffice d.is_reliable d.stands desk desk'
      (λ held. Prints (public_of held meeting) (writer_of w output) (writer_of w output') end)
  pub same : HoldsOfOffice d.is_reliable d.stands desk desk'
      (λ held. d.is_open desk' → d.stands desk' held)
  pub crash : d.is_reliable desk' → IsKnownIfOpen d.is_open d.stands desk
      → LeavesAtMost d.may_leave desk desk' (λ _. ⊥)

-- the results of a meeting are printed, of the desk in a file
abbrev pub PrintsResults : {O D W : Type 0} → offices.Ghosts O D → office.Ghosts D → sink.Ghosts W
    → List ℕ → MeetingName → O → O → W → W → Ending → Type 0
PrintsResults o d w file meeting offices offices' output output' end =
    OnDesk o file offices offices' end
    (output' ≡ output)
    (λ desk desk'. PrintsRecord d w meeting desk desk' output output' end)

-- `listening` was said, and connections of what is bound were served by the clock of a zone; or it
-- could not be said
abbrev pub ServesOn : {D L R S K C W : Type 0} → office.Ghosts D → listener.Ghosts L R S
    → source.Ghosts R → sink.Ghosts S → zones.Ghosts K C → clock.Ghosts C → sink.Ghosts W
    → ℕ → Zone → L → K → K → W → W → D → D → Ending → Type 0
ServesOn {L = L} {C = C} d l r s k c w requests zone bound clocks clocks' output output' desk desk'
    end =
    (Says w listening output output' × ((served : L) × (made asked : C)
    × k.makes clocks zone made clocks'
    × EndsServing l r s c d requests (standing bound made desk) (standing served asked desk') end))
    ⊎ (SaysPart w listening output output'
    × (end ≡ ended_by fault.WriteFault) × (clocks' ≡ clocks) × (desk' ≡ desk))

-- the port is bound, and the desk is served on it
abbrev pub ServesAt : {D P L R S K C W : Type 0} → office.Ghosts D → ports.Ghosts P L R S
    → listener.Ghosts L R S → source.Ghosts R → sink.Ghosts S
    → zones.Ghosts K C → clock.Ghosts C → sink.Ghosts W → ℕ → ℕ → Zone
    → P → P → K → K → W → W → D → D → Ending → Type 0
ServesAt d p l r s k c w port requests zone ports ports' clocks clocks' output output' desk desk'
    end =
    OnPort p port ports ports'
    ((end ≡ ended_by fault.Socket) × (clocks' ≡ clocks) × (output' ≡ output) × (desk' ≡ desk))
    (λ bound. ServesOn d l r s k c w requests zone bound clocks clocks' output output' desk desk'
    end)

-- the desk in a file is served on a port: first it is opened, then the port is bound
abbrev pub ServesFile : {O D P L R S K C W : Type 0} → offices.Ghosts O D → office.Ghosts D
    → ports.Ghosts P L R S → listener.Ghosts L R S → source.Ghosts R → sink.Ghosts S
    → zones.Ghosts K C → clock.Ghosts C → sink.Ghosts W
    → List ℕ → ℕ → ℕ → Zone → O → O → P → P → K → K → W → W → Ending → Type 0
ServesFile o d p l r s k c w file port requests zone offices offices' ports ports' clocks clocks'
    output output' end =
    OnDesk o file offices offices' end
    ((ports' ≡ ports) × (clocks' ≡ clocks) × (output' ≡ output))
    (λ desk desk'. ServesAt d p l r s k c w port requests zone ports ports' clocks clocks'
    output output' desk desk' end)

-- the lines of standard input are answered on standard output, as far as the devices go
pub record Replays {I W : Type 0} (i : source.Ghosts I) (w : sink.Ghosts W)
    (input input' : I) (output output' : W) (end : Ending) : Type 0 where
  pub outcome : Result (Unit {0}) ReplayFault
  pub ended : end ≡ ended_replaying outcome
  pub all : OnOk outcome
      (AllIfKnown (i.remaining input) (w.contents output) (w.contents output'))
  pub until : IfErr outcome (λ fault. UntilIfKnown fault (i.remaining input)
      (i.passed input' - i.passed input) (w.contents output) (w.contents output'))
  pub works : OnOk outcome
      ((i.failures input' ≡ i.failures input) × (w.failures output' ≡ w.failures output))
  pub failed : IfErr outcome (λ fault. HasEndedFor fault (i.passed input' - i.passed input)
      (failures_of i w input output) (failures_of i w input' output'))
  pub at_end : OnOk outcome (IsAtEnd (i.remaining input'))
  pub within : OnOk outcome (i.passed input' - i.passed input ≤ longest_input)
  pub bound : i.passed input' - i.passed input ≤ longest_input + 1
