-- What a run of the program does.
use Rattle.std.specs.Prelude.{◌≡◌, ℕ, List, Result, Ok, Err}
use Rattle.host.specs.declared.offices.OfficeFiles as offices
use Rattle.host.specs.declared.files.Files as files
use Rattle.host.specs.declared.zone_clocks.ZoneClocks as zones
use Rattle.wall_clock.specs.declared.clock.Clock as clock
use Rattle.host.specs.declared.ports.Ports as ports
use Rattle.tcp_close.specs.declared.listener.Listener as listener
use Rattle.host.specs.declared.host.Host.{Host}
use Rattle.byte_io.specs.declared.source.Source as source
use Rattle.byte_io.specs.declared.sink.Sink as sink
use Rattle.any_office.specs.declared.Office as office
use Rattle.cli_args.specs.Words.{asked_by_words}
use Rattle.cli_exit.specs.Endings.{Ending, ended_by_words, ended_view}
use Rattle.cli_exit.specs.declared.ended.Ended.{Ended}
use Rattle.cli_args.specs.Plans.{PlanAgrees, plan_view}
use Rattle.cli_args.specs.declared.plan.Plan.{Plan}
use Rattle.cli_args.specs.declared.plan.Plan.TheVariants as plan
use Rattle.cli_exit.specs.declared.words.WordsFault.{WordsFault}
use Rattle.host_run.specs.Commands.{LoadsFile, PrintsResults, Replays, ServesFile}
use Rattle.host_run.specs.Reporting.{Reports}
use Rattle.host_run.specs.declared.loading.Load.TheVariants as load

module _ {O D F R K C I W E P L N M : Type 0} (o : offices.Ghosts O D) (d : office.Ghosts D)
    (f : files.Ghosts F R) (r : source.Ghosts R) (k : zones.Ghosts K C)
    (c : clock.Ghosts C) (i : source.Ghosts I)
    (w : sink.Ghosts W) (e : sink.Ghosts E) (p : ports.Ghosts P L N M)
    (l : listener.Ghosts L N M) (n : source.Ghosts N) (m : sink.Ghosts M) where
  -- what the program does for a plan, and that it touches nothing else of the host
  abbrev pub Does : Plan → Host O F K I W E P → Host O F K I W E P → Ending → Type 0
  Does (plan.Init file) before after end =
      o.creates before.offices file.now end after.offices
      × (after ≡ record before { offices = after.offices })
  Does (plan.Keys file csv zone) before after end =
      LoadsFile o d k c f r load.Keys file.now csv.now zone
      before.offices after.offices before.clocks after.clocks before.files after.files end
      × (after ≡ record before {
        offices = after.offices;
        clocks = after.clocks;
        files = after.files;
      })
  Does (plan.Days file txt zone) before after end =
      LoadsFile o d k c f r load.Days file.now txt.now zone
      before.offices after.offices before.clocks after.clocks before.files after.files end
      × (after ≡ record before {
        offices = after.offices;
        clocks = after.clocks;
        files = after.files;
      })
  Does (plan.Register file meeting record_moment csv zone) before after end =
      LoadsFile o d k c f r (load.Register meeting record_moment) file.now csv.now zone
      before.offices after.offices before.clocks after.clocks before.files after.files end
      × (after ≡ record before {
        offices = after.offices;
        clocks = after.clocks;
        files = after.files;
      })
  Does (plan.Serve file port requests zone) before after end =
      ServesFile o d p l n m k c w file.now port requests zone
      before.offices after.offices before.ports after.ports before.clocks after.clocks
      before.output after.output end
      × (after ≡ record before {
        offices = after.offices;
        ports = after.ports;
        clocks = after.clocks;
        output = after.output;
      })
  Does (plan.Results file meeting) before after end =
      PrintsResults o d w file.now meeting
      before.offices after.offices before.output after.output end
      × (after ≡ record before { offices = after.offices; output = after.output })
  Does plan.Replay before after end =
      Replays i w before.input after.input before.output after.output end
      × (after ≡ record before { input = after.input; output = after.output })

  -- what it does for words: what their plan asks, or nothing
  abbrev pub DoesRead : Result Plan WordsFault → Host O F K I W E P → Host O F K I W E P → Ending
      → Type 0
  DoesRead (Ok planned) before after end = Does planned before after end
  DoesRead (Err fault) before after end = (end ≡ ended_by_words fault) × (after ≡ before)

  -- the words were read, what they ask for was done, and the end of that was reported
  pub record Runs (words : List (List ℕ)) (before after : Host O F K I W E P) (status : ℕ)
      : Type 0 where
    pub read : Result Plan WordsFault
    pub is_read : PlanAgrees plan_view read (asked_by_words words)
    pub ended : Ended
    pub between : Host O F K I W E P
    pub did : DoesRead read before between (ended_view ended)
    pub reported : Reports w e ended between.output after.output between.errors after.errors status
    pub rest : after ≡ record between { output = after.output; errors = after.errors }
