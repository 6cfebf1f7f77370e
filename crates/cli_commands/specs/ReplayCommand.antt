-- How a replay ends the program.
use Rattle.std.specs.Prelude.{ℕ, List, Option, Result, Ok, Err, IfSome}
use Rattle.byte_io.specs.declared.sink.Sink as sink
use Rattle.byte_io.specs.declared.source.Source as source
use Rattle.line_reader.specs.Lines.{lines_of}
use Rattle.cli_exit.specs.Endings.{Ending, success, ended_by}
use Rattle.cli_exit.specs.declared.ended.ExitError.TheVariants as fault
use Rattle.replay.specs.ReplaySteps.{Failures}
use Rattle.replay.specs.Transcript.{AreAnswered, IsReplayedUntil}
use Rattle.replay.specs.declared.script.ReplayFault.{ReplayFault}
use Rattle.replay.specs.declared.script.ReplayFault.TheVariants.{Read, Write}

-- well, or by the device that failed
abbrev pub ended_replaying : Result (Unit {0}) ReplayFault → Ending
ended_replaying (Ok all) = success
ended_replaying (Err Read) = ended_by fault.ReadFault
ended_replaying (Err Write) = ended_by fault.WriteFault

-- where it is known what was unread, all its lines were answered
abbrev pub AllIfKnown : Option (List ℕ) → Option (List ℕ) → Option (List ℕ) → Type 0
AllIfKnown unread old new = IfSome unread (λ input. AreAnswered (lines_of input) old new)

-- where it is known what was unread, this was written before the fault
abbrev pub UntilIfKnown : ReplayFault → Option (List ℕ) → ℕ → Option (List ℕ) → Option (List ℕ)
    → Type 0
UntilIfKnown fault unread given old new =
    IfSome unread (λ input. IsReplayedUntil fault input given old new)

-- how often these devices have failed
abbrev pub failures_of : {R W : Type 0} → source.Ghosts R → sink.Ghosts W → R → W → Failures
failures_of g h reader writer = record {
  of_reader = g.failures reader;
  of_writer = h.failures writer;
}
