-- How the serving of an office ends.
use Rattle.std.specs.Prelude.{◌≡◌, ℕ, Result, Ok, Err}
use Rattle.any_office.specs.declared.Office as office
use Rattle.byte_io.specs.declared.sink.Sink as sink
use Rattle.byte_io.specs.declared.source.Source as source
use Rattle.wall_clock.specs.declared.clock.Clock as clock
use Rattle.cli_exit.specs.Endings.{Ending, success, ended_by}
use Rattle.cli_exit.specs.declared.ended.ExitError.TheVariants as fault
use Rattle.http_listener.specs.Connections.{ServesTurns, Standing}
use Rattle.http_listener.specs.declared.listening.LoopFault.{LoopFault}
use Rattle.http_listener.specs.declared.listening.LoopFault.TheVariants.{Clock, Socket}
use Rattle.tcp_close.specs.declared.listener.Listener as listener

-- the ending that is reported for the end of a loop over connections
abbrev pub ending_of : Result (Unit {0}) LoopFault → Ending
ending_of (Ok x) = success
ending_of (Err Socket) = ended_by fault.Socket
ending_of (Err Clock) = ended_by fault.Clock

-- connections of a listener were served one after another, so many, or fewer; and the end tells
-- which, and why
abbrev pub EndsServing : {L R W C O : Type 0} → listener.Ghosts L R W → source.Ghosts R
    → sink.Ghosts W → clock.Ghosts C → office.Ghosts O → ℕ → Standing L C O → Standing L C O
    → Ending → Type 0
EndsServing l r w k g requests before after end =
    (returned : Result (Unit {0}) LoopFault) × (end ≡ ending_of returned)
    × ServesTurns l r w k g requests returned before after
