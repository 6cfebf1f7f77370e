-- What a listener's answer to an `accept` comes to.
use Rattle.std.specs.Prelude.{Bool, true, false, Result, Ok, Err, if◌then◌else◌}
use Rattle.std.specs.IoError.{error_kind}
use Rattle.std.specs.declared.io.Error.{Error}
use Rattle.std.specs.declared.io.ErrorKind.{ErrorKind}
use Rattle.std.specs.declared.io.ErrorKind.TheVariants.{ConnectionAborted, ConnectionReset, Interrupted}
use Rattle.tcp_close.specs.declared.accepting.Accepted.{Accepted}
use Rattle.tcp_close.specs.declared.accepting.Accepted.TheVariants.{Peer, Gone}
use Rattle.tcp_close.specs.declared.accepting.SocketError.{SocketError}

-- one peer is gone, or the call was interrupted
abbrev pub is_of_a_peer : ErrorKind → Bool
is_of_a_peer ConnectionAborted = true
is_of_a_peer ConnectionReset = true
is_of_a_peer Interrupted = true
is_of_a_peer _ = false

-- a connection, a peer that is gone, or a listener that failed
abbrev pub answer_of : {C : Type 0} → Result C Error → Result (Accepted C) SocketError
answer_of (Ok connection) = Ok (Peer connection)
answer_of (Err error) = if is_of_a_peer (error_kind error) then Ok Gone else Err (record {})
