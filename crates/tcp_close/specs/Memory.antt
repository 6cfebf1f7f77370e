-- What a listener over memory answers, and what it keeps.
use Rattle.std.specs.Prelude.{◌≡◌, ◌⊎◌, ℕ, List, [], ◌∷◌, ◌++◌, Result, Ok, IfErr, IsErr}
use Rattle.std.specs.IoError.{error_kind}
use Rattle.std.specs.declared.io.Error.{Error}
use Rattle.std.specs.declared.io.ErrorKind.TheVariants.{Other}
use Rattle.byte_io.specs.Counts.{one_more}
use Rattle.byte_io.specs.Memory.{SourceState, Stored}
use Rattle.tcp_close.specs.declared.connection.Connection.{Connection}
use Rattle.tcp_close.specs.declared.memory.Peer.{Peer}
use Rattle.tcp_close.specs.declared.memory.Peer.TheVariants.{Fails, Sends}

-- the peers that are still to come, what was sent to those whose connections were ended, and how
-- many of these could not be kept
pub record ListenerState : Type 0 where
  pub waiting : List Peer
  pub ended : List Stored
  pub lost : ℕ

-- a connection on which nothing was read and nothing was sent
abbrev pub connected : List ℕ → Connection SourceState Stored
connected bytes = record {
  reader = record { bytes = bytes; passed = 0 };
  writer = record { bytes = []; failures = 0 };
}

-- there is a connection to a peer, or none for its cause
abbrev pub Connects : Peer → Result (Connection SourceState Stored) Error → Type 0
Connects (Sends bytes) result = result ≡ Ok (connected bytes.now)
Connects (Fails kind) result = IfErr result (λ why. error_kind why ≡ kind) × IsErr result

-- the next peer is asked for a connection; or no peer is left, and the listener failed
abbrev pub AcceptsNext : ListenerState → Result (Connection SourceState Stored) Error
    → ListenerState → Type 0
AcceptsNext old result new =
    (((peer : Peer) × (old.waiting ≡ peer ∷ new.waiting) × Connects peer result)
    ⊎ ((old.waiting ≡ []) × (new.waiting ≡ []) × Connects (Fails Other) result))
    × (new.ended ≡ old.ended) × (new.lost ≡ old.lost)

-- what was sent on a connection is kept behind that of those before it, or memory is wanting and
-- it is lost
abbrev pub KeepsEnded : ListenerState → Connection SourceState Stored → ListenerState → Type 0
KeepsEnded old connection new =
    (new.waiting ≡ old.waiting)
    × (((new.ended ≡ old.ended ++ (connection.writer ∷ [])) × (new.lost ≡ old.lost))
    ⊎ ((new.ended ≡ old.ended) × (new.lost ≡ one_more old.lost)))
