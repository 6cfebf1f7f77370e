-- What a listener answers that is asked for a connection.
use Rattle.std.specs.Prelude.{not, IsTrue, Result, Ok, Err}
use Rattle.std.specs.IoError.{error_kind}
use Rattle.std.specs.declared.io.Error.{Error}
use Rattle.tcp_close.specs.Accepting.{is_of_a_peer}
use Rattle.tcp_close.specs.declared.accepting.Accepted.{Accepted}
use Rattle.tcp_close.specs.declared.accepting.Accepted.TheVariants.{Peer, Gone}
use Rattle.tcp_close.specs.declared.accepting.SocketError.{SocketError}
use Rattle.tcp_close.specs.declared.connection.Connection.{Connection}
use Rattle.tcp_close.specs.declared.listener.Listener as listener

module _ {L R W : Type 0} (g : listener.Ghosts L R W) where
  -- a listener gave this connection
  abbrev pub Takes : L → Connection R W → L → Type 0
  Takes old connection new = g.accepts old (Ok connection) new

  -- a peer was gone before its connection was taken
  abbrev pub LosesAPeer : L → L → Type 0
  LosesAPeer old new =
      (why : Error) × g.accepts old (Err why) new × IsTrue (is_of_a_peer (error_kind why))

  -- a listener failed, and not by one peer that is gone
  abbrev pub Fails : L → L → Type 0
  Fails old new =
      (why : Error) × g.accepts old (Err why) new × IsTrue (not (is_of_a_peer (error_kind why)))

  -- a listener was asked once
  abbrev pub Answers : L → Result (Accepted (Connection R W)) SocketError → L → Type 0
  Answers old (Ok (Peer connection)) new = Takes old connection new
  Answers old (Ok Gone) new = LosesAPeer old new
  Answers old (Err error) new = Fails old new
