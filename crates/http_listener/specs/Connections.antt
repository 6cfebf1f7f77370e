-- What serving one connection of a listener after another comes to.
use Rattle.std.specs.Prelude.{◌≡◌, ℕ, ◌<◌, List, [], ◌∷◌, length, Result, Ok, Err}
use Rattle.any_office.specs.declared.Office as office
use Rattle.byte_io.specs.declared.sink.Sink as sink
use Rattle.byte_io.specs.declared.source.Source as source
use Rattle.wall_clock.specs.declared.clock.Clock as clock
use Rattle.desk_http.specs.Served.{ServesRequest}
use Rattle.desk_http.specs.declared.now.NowError.{NowError}
use Rattle.desk_http.specs.declared.now.NowError.TheVariants.{Clock}
use Rattle.http_listener.specs.declared.listening.LoopFault.{LoopFault}
use Rattle.http_listener.specs.declared.listening.LoopFault.TheVariants.{Socket}
use Rattle.http_listener.specs.declared.listening.LoopFault.TheVariants as fault
use Rattle.tcp_close.specs.Answering.{Fails, LosesAPeer, Takes}
use Rattle.tcp_close.specs.declared.connection.Connection.{Connection}
use Rattle.tcp_close.specs.declared.listener.Listener as listener

-- how a listener, a clock and an office stand
pub record Standing (L C O : Type 0) : Type 0 where
  pub listener : L
  pub clock : C
  pub office : O

abbrev pub standing : {L C O : Type 0} → L → C → O → Standing L C O
standing listener clock office = record { listener = listener; clock = clock; office = office }

-- one turn: a connection, as it was taken and as it was ended; or a peer that was gone
pub data Turn (R W : Type 0) : Type 0 where
  Served : Connection R W → Connection R W → Turn R W
  Gone : Turn R W

module _ {L R W C O : Type 0} (l : listener.Ghosts L R W) (r : source.Ghosts R) (w : sink.Ghosts W)
    (k : clock.Ghosts C) (g : office.Ghosts O) where
  -- the one request of a connection is served: it is read from its own source and answered on its
  -- own sink; then the connection is ended, as it is then
  pub record ServesAndEnds (result : Result (Unit {0}) NowError) (taken ended : Connection R W)
      (before after : Standing L C O) : Type 0 where
    pub serves : ServesRequest g k r w result before.office after.office before.clock after.clock
        taken.reader ended.reader taken.writer ended.writer
    pub ends : l.ends before.listener ended after.listener

  -- the one request of a connection is served, and the connection is ended
  pub record ServesConnection (result : Result (Unit {0}) NowError) (taken : Connection R W)
      (before after : Standing L C O) : Type 0 where
    pub ended : Connection R W
    pub is : ServesAndEnds result taken ended before after

  -- the next connection is taken, served and ended
  pub record ServesNext (result : Result (Unit {0}) NowError) (taken ended : Connection R W)
      (before after : Standing L C O) : Type 0 where
    pub accepted : L
    pub takes : Takes l before.listener taken accepted
    pub served : ServesAndEnds result taken ended
        (standing accepted before.clock before.office) after

  -- the clock and the office are as they were
  pub record IsUnasked (before after : Standing L C O) : Type 0 where
    pub same_clock : after.clock ≡ before.clock
    pub same_office : after.office ≡ before.office

  -- a turn: the next connection is served, and the clock gave a moment where it was asked; or a
  -- peer was gone
  abbrev pub IsTurn : Turn R W → Standing L C O → Standing L C O → Type 0
  IsTurn (Served taken ended) before after =
      (result : Result (Unit {0}) NowError) × (result ≡ Err Clock → ⊥)
      × ServesNext result taken ended before after
  IsTurn Gone before after = LosesAPeer l before.listener after.listener × IsUnasked before after

  -- one turn after another
  abbrev pub LeadsBy : Standing L C O → List (Turn R W) → Standing L C O → Type 0
  LeadsBy before [] after = after ≡ before
  LeadsBy before (turn ∷ later) after =
      (between : Standing L C O) × IsTurn turn before between × LeadsBy between later after

  -- the listener is asked for a connection and fails, not by one peer that is gone; nothing else is
  -- asked
  abbrev pub HasNoListener : Standing L C O → Standing L C O → Type 0
  HasNoListener before after = Fails l before.listener after.listener × IsUnasked before after

  -- the request of the next connection is read, and the clock gives no moment for it; the
  -- connection is ended
  abbrev pub HasNoMoment : Standing L C O → Standing L C O → Type 0
  HasNoMoment before after =
      (taken ended : Connection R W) × ServesNext (Err Clock) taken ended before after

  -- after so many turns of so many that were asked for: all were made; or the listener failed, or
  -- the clock gave no moment, before they were
  abbrev pub EndsBy : ℕ → ℕ → Result (Unit {0}) LoopFault → Standing L C O → Standing L C O
      → Type 0
  EndsBy made count (Ok x) between after = (made ≡ count) × (after ≡ between)
  EndsBy made count (Err Socket) between after = (made < count) × HasNoListener between after
  EndsBy made count (Err fault.Clock) between after = (made < count) × HasNoMoment between after

  -- turns were made, one after another, and then this is returned: so many, or fewer where it is a
  -- fault
  pub record ServesTurns (count : ℕ) (result : Result (Unit {0}) LoopFault)
      (before after : Standing L C O) : Type 0 where
    pub turns : List (Turn R W)
    pub between : Standing L C O
    pub leads : LeadsBy before turns between
    pub ends : EndsBy (length turns) count result between after
