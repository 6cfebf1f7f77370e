-- One turn behind others.
use Rattle.std.proofs.Common.{◌≡◌, ℕ, ◌+◌, ◌<◌, List, [], ◌∷◌, ◌++◌, length, refl, subst, sym, ◌∙◌, arith, length-append}
use Rattle.std.specs.Prelude.{Result, Ok, Err}
use Rattle.any_office.specs.declared.Office as office
use Rattle.byte_io.specs.declared.sink.Sink as sink
use Rattle.byte_io.specs.declared.source.Source as source
use Rattle.wall_clock.specs.declared.clock.Clock as clock
use Rattle.desk_http.specs.Served.{ServesRequest}
use Rattle.desk_http.specs.declared.now.NowError.{NowError}
use Rattle.desk_http.specs.declared.now.NowError.TheVariants.{Clock}
use Rattle.http_listener.specs.Connections.{EndsBy, HasNoListener, HasNoMoment, IsTurn, LeadsBy, Served, ServesAndEnds, ServesConnection, ServesTurns, Standing, Turn, standing}
use Rattle.http_listener.specs.declared.listening.LoopFault.{LoopFault}
use Rattle.http_listener.specs.declared.listening.LoopFault.TheVariants.{Socket}
use Rattle.http_listener.specs.declared.listening.LoopFault.TheVariants as fault
use Rattle.tcp_close.specs.Answering.{Takes}
use Rattle.tcp_close.specs.declared.connection.Connection.{Connection}
use Rattle.tcp_close.specs.declared.listener.Listener as listener

module _ {L R W C O : Type 0} (l : listener.Ghosts L R W) (r : source.Ghosts R) (w : sink.Ghosts W) (k : clock.Ghosts C) (g : office.Ghosts O) where
  -- a turn behind others
  leads-then : (before between after : Standing L C O) (turns : List (Turn R W)) (turn : Turn R W) → LeadsBy l r w k g before turns between → IsTurn l r w k g turn between after → LeadsBy l r w k g before (turns ++ (turn ∷ [])) after
  leads-then before between after [] turn same is = (after, subst (λ (it : Standing L C O). IsTurn l r w k g turn it after) same is, refl)
  leads-then before between after (first ∷ later) turn leads is = (leads.0, leads.1, leads-then leads.0 between after later turn leads.2 is)

  -- so many turns were made
  pub record HasMade (count : ℕ) (before after : Standing L C O) : Type 0 where
    pub turns : List (Turn R W)
    pub counted : length turns ≡ count
    pub leads : LeadsBy l r w k g before turns after

  pub made-none : (before : Standing L C O) → HasMade 0 before before
  made-none before = record { turns = []; counted = refl; leads = refl }

  pub made-then : (count : ℕ) (before between after : Standing L C O) → HasMade count before between → (turn : Turn R W) × IsTurn l r w k g turn between after → HasMade (count + 1) before after
  made-then count before between after made turned = record {
    turns = made.turns ++ (turned.0 ∷ []);
    counted = simp length-append (omega (arith, made.counted));
    leads = leads-then before between after made.turns turned.0 made.leads turned.1;
  }

  -- all were made
  pub made-all : (count made : ℕ) (before after : Standing L C O) → HasMade made before after → made ≡ count → ServesTurns l r w k g count (Ok tt) before after
  made-all count made before after all same = record {
    turns = all.turns;
    between = after;
    leads = all.leads;
    ends = (all.counted ∙ same, refl);
  }

  -- fewer were made
  pub made-fewer : (count made : ℕ) (before between after : Standing L C O) → HasMade made before between → made < count → (result : Result (Unit {0}) LoopFault) (why : LoopFault) → result ≡ Err why
      → (why ≡ Socket → HasNoListener l r w k g between after) → (why ≡ fault.Clock → HasNoMoment l r w k g between after) → ServesTurns l r w k g count result before after
  made-fewer count made before between after fewer room result why is no_listener no_moment = record {
    turns = fewer.turns;
    between = between;
    leads = fewer.leads;
    ends = subst (λ (it : Result (Unit {0}) LoopFault). EndsBy l r w k g (length fewer.turns) count it between after) (sym is) (by why no_listener no_moment);
  }
    where
      by : (why : LoopFault) → (why ≡ Socket → HasNoListener l r w k g between after) → (why ≡ fault.Clock → HasNoMoment l r w k g between after) → EndsBy l r w k g (length fewer.turns) count (Err why) between after
      by Socket no_listener no_moment = (omega (arith, fewer.counted, room), no_listener refl)
      by fault.Clock no_listener no_moment = (omega (arith, fewer.counted, room), no_moment refl)

  -- a connection whose request was served, and which was ended as it was then
  pub serves_and_ends : (result : Result (Unit {0}) NowError) (taken ended : Connection R W) (before after : Standing L C O) → l.ends before.listener ended after.listener
      → ServesRequest g k r w result before.office after.office before.clock after.clock taken.reader ended.reader taken.writer ended.writer
      → ServesConnection l r w k g result taken before after
  serves_and_ends result taken ended before after ends serves = record { ended = ended; is = record { serves = serves; ends = ends } }

  -- what is served of a connection that was taken
  module _ (result : Result (Unit {0}) NowError) (taken : Connection R W) (before after : Standing L C O) (accepted : L)
      (takes : Takes l before.listener taken accepted) (serves : ServesConnection l r w k g result taken (standing accepted before.clock before.office) after) where
    pub timed_turn : (result ≡ Err Clock → ⊥) → (turn : Turn R W) × IsTurn l r w k g turn before after
    timed_turn timed = (Served taken serves.ended, (result, timed, record { accepted = accepted; takes = takes; served = serves.is }))

    pub untimed_turn : result ≡ Err Clock → HasNoMoment l r w k g before after
    untimed_turn untimed = (taken, serves.ended, record { accepted = accepted; takes = takes; served = subst (λ it. ServesAndEnds l r w k g it taken serves.ended (standing accepted before.clock before.office) after) untimed serves.is })
