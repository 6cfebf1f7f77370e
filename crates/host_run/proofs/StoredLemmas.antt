-- From the office that is open to the one that its file stores.
use Rattle.std.proofs.Common.{◌≡◌, ◌⊎◌, inl, inr, ℕ, List, [], None, Result, Ok, Err, refl, subst, sym, arith}
use Rattle.host.specs.declared.offices.OfficeFiles as offices
use Rattle.host.specs.declared.files.Files as files
use Rattle.host.specs.declared.ports.Ports as ports
use Rattle.host.specs.declared.zone_clocks.ZoneClocks as zones
use Rattle.byte_io.specs.declared.source.Source as source
use Rattle.byte_io.specs.declared.sink.Sink as sink
use Rattle.any_office.specs.CrashedOffice.{CrashesLeaveARun, calls_answered}
use Rattle.any_office.specs.StoredOffice.{LeavesOnly, office_after}
use Rattle.any_office.specs.Storing.{IsStored, IsStoredOrNext}
use Rattle.any_office.specs.declared.Office as office
use Rattle.wall_clock.specs.declared.clock.Clock as clock
use Rattle.cli_exit.specs.Endings.{Ending, ended_by}
use Rattle.cli_exit.specs.declared.ended.ExitError.TheVariants as fault
use Rattle.cli_commands.specs.FileReading.{Reader}
use Rattle.cli_commands.specs.LoadCommands.{AnswersCall, AnswersFile, Loads, by_office}
use Rattle.csv_import.specs.declared.fault.FileError.{FileError}
use Rattle.desk_words.specs.ViewTypes.{Moment}
use Rattle.desk_words.specs.declared.office.OfficeLists.{OfficeLists}
use Rattle.desk_words.specs.declared.request.Call.{Call}
use Rattle.desk_words.specs.declared.request.Request.{Request}
use Rattle.http_listener.specs.Connections.{ServesTurns, standing}
use Rattle.http_listener.specs.Turns.{LoopsAreRuns, RanAt}
use Rattle.http_listener.specs.declared.listening.LoopFault.{LoopFault}
use Rattle.http_listener.specs.declared.listening.LoopFault.TheVariants as loop
use Rattle.meeting_core.specs.Step.{run_of}
use Rattle.tcp_close.specs.declared.listener.Listener as listener
use Rattle.wall_clock.specs.Zones.{Zone}
use Rattle.host_run.specs.Commands.{LoadsAt, LoadsKind, ServesAt, ServesOn, reader_of}
use Rattle.host_run.specs.Opening.{OnFile}
use Rattle.host_run.specs.ServedStored.{IsAfterRun, ServesAreStored, StoresRun}
use Rattle.host_run.specs.Stored.{ChangesStored, LoadsAreStored, ResultsKeepStored, Stores, StoresEither, StoresSome}
use Rattle.host_run.specs.declared.loading.Load.{Load}
use Rattle.host_run.specs.declared.loading.Load.TheVariants as load

-- what is said of an office that is open holds of one that is stored, where that follows
module _ (Open Unsure Stored Either : OfficeLists → Type 0) (keeps : (office : OfficeLists) → Open office → Stored office)
    (unsure : (next : OfficeLists) → Unsure next → Either next) (held : OfficeLists) (now : Moment) (end : Ending) where
  call : (asked : Call) → AnswersCall held asked end Open Unsure → AnswersCall held asked end Stored Either
  call asked (inl (ended, stands)) = inl (ended, keeps _ stands)
  call asked (inr (failed, either)) = inr (failed, unsure _ either)

  file : (asked : Result Request FileError) → AnswersFile held now asked end Open Unsure → AnswersFile held now asked end Stored Either
  file (Err fault) (ended, stands) = (ended, keeps held stands)
  file (Ok request) answers = call (by_office now request) answers

  loads : {X : Type 0} (spelled_by : List ℕ → Result X FileError) (asking : X → Request) (limit : ℕ)
      (before after : Reader) → Loads spelled_by asking limit before after held now end Open Unsure
      → Loads spelled_by asking limit before after held now end Stored Either
  loads spelled_by asking limit before after (inl asked) =
      inl (record { bytes = asked.bytes; came = asked.came; whole = asked.whole; follows = file _ asked.follows })
  loads spelled_by asking limit before after (inr unread) =
      inr (record { why = unread.why; of_reading = unread.of_reading; cause = unread.cause; ended = unread.ended; stands = keeps held unread.stands })

  pub kind : (it : Load) (before after : Reader) → LoadsKind it before after held now end Open Unsure
      → LoadsKind it before after held now end Stored Either
  kind load.Keys before after it = loads _ _ _ before after it
  kind load.Days before after it = loads _ _ _ before after it
  kind (load.Register meeting record_moment) before after it = loads _ _ _ before after it

module _ {O D : Type 0} (o : offices.Ghosts O D) (d : office.Ghosts D)
    (opens_stored : (old new : O) (name : List ℕ) (file : D) (office : OfficeLists) → o.opens old name file new
    → d.is_reliable file → ((left : o.Left) → o.may_hold old name left → o.opens_as left office) → IsStored d file office)
    (refuses_held : (old new : O) (name : List ℕ) (end : Ending) (left : o.Left)
    → o.refuses old name end new → o.is_reliable new → o.may_hold new name left
    → (was : o.Left) × o.may_hold old name was × ((office : OfficeLists) → o.opens_as was office → o.opens_as left office))
    (closes_held : (old new : O) (name : List ℕ) (file : D) (left : o.Left)
    → o.closes old name file new → o.is_reliable new → o.may_hold new name left
    → (preserved : d.Left) × d.may_leave file preserved × ((office : OfficeLists) → d.opens_as preserved office → o.opens_as left office))
    (closes_reliable : (old new : O) (name : List ℕ) (file : D) → o.closes old name file new → o.is_reliable new → d.is_reliable file) where
  -- one that is refused stores what it stored
  refused : (old new : O) (name : List ℕ) (end : Ending) (held : OfficeLists) → o.refuses old name end new → o.is_reliable new → Stores o old name held → Stores o new name held
  refused old new name end held refuses reliable stores left may =
      let it = refuses_held old new name end left refuses reliable may in
      it.2 held (stores it.0 it.1)

  module _ (file : List ℕ) (offices between offices' : O) (opened closed : D)
      (opens : o.opens offices file opened between) (closes : o.closes between file closed offices')
      (reliable : o.is_reliable offices') (held : OfficeLists) (stores : Stores o offices file held) where
    well : d.is_reliable closed
    well = closes_reliable between offices' file closed closes reliable

    -- the desk as it was opened
    shown : (d.is_reliable closed → d.is_reliable opened) → IsStored d opened held
    shown trust = opens_stored offices between file opened held opens (trust well) stores

    keeps : (office : OfficeLists) → LeavesOnly d.may_leave d.opens_as closed office → Stores o offices' file office
    keeps office leaves left may =
        let it = closes_held between offices' file closed left closes reliable may in
        it.2 office (leaves it.0 it.1)

    -- what is known of what a crash leaves of it
    leaves_some : (Is : OfficeLists → Type 0) → ((left : d.Left) → d.may_leave closed left → (office : OfficeLists) × d.opens_as left office × Is office) → StoresSome o offices' file Is
    leaves_some Is leaves left may =
        let it = closes_held between offices' file closed left closes reliable may in
        let found = leaves it.0 it.1 in
        (found.0, it.2 found.0 found.1, found.2)

    unsure : (next : OfficeLists) → IsStoredOrNext d closed held next → StoresEither o offices' file held next
    unsure next either left may =
        let it = closes_held between offices' file closed left closes reliable may in
        elim (either.1 it.0 it.1) [ inl is ↦ inl (it.2 held is) | inr is ↦ inr (it.2 next is) ]

    -- one that was closed as it was opened
    unchanged : closed ≡ opened → Stores o offices' file held
    unchanged same =
        keeps held (subst (λ (x : D). LeavesOnly d.may_leave d.opens_as x held) (sym same) (shown (subst d.is_reliable same)).1)

  -- results are printed of it
  pub results_stored : {W : Type 0} (w : sink.Ghosts W) → ResultsKeepStored o d w
  results_stored w file meeting offices offices' output output' end (inl was) reliable held stores =
      refused offices offices' file end held was.0 reliable stores
  results_stored w file meeting offices offices' output output' end (inr (between, opened, closed, opens, prints, closes)) reliable held stores =
      let done = well file offices between offices' opened closed opens closes reliable held stores in
      let stored = shown file offices between offices' opened closed opens closes reliable held stores prints.trust in
      keeps file offices between offices' opened closed opens closes reliable held stores held
      (λ left may. elim (prints.crash done (λ is_open. (held, stored.0)) left may) [ inl was ↦ stored.1 left was | inr none ↦ absurd none ])

  module _ {K C F R : Type 0} (k : zones.Ghosts K C) (c : clock.Ghosts C) (f : files.Ghosts F R) (r : source.Ghosts R) where
    module _ (it : Load) (file name : List ℕ) (zone : Zone) (offices between offices' : O) (opened closed : D)
        (clocks clocks' : K) (before after : F) (end : Ending)
        (opens : o.opens offices file opened between) (closes : o.closes between file closed offices')
        (reliable : o.is_reliable offices') (held : OfficeLists) (stores : Stores o offices file held) where
      done : d.is_reliable closed
      done = well file offices between offices' opened closed opens closes reliable held stores

      same : closed ≡ opened → Stores o offices' file held
      same = unchanged file offices between offices' opened closed opens closes reliable held stores

      at_file : (now : Moment) → LoadsAt f d r it name before after opened closed end now
          → OnFile f name before after ((end ≡ ended_by fault.ReadFault) × Stores o offices' file held)
          (λ opened' read. LoadsKind it (reader_of r opened') (reader_of r read) held now end (Stores o offices' file) (StoresEither o offices' file held))
      at_file now (inl refused) = inl (refused.0, (refused.1.0, same refused.1.1))
      at_file now (inr read) =
          inr (
            read.0,
            read.1,
            read.2,
            kind (IsStored d closed) (IsStoredOrNext d closed held) (Stores o offices' file) (StoresEither o offices' file held)
                (λ office stored. keeps file offices between offices' opened closed opens closes reliable held stores office stored.1)
                (unsure file offices between offices' opened closed opens closes reliable held stores) held now end it _ _
                (read.3.stores done held (shown file offices between offices' opened closed opens closes reliable held stores read.3.trust)),
          )

      asked : (made made' : C) → k.makes clocks zone made clocks'
          → (c.fails made made' × ((end ≡ ended_by fault.Clock) × (after ≡ before) × (closed ≡ opened)))
          ⊎ ((now : Moment) × c.gives made now made' × LoadsAt f d r it name before after opened closed end now)
          → ChangesStored o d k c f r it file name zone held offices' clocks clocks' before after end
      asked made made' makes (inl failed) =
          (made, made', makes, inl (failed.0, (failed.1.0, failed.1.1, same failed.1.2)))
      asked made made' makes (inr gave) =
          (made, made', makes, inr (gave.0, gave.1, at_file gave.0 gave.2))

    pub loads_stored : LoadsAreStored o d k c f r
    loads_stored it file name zone offices offices' clocks clocks' before after end (inl was) reliable held stores =
        inl (was.0, refused offices offices' file end held was.0 reliable stores)
    loads_stored it file name zone offices offices' clocks clocks' before after end (inr did) reliable held stores =
        inr (asked it file name zone offices did.0 offices' did.1 did.2 clocks clocks' before after end did.3 did.5 reliable held stores
        did.4.0 did.4.1 did.4.2 did.4.3)

  module _ {K C : Type 0} (k : zones.Ghosts K C) (c : clock.Ghosts C) (crashes : CrashesLeaveARun d) where
    module _ (file : List ℕ) (requests : ℕ) (zone : Zone) (offices between offices' : O) (opened closed : D) (clocks clocks' : K)
        (opens : o.opens offices file opened between) (closes : o.closes between file closed offices')
        (reliable : o.is_reliable offices') (held : OfficeLists) (stores : Stores o offices file held) where
      -- a desk that was not served
      unserved : closed ≡ opened → StoresRun o k c file requests zone held offices' clocks clocks'
      unserved same = record {
        moments = [];
        bound = omega arith;
        gave = inl refl;
        asked = [];
        at = ([], tt, refl);
        stores = λ left may. (held, unchanged file offices between offices' opened closed opens closes reliable held stores same left may, (None, tt, refl));
      }

      -- a desk of which this was asked, by this clock
      ran : (made till : C) → k.makes clocks zone made clocks' → RanAt c d requests made till opened closed → StoresRun o k c file requests zone held offices' clocks clocks'
      ran made till makes turned =
          let done = well file offices between offices' opened closed opens closes reliable held stores in
          let stored = shown file offices between offices' opened closed opens closes reliable held stores turned.ran.was_reliable in
          record {
            moments = turned.moments;
            bound = turned.bound;
            gave = inr (made, till, makes, turned.gave);
            asked = turned.ran.asked;
            at = turned.ran.at;
            stores = leaves_some file offices between offices' opened closed opens closes reliable held stores
                (IsAfterRun held turned.ran.asked)
                (λ left may.
                let it = crashes opened closed turned.ran.asked turned.ran.leads done held stored.0 stored.1 left may in
                (office_after (run_of held (calls_answered turned.ran.asked)).office it.0, it.2, (it.0, it.1, refl)));
          }

      module _ {P L R S W : Type 0} (p : ports.Ghosts P L R S) (l : listener.Ghosts L R S) (r : source.Ghosts R) (s : sink.Ghosts S) (w : sink.Ghosts W) (loops : LoopsAreRuns l r s c d) where
        -- the loop, however it ended
        by_loop : (bound served : L) (made asked : C) → k.makes clocks zone made clocks' → (reported : Result (Unit {0}) LoopFault) → ServesTurns l r s c d requests reported (standing bound made opened) (standing served asked closed)
            → StoresRun o k c file requests zone held offices' clocks clocks'
        by_loop bound served made asked makes (Ok x) turns = ran made asked makes (loops requests (Ok x) (standing bound made opened) (standing served asked closed) turns)
        by_loop bound served made asked makes (Err loop.Socket) turns = ran made asked makes (loops requests (Err loop.Socket) (standing bound made opened) (standing served asked closed) turns)
        by_loop bound served made asked makes (Err loop.Clock) turns =
            let it = loops requests (Err loop.Clock) (standing bound made opened) (standing served asked closed) turns in
            ran made it.0 makes it.1

        on_port : (bound : L) (output output' : W) (end : Ending) → ServesOn d l r s k c w requests zone bound clocks clocks' output output' opened closed end → StoresRun o k c file requests zone held offices' clocks clocks'
        on_port bound output output' end (inl (says, (served, made, asked, makes, (reported, is, turns)))) = by_loop bound served made asked makes reported turns
        on_port bound output output' end (inr unsaid) = unserved unsaid.3

        at_port : (port : ℕ) (ports ports' : P) (output output' : W) (end : Ending) → ServesAt d p l r s k c w port requests zone ports ports' clocks clocks' output output' opened closed end → StoresRun o k c file requests zone held offices' clocks clocks'
        at_port port ports ports' output output' end (inl unbound) = unserved unbound.1.3
        at_port port ports ports' output output' end (inr (bound, binds, on)) = on_port bound output output' end on

    pub serves_stored : {P L R S W : Type 0} (p : ports.Ghosts P L R S) (l : listener.Ghosts L R S) (r : source.Ghosts R) (s : sink.Ghosts S) (w : sink.Ghosts W) → LoopsAreRuns l r s c d
        → ServesAreStored o k c d p l r s w
    serves_stored p l r s w loops file port requests zone offices offices' ports ports' clocks clocks' output output' end (inl was) reliable held stores =
        inl (was.0, refused offices offices' file end held was.0 reliable stores)
    serves_stored p l r s w loops file port requests zone offices offices' ports ports' clocks clocks' output output' end (inr (between, opened, closed, opens, did, closes)) reliable held stores =
        inr (at_port file requests zone offices between offices' opened closed clocks clocks' opens closes reliable held stores p l r s w loops port ports ports' output output' end did)
