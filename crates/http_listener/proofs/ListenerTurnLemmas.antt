-- One turn after another.
use Rattle.std.proofs.lemmas.List.Elements.{filter_map-append}
use Rattle.std.proofs.Common.{◌≡◌, inl, inr, ℕ, ◌+◌, ◌≤◌, List, [], ◌∷◌, ◌++◌, Option, Some, None, Result, Ok, Err, refl, subst, sym, ◌∙◌, arith, length, length-append, ap}
use Rattle.any_office.proofs.OfficeHomeLemmas.{closes_then}
use Rattle.any_office.specs.StoredOffice.{office_after}
use Rattle.any_office.specs.CrashedOffice.{LeadsOn, OfficeEvent, Reads, Answers, Fails, calls_answered}
use Rattle.any_office.specs.OfficeRuns.{calls_in}
use Rattle.any_office.specs.declared.Office as office
use Rattle.wall_clock.specs.declared.clock.Clock as clock
use Rattle.byte_io.specs.declared.sink.Sink as sink
use Rattle.byte_io.specs.declared.source.Source as source
use Rattle.wall_clock.specs.GivenMoments.{GivesMoments}
use Rattle.desk_http.specs.AskedOffice.{call_tried}
use Rattle.desk_http.specs.HttpAnswers.{MakesCall, call_by, call_of}
use Rattle.desk_http.specs.Served.{ServesRequest}
use Rattle.desk_http.specs.declared.now.NowError.{NowError}
use Rattle.desk_http.specs.declared.now.NowError.TheVariants.{Clock}
use Rattle.desk_http.proofs.ServedLemmas.{served_no_clock}
use Rattle.http_requests.specs.declared.received.ReceivedRequest.{ReceivedRequest}
use Rattle.http_requests.specs.declared.received.ReceivedRequest.TheVariants.{Refused, With}
use Rattle.http_requests.specs.declared.received.ReceiveError.{ReceiveError}
use Rattle.desk_words.specs.ViewTypes.{Moment}
use Rattle.desk_words.specs.declared.office.OfficeLists.{OfficeLists}
use Rattle.desk_words.specs.declared.caller.Caller.{Caller}
use Rattle.desk_words.specs.declared.request.Call.{Call}
use Rattle.desk_words.specs.declared.request.Request.{Request}
use Rattle.meeting_core.specs.Step.{run_of, stepped}
use Rattle.http_listener.specs.Connections.{Gone, IsTurn, LeadsBy, Served, Standing, Turn}
use Rattle.http_listener.specs.Turns.{AreMadeAt, AreTriedAt, IsMadeAt, LoopsAreRuns, Ran, RanAt, Turned}
use Rattle.http_listener.specs.declared.listening.LoopFault.TheVariants as fault
use Rattle.tcp_close.specs.declared.listener.Listener as listener

-- a run goes on from the office that another left
run-then : (office : OfficeLists) (asked later : List OfficeEvent) → (run_of (run_of office (calls_answered asked)).office (calls_answered later)).office ≡ (run_of office (calls_answered (asked ++ later))).office
run-then office [] later = refl
run-then office (Reads ∷ asked) later = run-then office asked later
run-then office (Answers call ∷ asked) later = run-then (stepped office call) asked later
run-then office (Fails call ∷ asked) later = run-then office asked later

made-then : (made later : List (Option Call)) (moments more : List Moment) → AreMadeAt made moments → AreMadeAt later more → AreMadeAt (made ++ later) (moments ++ more)
made-then [] later [] more p q = q
made-then [] later (now ∷ moments) more p q = absurd p
made-then (one ∷ made) later [] more p q = absurd p
made-then (one ∷ made) later (now ∷ moments) more p q = (p.0, made-then made later moments more p.1 q)

tried-then : (asked later : List OfficeEvent) (moments more : List Moment) → AreTriedAt asked moments → AreTriedAt later more → AreTriedAt (asked ++ later) (moments ++ more)
tried-then asked later moments more p q = (
  p.0 ++ q.0,
  made-then p.0 q.0 moments more p.1 q.1,
  filter_map-append (λ (tried : Option Call). tried) p.0 q.0 ∙ (λ i. p.2 i ++ q.2 i) ∙ sym (filter_map-append call_tried asked later),
)

gave-then : {C : Type 0} (gives : C → Moment → C → Type 0) (a b c : C) (moments more : List Moment) → GivesMoments gives a moments b → GivesMoments gives b more c → GivesMoments gives a (moments ++ more) c
gave-then {C} gives a b c [] more p q = subst (λ (it : C). GivesMoments gives it more c) p q
gave-then gives a b c (now ∷ moments) more p q = (p.0, p.1, gave-then gives p.0 b c moments more p.2 q)

-- a call that a caller makes is made at the moment at which it is received
content-at : (now : Moment) (who : Option Caller) (content : Result Request ReceiveError) → IsMadeAt (call_of now who content) now
content-at now None content = tt
content-at now (Some who) (Ok request) = refl
content-at now (Some who) (Err why) = tt

received-at : (now : Moment) (who : Option Caller) (received : ReceivedRequest) → IsMadeAt (call_by now who received) now
received-at now who (Refused refusal) = tt
received-at now who (With key content) = content-at now who content

-- a run of one call, or of none
run-one : (office : OfficeLists) (made : Option Call) → office_after office made ≡ (run_of office (calls_in (made ∷ []))).office
run-one office None = refl
run-one office (Some call) = refl

module _ {O : Type 0} (g : office.Ghosts O) where
  -- what was asked first and what was asked then
  leads-on : (a b c : O) (asked later : List OfficeEvent) → LeadsOn g a asked b → LeadsOn g b later c → LeadsOn g a (asked ++ later) c
  leads-on a b c [] later first next = subst (λ (o : O). LeadsOn g o later c) first next
  leads-on a b c (one ∷ asked) later first next = (first.0, first.1, first.2, leads-on first.0 b c asked later first.3 next)

  -- where nothing was done, all is as it was
  pub ran-none : (s : O) → Ran g [] s s
  ran-none s = record {
    was_reliable = λ reliable. reliable;
    was_open = λ reliable is_open. is_open;
    closes = λ reliable is_open. inl is_open;
    counts = omega arith;
    asked = [];
    leads = refl;
    at = ([], tt, refl);
    stands = λ reliable is_open office stands. stands;
  }

  pub ran-then : (a b c : O) (moments more : List Moment) → Ran g moments a b → Ran g more b c → Ran g (moments ++ more) a c
  ran-then a b c moments more first next = record {
    was_reliable = λ reliable. first.was_reliable (next.was_reliable reliable);
    was_open = λ reliable is_open. first.was_open (next.was_reliable reliable) (next.was_open reliable is_open);
    closes = λ reliable is_open. closes_then g.is_reliable g.is_open g.stands g.faults a b c first.counts next.counts (first.closes (next.was_reliable reliable) is_open) (next.closes reliable);
    counts = omega (arith, first.counts, next.counts);
    asked = first.asked ++ next.asked;
    leads = leads-on a b c first.asked next.asked first.leads next.leads;
    at = tried-then first.asked next.asked moments more first.at next.at;
    stands = λ reliable is_open office stands.
        let mid = first.stands (next.was_reliable reliable) (next.was_open reliable is_open) office stands in
        subst (λ (o : OfficeLists). g.stands c o) (run-then office first.asked next.asked) (next.stands reliable is_open (run_of office (calls_answered first.asked)).office mid);
  }

  -- where the clock was not asked and nothing was done
  pub turned-none : {C : Type 0} (gives : C → Moment → C → Type 0) (most : ℕ) (clock : C) (s : O) → Turned g gives most clock clock s s
  turned-none gives most clock s = record { moments = []; gave = refl; bound = omega arith; ran = ran-none s }

  -- where the clock gave one moment
  pub turned-one : {C : Type 0} (gives : C → Moment → C → Type 0) (clock clock' : C) (now : Moment) (a b : O) → gives clock now clock' → Ran g (now ∷ []) a b → Turned g gives 1 clock clock' a b
  turned-one gives clock clock' now a b given ran = record { moments = now ∷ []; gave = (clock', given, refl); bound = omega arith; ran = ran }

  pub turned-then : {C : Type 0} (gives : C → Moment → C → Type 0) (n m most : ℕ) (c0 c1 c2 : C) (s0 s1 s2 : O) → n + m ≤ most → Turned g gives n c0 c1 s0 s1 → Turned g gives m c1 c2 s1 s2 → Turned g gives most c0 c2 s0 s2
  turned-then gives n m most c0 c1 c2 s0 s1 s2 room first next = record {
    moments = first.moments ++ next.moments;
    gave = gave-then gives c0 c1 c2 first.moments next.moments first.gave next.gave;
    bound = simp length-append (omega (arith, first.bound, next.bound, room));
    ran = ran-then s0 s1 s2 first.moments next.moments first.ran next.ran;
  }

  pub turned-within : {C : Type 0} (gives : C → Moment → C → Type 0) (n most : ℕ) (c0 c1 : C) (s0 s1 : O) → n ≤ most → Turned g gives n c0 c1 s0 s1 → Turned g gives most c0 c1 s0 s1
  turned-within gives n most c0 c1 s0 s1 room turned = record {
    moments = turned.moments;
    gave = turned.gave;
    bound = omega (arith, turned.bound, room);
    ran = turned.ran;
  }

  -- what is left of one request is left of a run at one moment
  pub ran-made : (now : Moment) (received : ReceivedRequest) (a b : O) → MakesCall g now received a b → Ran g (now ∷ []) a b
  ran-made now received a b makes = record {
    was_reliable = makes.leaves.was_reliable;
    was_open = makes.leaves.was_open;
    closes = makes.leaves.closes;
    counts = makes.leaves.counts;
    asked = makes.asked;
    leads = makes.leads;
    at = (call_by now makes.found received ∷ [], (received-at now makes.found received, tt), sym makes.tries);
    stands = λ reliable is_open office stands.
        subst (λ (o : OfficeLists). g.stands b o) (run-one office makes.made ∙ sym (ap (λ calls. (run_of office calls).office) makes.answers)) (makes.leaves.stands reliable is_open office stands);
  }

  -- what the serving of one request leaves, where the clock gave a moment or was not asked
  pub served_turn : {T C R W : Type 0} (k : clock.Ghosts C) (r : source.Ghosts R) (h : sink.Ghosts W) (result : Result T NowError) (old new : O) (from till : C)
      (reader reader' : R) (before after : W) → ServesRequest g k r h result old new from till reader reader' before after
      → (result ≡ Err Clock → ⊥) → Turned g k.gives 1 from till old new
  served_turn k r h result old new from till reader reader' before after (inl it) timed =
      turned-one k.gives from till it.moment old new it.given (ran-made it.moment it.received old new it.replies.makes)
  served_turn k r h result old new from till reader reader' before after (inr (inl it, same, unwritten)) timed =
      subst (λ s. Turned g k.gives 1 from till old s) (sym same)
      (subst (λ c. Turned g k.gives 1 from c old old) (sym it.unasked) (turned-none k.gives 1 from old))
  served_turn k r h result old new from till reader reader' before after (inr (inr it, same, unwritten)) timed = absurd (timed it.is)

  -- and where it gave none
  pub served_untimed : {T C R W : Type 0} (k : clock.Ghosts C) (r : source.Ghosts R) (h : sink.Ghosts W) (result : Result T NowError) (old new : O) (from till : C)
      (reader reader' : R) (before after : W) → ServesRequest g k r h result old new from till reader reader' before after → result ≡ Err Clock → k.fails from till × (new ≡ old)
  served_untimed k r h result old new from till reader reader' before after (inl it) untimed = absurd (served_no_clock it.returned (sym it.is ∙ untimed))
  served_untimed k r h result old new from till reader reader' before after (inr (inl it, same, unwritten)) untimed = let both = sym it.is ∙ untimed in absurd (cc)
  served_untimed k r h result old new from till reader reader' before after (inr (inr it, same, unwritten)) untimed = (it.fails, same)

-- ---- one turn after another

module _ {L R W C O : Type 0} (l : listener.Ghosts L R W) (r : source.Ghosts R) (w : sink.Ghosts W) (k : clock.Ghosts C) (g : office.Ghosts O) where
  turn-ran : (turn : Turn R W) (before after : Standing L C O) → IsTurn l r w k g turn before after → Turned g k.gives 1 before.clock after.clock before.office after.office
  turn-ran (Served taken ended) before after is =
      served_turn g k r w is.0 before.office after.office before.clock after.clock taken.reader ended.reader taken.writer ended.writer is.2.served.serves is.1
  turn-ran Gone before after is =
      subst (λ c. Turned g k.gives 1 before.clock c before.office after.office) (sym is.1.same_clock)
      (subst (λ s. Turned g k.gives 1 before.clock before.clock before.office s) (sym is.1.same_office) (turned-none g k.gives 1 before.clock before.office))

  leads-ran : (turns : List (Turn R W)) (before after : Standing L C O) → LeadsBy l r w k g before turns after → Turned g k.gives (length turns) before.clock after.clock before.office after.office
  leads-ran [] before after same =
      subst (λ (it : Standing L C O). Turned g k.gives 0 before.clock it.clock before.office it.office) (sym same) (turned-none g k.gives 0 before.clock before.office)
  leads-ran (turn ∷ later) before after leads =
      turned-then g k.gives 1 (length later) (length (turn ∷ later)) before.clock leads.0.clock after.clock before.office leads.0.office after.office (omega arith)
      (turn-ran turn before leads.0 leads.1) (leads-ran later leads.0 after leads.2)

  -- fewer turns than so many
  ran-fewer : (count : ℕ) (turns : List (Turn R W)) (before between after : Standing L C O) → LeadsBy l r w k g before turns between → length turns ≤ count → after.office ≡ between.office
      → RanAt k g count before.clock between.clock before.office after.office
  ran-fewer count turns before between after leads room same =
      subst (λ s. Turned g k.gives count before.clock between.clock before.office s) (sym same)
      (turned-within g k.gives (length turns) count before.clock between.clock before.office between.office room (leads-ran turns before between leads))

  pub loops_ran : LoopsAreRuns l r w k g
  loops_ran count (Ok x) before after served =
      subst (λ (it : Standing L C O). RanAt k g count before.clock it.clock before.office it.office) (sym served.ends.1)
      (ran-fewer count served.turns before served.between served.between served.leads (omega (arith, served.ends.0)) refl)
  loops_ran count (Err fault.Socket) before after served =
      subst (λ c. RanAt k g count before.clock c before.office after.office) (sym served.ends.1.1.same_clock)
      (ran-fewer count served.turns before served.between after served.leads (omega (arith, served.ends.0)) served.ends.1.1.same_office)
  loops_ran count (Err fault.Clock) before after served =
      let it = served.ends.1 in
      let none = served_untimed g k r w (Err Clock) served.between.office after.office served.between.clock after.clock it.0.reader it.1.reader it.0.writer it.1.writer it.2.served.serves refl in
      (served.between.clock, ran-fewer count served.turns before served.between after served.leads (omega (arith, served.ends.0)) none.1, none.0)
