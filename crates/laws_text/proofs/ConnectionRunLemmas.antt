-- What is written to one connection after another is a run.
use Rattle.std.proofs.Common.{◌≡◌, ◌⊎◌, inl, inr, ℕ, List, [], ◌∷◌, map, refl, ap, sym, ◌∙◌, subst}
use Rattle.std.specs.Prelude.{Some, None, Result, Ok, Err}
use Rattle.any_office.specs.declared.Office as office
use Rattle.byte_io.specs.declared.sink.Sink as sink
use Rattle.byte_io.specs.declared.source.Source as source
use Rattle.wall_clock.specs.declared.clock.Clock as clock
use Rattle.desk_words.specs.Changes.{empty_office}
use Rattle.desk_words.specs.ViewTypes.{Moment}
use Rattle.desk_words.specs.declared.office.OfficeLists.{OfficeLists}
use Rattle.http_requests.specs.declared.received.ReceivedRequest.{ReceivedRequest}
use Rattle.desk_http.proofs.ServedLemmas.{served_no_clock}
use Rattle.desk_http.specs.Served.{Receives, Replies, ServesRequest}
use Rattle.desk_http.specs.declared.now.NowError.{NowError}
use Rattle.desk_http.specs.declared.now.NowError.TheVariants.{Clock}
use Rattle.desk_http.specs.declared.serve.ServeFault.{ServeFault}
use Rattle.desk_http.specs.declared.serve.ServeFault.TheVariants.{Read, Write}
use Rattle.http_listener.specs.Connections.{EndsBy, Gone, IsTurn, LeadsBy, Served, Standing, Turn}
use Rattle.http_listener.specs.declared.listening.LoopFault.{LoopFault}
use Rattle.http_listener.specs.declared.listening.LoopFault.TheVariants as fault
use Rattle.tcp_close.specs.declared.connection.Connection.{Connection}
use Rattle.tcp_close.specs.declared.listener.Listener as listener
use Rattle.laws_text.proofs.TextOfficeLemmas.{offices_isolated, served-exchanged, exchanged-more}
use Rattle.laws_text.specs.Connections.{AnswersBy, AnsweredRequest, ConnectionsAnswerRuns, ConnectionsAreIsolated, TurnsAnswerARun, answered_in, as_http, asked_by_request}
use Rattle.laws_text.specs.Offices.{IsAnsweredInOffice}
use Rattle.laws_text.specs.TextSecrecy.{TextsFromNothingAreIsolated}

-- ---- one request

module _ {R W C O : Type 0} (r : source.Ghosts R) (w : sink.Ghosts W) (k : clock.Ghosts C) (g : office.Ghosts O) where
  -- it was answered in the office that was stored, or it was not and the office is as it was
  abbrev AnswersTurn : Turn R W → OfficeLists → C → C → O → Type 0
  AnswersTurn turn first from till new =
      ((answer : AnsweredRequest) × AnswersBy r w k turn (Some answer) from till × IsAnsweredInOffice g as_http (asked_by_request answer) first new)
      ⊎ (AnswersBy r w k turn None from till × g.stands new first)

  module _ (taken ended : Connection R W) (first : OfficeLists) (old new : O) (from till : C) (stands : g.stands old first) (reliable : g.is_reliable new) (is_open : g.is_open new) where
    answered : (received : ReceivedRequest) (read : Receives r taken.reader ended.reader received) (moment : Moment) (given : k.gives from moment till) (exchanged : Result (Unit {0}) ServeFault)
        → Replies g w moment received exchanged old new taken.writer ended.writer → AnswersTurn (Served taken ended) first from till new
    answered received read moment given (Ok x) replies =
        let it = replies.served reliable first stands in
        inl (record { moment = moment; received = received; text = it.0 }, record { read = read; given = given; written = inl it.2 }, served-exchanged g moment received first old new it.0 is_open it.1)
    answered received read moment given (Err Write) replies =
        let it = replies.partly refl reliable first stands in
        inl (record { moment = moment; received = received; text = it.0 }, record { read = read; given = given; written = inr (replies.failed refl, it.2) }, served-exchanged g moment received first old new it.0 is_open it.1)
    answered received read moment given (Err Read) replies =
        let it = replies.unread refl in
        inr (record { failed = read.cut_off it.0.cut_off; unwritten = it.2 }, it.1.stands reliable is_open first stands)

    request-answered : (result : Result (Unit {0}) NowError) → (result ≡ Err Clock → ⊥) → ServesRequest g k r w result old new from till taken.reader ended.reader taken.writer ended.writer
        → AnswersTurn (Served taken ended) first from till new
    request-answered result timed (inl it) = answered it.received it.read it.moment it.given it.returned it.replies
    request-answered result timed (inr (inl it, same, unwritten)) =
        inr (record { failed = it.failed; unwritten = unwritten }, subst (λ (o : O). g.stands o first) (sym same) stands)
    request-answered result timed (inr (inr it, same, unwritten)) = absurd (timed it.is)

  request-reliable : (result : Result (Unit {0}) NowError) (old new : O) (from till : C) (reader reader' : R) (before after : W) → ServesRequest g k r w result old new from till reader reader' before after
      → g.is_reliable new → g.is_reliable old
  request-reliable result old new from till reader reader' before after (inl it) reliable = it.replies.makes.leaves.was_reliable reliable
  request-reliable result old new from till reader reader' before after (inr (it, same, unwritten)) reliable = subst g.is_reliable same reliable

  request-open : (result : Result (Unit {0}) NowError) (old new : O) (from till : C) (reader reader' : R) (before after : W) → ServesRequest g k r w result old new from till reader reader' before after
      → g.is_reliable new → g.is_open new → g.is_open old
  request-open result old new from till reader reader' before after (inl it) reliable is_open = it.replies.makes.leaves.was_open reliable is_open
  request-open result old new from till reader reader' before after (inr (it, same, unwritten)) reliable is_open = subst g.is_open same is_open

  -- where the clock gave no moment, the office is as it was
  request-untimed : (result : Result (Unit {0}) NowError) (old new : O) (from till : C) (reader reader' : R) (before after : W) → ServesRequest g k r w result old new from till reader reader' before after
      → result ≡ Err Clock → new ≡ old
  request-untimed result old new from till reader reader' before after (inl it) untimed = absurd (served_no_clock it.returned (sym it.is ∙ untimed))
  request-untimed result old new from till reader reader' before after (inr (it, same, unwritten)) untimed = same

-- ---- one turn after another

module _ {L R W C O : Type 0} (l : listener.Ghosts L R W) (r : source.Ghosts R) (w : sink.Ghosts W) (k : clock.Ghosts C) (g : office.Ghosts O) where
  turn-reliable : (turn : Turn R W) (before after : Standing L C O) → IsTurn l r w k g turn before after → g.is_reliable after.office → g.is_reliable before.office
  turn-reliable (Served taken ended) before after is reliable =
      request-reliable r w k g is.0 before.office after.office before.clock after.clock taken.reader ended.reader taken.writer ended.writer is.2.served.serves reliable
  turn-reliable Gone before after is reliable = subst g.is_reliable is.1.same_office reliable

  turn-open : (turn : Turn R W) (before after : Standing L C O) → IsTurn l r w k g turn before after → g.is_reliable after.office → g.is_open after.office → g.is_open before.office
  turn-open (Served taken ended) before after is reliable is_open =
      request-open r w k g is.0 before.office after.office before.clock after.clock taken.reader ended.reader taken.writer ended.writer is.2.served.serves reliable is_open
  turn-open Gone before after is reliable is_open = subst g.is_open is.1.same_office is_open

  turn-answered : (turn : Turn R W) (first : OfficeLists) (before after : Standing L C O) → IsTurn l r w k g turn before after → g.is_reliable after.office → g.is_open after.office → g.stands before.office first
      → AnswersTurn r w k g turn first before.clock after.clock after.office
  turn-answered (Served taken ended) first before after is reliable is_open stands =
      request-answered r w k g taken ended first before.office after.office before.clock after.clock stands reliable is_open is.0 is.1 is.2.served.serves
  turn-answered Gone first before after is reliable is_open stands = inr (is.1.same_clock, subst (λ (o : O). g.stands o first) (sym is.1.same_office) stands)

  leads-reliable : (turns : List (Turn R W)) (before after : Standing L C O) → LeadsBy l r w k g before turns after → g.is_reliable after.office → g.is_reliable before.office
  leads-reliable [] before after same reliable = subst (λ (it : Standing L C O). g.is_reliable it.office) same reliable
  leads-reliable (turn ∷ later) before after leads reliable = turn-reliable turn before leads.0 leads.1 (leads-reliable later leads.0 after leads.2 reliable)

  leads-open : (turns : List (Turn R W)) (before after : Standing L C O) → LeadsBy l r w k g before turns after → g.is_reliable after.office → g.is_open after.office → g.is_open before.office
  leads-open [] before after same reliable is_open = subst (λ (it : Standing L C O). g.is_open it.office) same is_open
  leads-open (turn ∷ later) before after leads reliable is_open =
      turn-open turn before leads.0 leads.1 (leads-reliable later leads.0 after leads.2 reliable) (leads-open later leads.0 after leads.2 reliable is_open)

  -- a turn in front of a run
  answers-more : (turn : Turn R W) (later : List (Turn R W)) (first : OfficeLists) (from mid : C) (between new : O) → AnswersTurn r w k g turn first from mid between
      → ((next : OfficeLists) → g.stands between next → TurnsAnswerARun r w k g later next mid new) → TurnsAnswerARun r w k g (turn ∷ later) first from new
  answers-more turn later first from mid between new (inl (answer, by, exchanged)) rest =
      let more = rest _ exchanged.stands in record {
        answers = Some answer ∷ more.answers;
        till = more.till;
        are = (mid, by, more.are);
        answered = exchanged-more g as_http first (asked_by_request answer) (map asked_by_request (answered_in more.answers)) between new exchanged more.answered;
      }
  answers-more turn later first from mid between new (inr (by, stands)) rest =
      let more = rest first stands in record {
        answers = None ∷ more.answers;
        till = more.till;
        are = (mid, by, more.are);
        answered = more.answered;
      }

  turns_answer : (turns : List (Turn R W)) (before after : Standing L C O) → LeadsBy l r w k g before turns after → g.is_reliable after.office → g.is_open after.office → (first : OfficeLists) → g.stands before.office first
      → TurnsAnswerARun r w k g turns first before.clock after.office
  turns_answer [] before after same reliable is_open first stands = record {
    answers = [];
    till = before.clock;
    are = refl;
    answered = record {
      run = record { office = first; exchanges = []; states = refl };
      begins = refl;
      of = tt;
      stands = subst (λ (it : Standing L C O). g.stands it.office first) (sym same) stands;
    };
  }
  turns_answer (turn ∷ later) before after leads reliable is_open first stands =
      let mid_reliable = leads-reliable later leads.0 after leads.2 reliable in
      let mid_open = leads-open later leads.0 after leads.2 reliable is_open in
      answers-more turn later first before.clock leads.0.clock leads.0.office after.office (turn-answered turn first before leads.0 leads.1 mid_reliable mid_open stands)
      (λ next held. turns_answer later leads.0 after leads.2 reliable is_open next held)

  -- what ends a loop leaves the office as it was
  ends-same : (made count : ℕ) (result : Result (Unit {0}) LoopFault) (between after : Standing L C O) → EndsBy l r w k g made count result between after → after.office ≡ between.office
  ends-same made count (Ok x) between after ends = ap (λ (it : Standing L C O). it.office) ends.1
  ends-same made count (Err fault.Socket) between after ends = ends.1.1.same_office
  ends-same made count (Err fault.Clock) between after ends =
      let it = ends.1 in
      request-untimed r w k g (Err Clock) between.office after.office between.clock after.clock it.0.reader it.1.reader it.0.writer it.1.writer it.2.served.serves refl

  pub connections_answer : ConnectionsAnswerRuns l r w k g
  connections_answer count result before after served reliable is_open first stands =
      let same = ends-same _ count result served.between after served.ends in
      subst (λ (o : O). TurnsAnswerARun r w k g served.turns first before.clock o) (sym same)
      (turns_answer served.turns before served.between served.leads (subst g.is_reliable same reliable) (subst g.is_open same is_open) first stands)

  pub connections_isolated : TextsFromNothingAreIsolated → ConnectionsAreIsolated l r w k g
  connections_isolated law party before after since until one other =
      let exchanged = connections_answer one.count one.result before after one.served one.reliable one.is_open empty_office one.empty in
      let later = connections_answer other.count other.result since until other.served other.reliable other.is_open empty_office other.empty in
      record {
        exchanged = exchanged;
        later = later;
        isolated = offices_isolated g law as_http party (map asked_by_request (answered_in exchanged.answers)) (map asked_by_request (answered_in later.answers)) after.office until.office exchanged.answered later.answered;
      }
