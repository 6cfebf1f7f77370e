-- What is written over HTTP, one connection after another.
use Rattle.std.specs.Prelude.{◌≡◌, ◌⊎◌, ℕ, List, [], ◌∷◌, map, filter_map, Option, Some, None, Result}
use Rattle.any_office.specs.declared.Office as office
use Rattle.byte_io.specs.declared.sink.Sink as sink
use Rattle.byte_io.specs.declared.source.Source as source
use Rattle.wall_clock.specs.declared.clock.Clock as clock
use Rattle.desk_words.specs.Changes.{empty_office}
use Rattle.desk_words.specs.ViewTypes.{Moment, Party}
use Rattle.desk_words.specs.declared.office.OfficeLists.{OfficeLists}
use Rattle.desk_words.specs.declared.reply.Reply.{Reply}
use Rattle.desk_words.specs.declared.request.Call.{Call}
use Rattle.http_requests.specs.declared.received.ReceivedRequest.{ReceivedRequest}
use Rattle.desk_http.specs.HttpAnswers.{call_received, reply_in}
use Rattle.desk_http.specs.Served.{FailsReading, FailsWriting, Receives, WritesPart, WritesText, failure_text, replied_text}
use Rattle.http_listener.specs.Connections.{Gone, Served, ServesTurns, Standing, Turn}
use Rattle.http_listener.specs.declared.listening.LoopFault.{LoopFault}
use Rattle.tcp_close.specs.declared.connection.Connection.{Connection}
use Rattle.tcp_close.specs.declared.listener.Listener as listener
use Rattle.laws_text.specs.Offices.{AskedText, AskedEffect, HasAnsweredARun, Makes, Nothing, RepliesWith, Writing}
use Rattle.laws_text.specs.TextSecrecy.{AreIsolatedFromNothing}

-- replies and failures are written as texts of HTTP
abbrev pub as_http : Writing
as_http = record { reply = replied_text; failure = failure_text }

-- what comes to a call or else to a reply, or to neither
abbrev pub asks_by : Option Call → Option Reply → AskedEffect
asks_by (Some call) reply = Makes call
asks_by None (Some reply) = RepliesWith reply
asks_by None None = Nothing

-- what was received on a connection at a moment asks the call of the caller whose key came, or is
-- replied to without one; with the text that answers it
abbrev pub asked_on : Moment → ReceivedRequest → List ℕ → AskedText
asked_on now received text = record {
  asks = λ office. asks_by (call_received office now received) (reply_in office now received);
  text = text;
}

-- a request that was received at a moment, and the text that answers it
pub record AnsweredRequest : Type 0 where
  pub moment : Moment
  pub received : ReceivedRequest
  pub text : List ℕ

-- what was asked by it
abbrev pub asked_by_request : AnsweredRequest → AskedText
asked_by_request a = asked_on a.moment a.received a.text

-- the requests that were answered
abbrev pub answered_in : List (Option AnsweredRequest) → List AnsweredRequest
answered_in = filter_map (λ (answer : Option AnsweredRequest). answer)

module _ {R W C : Type 0} (r : source.Ghosts R) (w : sink.Ghosts W) (k : clock.Ghosts C) where
  -- the request is what was received of a peer, at the moment that the clock gave then; and the
  -- text was written to that peer, or where the sink failed a part of it
  pub record IsAnsweredOn (taken ended : Connection R W) (answer : AnsweredRequest) (from till : C)
      : Type 0 where
    pub read : Receives r taken.reader ended.reader answer.received
    pub given : k.gives from answer.moment till
    pub written : WritesText w taken.writer ended.writer answer.text
        ⊎ (FailsWriting w taken.writer ended.writer
        × WritesPart w taken.writer ended.writer answer.text)

  -- the source failed, and nothing was written
  pub record IsCutShort (taken ended : Connection R W) : Type 0 where
    pub failed : FailsReading r taken.reader ended.reader
    pub unwritten : ended.writer ≡ taken.writer

  -- a turn answered this request, or none
  abbrev pub AnswersBy : Turn R W → Option AnsweredRequest → C → C → Type 0
  AnswersBy (Served taken ended) (Some answer) from till =
      IsAnsweredOn taken ended answer from till
  AnswersBy (Served taken ended) None from till = IsCutShort taken ended
  AnswersBy Gone (Some answer) from till = ⊥
  AnswersBy Gone None from till = till ≡ from

  -- one after another
  abbrev pub AnswerBy : List (Turn R W) → List (Option AnsweredRequest) → C → C → Type 0
  AnswerBy [] [] from till = till ≡ from
  AnswerBy [] (answer ∷ answers) from till = ⊥
  AnswerBy (turn ∷ later) [] from till = ⊥
  AnswerBy (turn ∷ later) (answer ∷ answers) from till =
      (between : C) × AnswersBy turn answer from between × AnswerBy later answers between till

-- what was written to the peers of a listener answers a run from an office: the requests that were
-- answered, a turn each or none, and the run that they are
pub record TurnsAnswerARun {R W C O : Type 0} (r : source.Ghosts R) (w : sink.Ghosts W)
    (k : clock.Ghosts C) (g : office.Ghosts O) (turns : List (Turn R W)) (first : OfficeLists)
    (from : C) (new : O) : Type 0 where
  pub answers : List (Option AnsweredRequest)
  pub till : C
  pub are : AnswerBy r w k turns answers from till
  pub answered : HasAnsweredARun g as_http first (map asked_by_request (answered_in answers)) new

module _ {L R W C O : Type 0} (l : listener.Ghosts L R W) (r : source.Ghosts R) (w : sink.Ghosts W)
    (k : clock.Ghosts C) (g : office.Ghosts O) where
  -- what is written to one connection after another, as a loop promises, however it ends, answers
  -- a run, where an office was stored, up to one that is reliable and open
  abbrev pub ConnectionsAnswerRuns : Type 0
  ConnectionsAnswerRuns =
      (count : ℕ) (result : Result (Unit {0}) LoopFault) (before after : Standing L C O)
      → (served : ServesTurns l r w k g count result before after)
      → g.is_reliable after.office → g.is_open after.office
      → (first : OfficeLists) → g.stands before.office first
      → TurnsAnswerARun r w k g served.turns first before.clock after.office

  -- connections were served one after another, from an office that holds nothing up to one that is
  -- reliable and open
  pub record ServesFromNothing (before after : Standing L C O) : Type 0 where
    pub empty : g.stands before.office empty_office
    pub count : ℕ
    pub result : Result (Unit {0}) LoopFault
    pub served : ServesTurns l r w k g count result before after
    pub reliable : g.is_reliable after.office
    pub is_open : g.is_open after.office

  -- two whole lists of connections answer a run each, and these are isolated
  pub record AnswerIsolatedRuns (party : Party) (one other : List (Turn R W)) (from since : C)
      (left preserved : O) : Type 0 where
    pub exchanged : TurnsAnswerARun r w k g one empty_office from left
    pub later : TurnsAnswerARun r w k g other empty_office since preserved
    pub isolated : AreIsolatedFromNothing party exchanged.answered.run.exchanges
        later.answered.run.exchanges

  -- so two lists of connections, each from an office that holds nothing, are isolated
  abbrev pub ConnectionsAreIsolated : Type 0
  ConnectionsAreIsolated =
      (party : Party) (before after since until : Standing L C O)
      → (one : ServesFromNothing before after) → (other : ServesFromNothing since until)
      → AnswerIsolatedRuns party one.served.turns other.served.turns before.clock since.clock
      after.office until.office
