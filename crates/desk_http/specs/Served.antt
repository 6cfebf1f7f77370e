-- What is written of a reply, and what is left of the office.
use Rattle.std.specs.Prelude.{◌≡◌, ◌⊎◌, ℕ, ◌+◌, ◌≤◌, true, false, List, Option, Some, None, Result, Ok, Err}
use Rattle.std.specs.Prelude.{IfErr, OnOk}
use Rattle.std.specs.Io.KnownBytes.{Appends}
use Rattle.any_office.specs.StoredOffice.{HasFailed, office_after}
use Rattle.any_office.specs.OfficeRuns.{LeavesOffice}
use Rattle.any_office.specs.declared.Office as office
use Rattle.wall_clock.specs.declared.clock.Clock as clock
use Rattle.byte_io.specs.Counts.{one_more}
use Rattle.byte_io.specs.Written.{AppendsPrefix}
use Rattle.byte_io.specs.declared.sink.Sink as sink
use Rattle.byte_io.specs.declared.source.Source as source
use Rattle.http_heads.specs.declared.front.TheConstants.{LONGEST_HEAD}
use Rattle.desk_words.specs.ViewTypes.{Moment}
use Rattle.desk_words.specs.declared.office.OfficeLists.{OfficeLists}
use Rattle.desk_words.specs.declared.reply.Failure.{Failure}
use Rattle.desk_words.specs.declared.reply.Reply.{Reply}
use Rattle.json_replies.specs.Replies.{reply_bytes}
use Rattle.http_requests.specs.ReceivedRequests.{TakesAtMost, Spells, TakesRequest, is_cut_off}
use Rattle.http_requests.specs.declared.received.ReceivedRequest.{ReceivedRequest}
use Rattle.http_routes.specs.ReplyTexts.{failure_body, reply_text}
use Rattle.http_routes.specs.Statuses.{reply_status}
use Rattle.desk_http.specs.HttpAnswers.{IsCutOff, MakesCall, call_received, reply_in}
use Rattle.desk_http.specs.declared.answers.AnswerError.{AnswerError}
use Rattle.desk_http.specs.declared.answers.AnswerError.TheVariants as unanswered
use Rattle.desk_http.specs.declared.serve.ServeFault.{ServeFault}
use Rattle.desk_http.specs.declared.serve.ServeFault.TheVariants.{Read, Write}
use Rattle.desk_http.specs.declared.now.NowError.{NowError}
use Rattle.desk_http.specs.declared.now.NowError.TheVariants.{Clock, Serve}

-- the text of a reply
abbrev pub replied_text : Reply → List ℕ
replied_text reply = reply_text (reply_status reply) (reply_bytes reply)

-- the text that reports a failure
abbrev pub failure_text : Failure → List ℕ
failure_text failure = reply_text 503 (failure_body failure)

module _ {O : Type 0} (g : office.Ghosts O) where
  -- the text is that of the reply, and the office is the one after the call, if one is made
  pub record IsReplied (office : OfficeLists) (now : Moment) (received : ReceivedRequest) (new : O)
      (text : List ℕ) : Type 0 where
    pub reply : Reply
    pub is : reply_in office now received ≡ Some reply
    pub text_is : text ≡ replied_text reply
    pub stands : g.stands new (office_after office (call_received office now received))

  -- the text reports a failure, and the office is as it was: of one that is open, and of one that
  -- was open, where no device under it failed in the call
  pub record IsFailed (office : OfficeLists) (old new : O) (text : List ℕ) : Type 0 where
    pub failure : Failure
    pub text_is : text ≡ failure_text failure
    pub same : g.is_open new → g.stands new office
    pub unfaulted : g.is_open old → ¬ (HasFailed (g.faults old) (g.faults new))
        → g.stands new office

  -- the text is that of the reply, or reports a failure
  abbrev pub IsServed : OfficeLists → Moment → ReceivedRequest → O → O → List ℕ → Type 0
  IsServed office now received old new text =
      IsReplied office now received new text ⊎ IsFailed office old new text

  -- of an office that was stored, with this text or a part of it
  abbrev pub Serves : Moment → ReceivedRequest → O → O → (List ℕ → Type 0) → Type 0
  Serves now received old new IsWritten =
      g.is_reliable new → (office : OfficeLists) → g.stands old office
      → (text : List ℕ) × IsServed office now received old new text × IsWritten text

-- what was received is what the bytes spell that came
abbrev pub IsReceived : Option (List ℕ) → Option (List ℕ) → ℕ → ℕ → ReceivedRequest → Type 0
IsReceived unread left passed passed' received =
    TakesAtMost (λ input. Spells input received) (TakesRequest received) unread left passed passed'

-- the source failed, once in the call
abbrev pub FailsReading : {R : Type 0} → source.Ghosts R → R → R → Type 0
FailsReading g before after = g.failures after ≡ one_more (g.failures before)

-- the bytes came from this source, which failed where the body is cut off, once, and there alone
pub record Receives {R : Type 0} (g : source.Ghosts R) (before after : R)
    (received : ReceivedRequest)
    : Type 0 where
  pub spelled : IsReceived (g.remaining before) (g.remaining after) (g.passed before)
      (g.passed after) received
  pub works : is_cut_off received ≡ false → g.failures after ≡ g.failures before
  pub cut_off : is_cut_off received ≡ true → FailsReading g before after

-- this text was written to the sink
abbrev pub WritesText : {W : Type 0} → sink.Ghosts W → W → W → List ℕ → Type 0
WritesText g before after text = Appends (g.contents before) (g.contents after) text

-- some bytes from the front of this text were written to the sink, and not all of them
abbrev pub WritesPart : {W : Type 0} → sink.Ghosts W → W → W → List ℕ → Type 0
WritesPart g before after text = AppendsPrefix (g.contents before) (g.contents after) text

-- the sink failed, once in the call
abbrev pub FailsWriting : {W : Type 0} → sink.Ghosts W → W → W → Type 0
FailsWriting g before after = g.failures after ≡ one_more (g.failures before)

-- where a call ended for this fault, this holds
abbrev pub OnFault : {T E : Type 0} → Result T E → E → Type 0 → Type 0
OnFault result why Holds = IfErr result (λ fault. fault ≡ why → Holds)

-- there is a failure, and this holds of the text that reports it
abbrev pub FailureTextHolds : AnswerError → (List ℕ → Type 0) → Type 0
FailureTextHolds why IsWritten =
    (failure : Failure) × (why ≡ unanswered.Failure failure) × IsWritten (failure_text failure)

-- a write that failed is reported as `Write`
abbrev pub as_write : {T E : Type 0} → Result T E → Result T ServeFault
as_write (Ok x) = Ok x
as_write (Err e) = Err Write

-- ---- what one request comes to

-- what was received is answered by an office at a moment: the reply or a failure is written, or a
-- write failed, or the body was cut off, and then nothing is written or changed; whatever is
-- reported, one call was tried at most
pub record Replies {T O W : Type 0} (g : office.Ghosts O) (h : sink.Ghosts W) (now : Moment)
    (received : ReceivedRequest) (result : Result T ServeFault) (old new : O) (before after : W)
    : Type 0 where
  pub served : OnOk result (Serves g now received old new (WritesText h before after))
  pub partly : OnFault result Write (Serves g now received old new (WritesPart h before after))
  pub unread : OnFault result Read
      (IsCutOff g received old new × LeavesOffice g None old new × (after ≡ before))
  pub makes : MakesCall g now received old new
  pub works : OnOk result (h.failures after ≡ h.failures before)
  pub failed : OnFault result Write (FailsWriting h before after)

-- what came of a device is reported so
abbrev pub as_served : {T : Type 0} → Result T ServeFault → Result T NowError
as_served (Ok x) = Ok x
as_served (Err fault) = Err (Serve fault)

-- a request was read; then the clock gave a moment; then it was answered at that moment
pub record IsAnsweredAt {T O C R W : Type 0} (g : office.Ghosts O) (k : clock.Ghosts C)
    (r : source.Ghosts R) (h : sink.Ghosts W) (result : Result T NowError) (old new : O)
    (from till : C) (reader reader' : R) (before after : W) : Type 0 where
  pub received : ReceivedRequest
  pub read : Receives r reader reader' received
  pub moment : Moment
  pub given : k.gives from moment till
  pub returned : Result T ServeFault
  pub is : result ≡ as_served returned
  pub replies : Replies g h moment received returned old new before after

-- the source failed before the head had come whole, and the clock was not asked
pub record IsUnread {T C R : Type 0} (r : source.Ghosts R) (result : Result T NowError)
    (from till : C) (reader reader' : R) : Type 0 where
  pub is : result ≡ Err (Serve Read)
  pub failed : FailsReading r reader reader'
  pub bound : r.passed reader' ≤ r.passed reader + LONGEST_HEAD
  pub unasked : till ≡ from

-- a request was read, and then the clock gave no moment
pub record IsUntimed {T C R : Type 0} (k : clock.Ghosts C) (r : source.Ghosts R)
    (result : Result T NowError) (from till : C) (reader reader' : R) : Type 0 where
  pub is : result ≡ Err Clock
  pub received : ReceivedRequest
  pub read : Receives r reader reader' received
  pub fails : k.fails from till

-- one request is served by an office: it is read, then answered at the moment that a clock gives,
-- and the answer is written; or it is not read, or the clock gives no moment, and then
-- nothing is written or changed
abbrev pub ServesRequest : {T O C R W : Type 0} → office.Ghosts O → clock.Ghosts C
    → source.Ghosts R → sink.Ghosts W → Result T NowError
    → O → O → C → C → R → R → W → W → Type 0
ServesRequest g k r h result old new from till reader reader' before after =
    IsAnsweredAt g k r h result old new from till reader reader' before after
    ⊎ ((IsUnread r result from till reader reader' ⊎ IsUntimed k r result from till reader reader')
    × (new ≡ old) × (after ≡ before))

-- a clock that gives this one moment, as often as it is asked
abbrev pub only_at : Moment → clock.Ghosts (Unit {0})
only_at moment = record {
  gives = λ from now till. now ≡ moment;
  fails = λ from till. ⊥;
}
