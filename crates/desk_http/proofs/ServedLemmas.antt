-- What is written of a reply, and of a failure.
use Rattle.std.proofs.Common.{◌≡◌, ◌⊎◌, ℕ, inl, inr, List, None, Result, Ok, Err, refl, subst, sym}
use Rattle.std.specs.Prelude.{IfErr, OnErr, OnOk}
use Rattle.any_office.specs.StoredOffice.{office_after}
use Rattle.any_office.specs.OfficeRuns.{LeavesOffice}
use Rattle.any_office.specs.declared.Office as office
use Rattle.byte_io.specs.declared.sink.Sink as sink
use Rattle.desk_words.specs.ViewTypes.{Moment}
use Rattle.desk_words.specs.declared.office.OfficeLists.{OfficeLists}
use Rattle.desk_words.specs.declared.reply.Failure.{Failure}
use Rattle.http_requests.specs.declared.received.ReceivedRequest.{ReceivedRequest}
use Rattle.http_routes.specs.ReplyTexts.{reply_text}
use Rattle.desk_http.specs.HttpAnswers.{IsAnswer, IsCutOff, MakesCall, call_received, reply_in}
use Rattle.desk_http.specs.Served.{FailsWriting, OnFault, Replies, Serves, FailureTextHolds, WritesPart, WritesText, as_served, as_write, failure_text}
use Rattle.desk_http.specs.declared.now.NowError.TheVariants.{Clock}
use Rattle.desk_http.specs.declared.answers.Answered.{Answered}
use Rattle.desk_http.specs.declared.answers.AnswerError.{AnswerError}
use Rattle.desk_http.specs.declared.serve.ServeFault.{ServeFault}
use Rattle.desk_http.specs.declared.answers.AnswerError.TheVariants.{CutOff}
use Rattle.desk_http.specs.declared.serve.ServeFault.TheVariants.{Read, Write}

first_of_two : {A B : Type 0} → A ⊎ B → ¬ B → A
first_of_two (inl a) none = a
first_of_two (inr b) none = absurd (none b)

-- what holds where all was written
pub sent_well : {T E : Type 0} {P Q : Type 0} (written : Result T E) (returned : Result T ServeFault) → returned ≡ as_write written → OnOk written P → (P → Q) → OnOk returned Q
sent_well {T} {E} {P} {Q} (Ok x) returned is h next = subst (λ r. OnOk r Q) (sym is) (next h)
sent_well {T} {E} {P} {Q} (Err e) returned is h next = subst (λ r. OnOk r Q) (sym is) tt

-- and what holds where a write failed
pub sent_badly : {T E : Type 0} {P Q : Type 0} (written : Result T E) (returned : Result T ServeFault) → returned ≡ as_write written → OnErr written P → (P → Q) → IfErr returned (λ fault. fault ≡ Write → Q)
sent_badly {T} {E} {P} {Q} (Ok x) returned is h next = subst (λ r. IfErr r (λ fault. fault ≡ Write → Q)) (sym is) tt
sent_badly {T} {E} {P} {Q} (Err e) returned is h next = subst (λ r. IfErr r (λ fault. fault ≡ Write → Q)) (sym is) (λ _. next h)

-- a write that failed is no cut-off body
sent_read : {T E : Type 0} (P : Type 0) (written : Result T E) (returned : Result T ServeFault) → returned ≡ as_write written → OnFault returned Read P
sent_read {T} {E} P (Ok x) returned is = subst (λ r. OnFault r Read P) (sym is) tt
sent_read {T} {E} P (Err e) returned is = subst (λ r. OnFault r Read P) (sym is) (λ same. absurd (cc))

on_read : {T : Type 0} (r : Result T ServeFault) {P Q : Type 0} → OnFault r Read P → (P → Q) → OnFault r Read Q
on_read (Ok x) h next = tt
on_read (Err e) h next = λ is. next (h is)

module _ {O : Type 0} (g : office.Ghosts O) where
  -- the text of what is answered, or a part of it, is written
  pub serves_reply : (now : Moment) (received : ReceivedRequest) (old new : O) (answered : Answered) (IsWritten : List ℕ → Type 0)
      → (g.is_reliable new → (office : OfficeLists) → g.stands old office → IsAnswer (reply_in office now received) answered × g.stands new (office_after office (call_received office now received)))
      → IsWritten (reply_text answered.status answered.body.items) → Serves g now received old new IsWritten
  serves_reply now received old new answered IsWritten done written = λ reliable office stands.
      let it = done reliable office stands in (
        reply_text answered.status answered.body.items,
        inl (record { reply = it.0.0; is = it.0.1; text_is = λ i. reply_text (it.0.2.0 i) (it.0.2.1 i); stands = it.1 }),
        written,
      )

  -- the text of a failure, or a part of it, is written
  pub serves_failure : (now : Moment) (received : ReceivedRequest) (old new : O) (failure : Failure) (IsWritten : List ℕ → Type 0)
      → LeavesOffice g None old new → IsWritten (failure_text failure) → Serves g now received old new IsWritten
  serves_failure now received old new failure IsWritten leaves written = λ reliable office stands. (
    failure_text failure,
    inr (record {
      failure = failure;
      text_is = refl;
      same = λ is_open. leaves.stands reliable is_open office stands;
      unfaulted = λ is_open none. leaves.stands reliable (first_of_two (leaves.closes reliable is_open) none) office stands;
    }),
    written,
  )

  -- where there is no answer, and its failure is written
  pub failed_served : {T E : Type 0} (r : Result T E) (now : Moment) (received : ReceivedRequest) (old new : O) (why : AnswerError) (IsWritten : List ℕ → Type 0)
      → LeavesOffice g None old new → OnOk r (FailureTextHolds why IsWritten) → OnOk r (Serves g now received old new IsWritten)
  failed_served (Ok x) now received old new why IsWritten leaves h = serves_failure now received old new h.0 IsWritten leaves h.2
  failed_served (Err e) now received old new why IsWritten leaves h = tt

  -- and where it is written in part
  pub failed_partly : {T : Type 0} (r : Result T ServeFault) (now : Moment) (received : ReceivedRequest) (old new : O) (why : AnswerError) (IsWritten : List ℕ → Type 0)
      → LeavesOffice g None old new → IfErr r (λ fault. fault ≡ Write → FailureTextHolds why IsWritten) → IfErr r (λ fault. fault ≡ Write → Serves g now received old new IsWritten)
  failed_partly (Ok x) now received old new why IsWritten leaves h = tt
  failed_partly (Err e) now received old new why IsWritten leaves h = λ is. let returned = h is in serves_failure now received old new returned.0 IsWritten leaves returned.2

module _ {O W : Type 0} (g : office.Ghosts O) (h : sink.Ghosts W) (now : Moment) (received : ReceivedRequest) (old new : O) (before after : W) where
  -- where there is an answer, and it is written
  pub answered_replies : {T E : Type 0} (written : Result T E) (returned : Result T ServeFault) (answered : Answered) → returned ≡ as_write written
      → (g.is_reliable new → (office : OfficeLists) → g.stands old office
      → IsAnswer (reply_in office now received) answered × g.stands new (office_after office (call_received office now received)))
      → MakesCall g now received old new
      → OnOk written (WritesText h before after (reply_text answered.status answered.body.items)) → OnErr written (WritesPart h before after (reply_text answered.status answered.body.items))
      → OnOk written (h.failures after ≡ h.failures before) → OnErr written (FailsWriting h before after)
      → Replies g h now received returned old new before after
  answered_replies written returned answered is done makes all part works failed = record {
    served = sent_well written returned is all (serves_reply g now received old new answered (WritesText h before after) done);
    partly = sent_badly written returned is part (serves_reply g now received old new answered (WritesPart h before after) done);
    unread = sent_read _ written returned is;
    makes = makes;
    works = sent_well written returned is works (λ same. same);
    failed = sent_badly written returned is failed (λ same. same);
  }

  -- where there is none, and its failure is written
  pub unanswered_replies : {T : Type 0} (returned : Result T ServeFault) (why : AnswerError) → (why ≡ CutOff → IsCutOff g received old new) → LeavesOffice g None old new
      → MakesCall g now received old new
      → OnOk returned (FailureTextHolds why (WritesText h before after)) → OnFault returned Write (FailureTextHolds why (WritesPart h before after)) → OnFault returned Read ((why ≡ CutOff) × (after ≡ before))
      → OnOk returned (h.failures after ≡ h.failures before) → OnFault returned Write (FailsWriting h before after)
      → Replies g h now received returned old new before after
  unanswered_replies returned why cause leaves makes all part unread works failed = record {
    served = failed_served g returned now received old new why (WritesText h before after) leaves all;
    partly = failed_partly g returned now received old new why (WritesPart h before after) leaves part;
    unread = on_read returned unread (λ it. (cause it.0, leaves, it.1));
    makes = makes;
    works = works;
    failed = failed;
  }

-- ---- one request

-- what a device did is not reported as a clock that gave no moment
pub served_no_clock : {T : Type 0} (returned : Result T ServeFault) → as_served returned ≡ Err Clock → ⊥
served_no_clock (Ok x) is = absurd (cc)
served_no_clock (Err fault) is = absurd (cc)
