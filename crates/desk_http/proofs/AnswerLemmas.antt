-- How what is asked of an office by one request joins.
use Rattle.std.proofs.Common.{◌≡◌, inl, inr, ℕ, true, List, [], ◌∷◌, Option, Some, None, Result, Ok, Err, refl, sym, ap, subst, ◌∙◌}
use Rattle.std.specs.Prelude.{IfErr, IfOk, OnErr, is_some}
use Rattle.any_office.proofs.OfficeHomeLemmas.{leaves_same, leaves_then}
use Rattle.any_office.specs.StoredOffice.{office_after}
use Rattle.any_office.specs.CrashedOffice.{CrashLeaves, LeadsOn, Reads, calls_answered}
use Rattle.any_office.specs.OfficeRuns.{LeavesOffice, calls_in}
use Rattle.any_office.specs.declared.Office as office
use Rattle.vocabulary.specs.declared.refusal.Refusal.{Refusal}
use Rattle.vocabulary.specs.declared.refusal.Refusal.TheVariants.{Key}
use Rattle.desk_words.specs.ViewTypes.{Moment}
use Rattle.desk_words.specs.declared.caller.Caller.{Caller}
use Rattle.desk_words.specs.declared.office.OfficeLists.{OfficeLists}
use Rattle.desk_words.specs.declared.reply.Reply.TheVariants as reply
use Rattle.desk_words.specs.declared.request.Call.{Call}
use Rattle.desk_words.specs.declared.request.Request.{Request}
use Rattle.http_requests.specs.declared.received.ReceivedRequest.{ReceivedRequest}
use Rattle.http_requests.specs.ReceivedRequests.{source_failed}
use Rattle.http_requests.specs.declared.received.ReceivedRequest.TheVariants.{Refused, With}
use Rattle.http_requests.specs.declared.received.ReceiveError.{ReceiveError}
use Rattle.http_requests.specs.declared.received.ReceiveError.TheVariants as unreceived
use Rattle.meeting_core.specs.KeyHolders.{caller_with}
use Rattle.desk_http.specs.AskedOffice.{asked_by, calls_tried}
use Rattle.desk_http.specs.HttpAnswers.{IsAnswer, IsCutOff, IsNoneOr, AnswerMayFail, MakesCall, ShowsReply, call_by, call_received, call_of, if_ok, reply_in, reply_of, unread_reply}
use Rattle.desk_http.specs.declared.answers.Answered.{Answered}
use Rattle.desk_http.specs.declared.answers.AnswerError.{AnswerError}
use Rattle.desk_http.specs.declared.answers.AnswerError.TheVariants as unanswered

-- ---- what is replied

module _ (Stands : OfficeLists → Type 0) (office : OfficeLists) (now : Moment) (stands : Stands office) where
  -- to an unreadable request of a caller
  pub unreceived_done : {E : Type 0} (who : Caller) (content : Result Request ReceiveError) (why : ReceiveError) (r : Result Answered E) → content ≡ Err why → IfOk r (IsAnswer (unread_reply why))
      → IfOk r (λ a. IsAnswer (reply_of office now (Some who) content) a × Stands (office_after office (call_of now (Some who) content)))
  unreceived_done who content why (Err e) is shown = tt
  unreceived_done who content why (Ok a) is shown =
      subst (λ h. IsAnswer (reply_of office now (Some who) h) a × Stands (office_after office (call_of now (Some who) h))) (sym is) (shown, stands)

  -- to a key that is nobody's
  pub nobody_done : {E : Type 0} (who : Option Caller) (content : Result Request ReceiveError) (r : Result Answered E) → who ≡ None → IfOk r (ShowsReply (reply.Refused Key))
      → IfOk r (λ a. IsAnswer (reply_of office now who content) a × Stands (office_after office (call_of now who content)))
  nobody_done who content (Err e) is shown = tt
  nobody_done who content (Ok a) is shown =
      subst (λ w. IsAnswer (reply_of office now w content) a × Stands (office_after office (call_of now w content))) (sym is) ((reply.Refused Key, refl, shown), stands)

  -- to what was refused as it came
  pub refused_done : {E : Type 0} (received : ReceivedRequest) (refusal : Refusal) (r : Result Answered E) → received ≡ Refused refusal → IfOk r (ShowsReply (reply.Refused refusal))
      → IfOk r (λ a. IsAnswer (reply_in office now received) a × Stands (office_after office (call_received office now received)))
  refused_done received refusal (Err e) is shown = tt
  refused_done received refusal (Ok a) is shown =
      subst (λ q. IsAnswer (reply_in office now q) a × Stands (office_after office (call_received office now q))) (sym is) ((reply.Refused refusal, refl, shown), stands)

if_ok_or_none : {T E : Type 0} (r : Result T E) (call : Option Call) → IsNoneOr (if_ok r call) call
if_ok_or_none (Ok x) call = inr refl
if_ok_or_none (Err e) call = inl refl

nobody_calls : (now : Moment) (received : ReceivedRequest) → call_by now None received ≡ None
nobody_calls now (Refused refusal) = refl
nobody_calls now (With key content) = refl

-- behind a reading, the one call is tried
tries_call : {T E : Type 0} (call : Option Call) (r : Result T E) → calls_tried (Reads ∷ asked_by call r) ≡ calls_in (call ∷ [])
tries_call None r = refl
tries_call (Some call) (Ok x) = refl
tries_call (Some call) (Err e) = refl

-- and it is answered where there is a result
answers_call : {T E : Type 0} (call : Option Call) (r : Result T E) → calls_answered (Reads ∷ asked_by call r) ≡ calls_in (if_ok r call ∷ [])
answers_call None (Ok x) = refl
answers_call None (Err e) = refl
answers_call (Some call) (Ok x) = refl
answers_call (Some call) (Err e) = refl

pub always_err : {T E : Type 0} {W : Type 0} (r : Result T E) → W → OnErr r W
always_err (Ok x) w = tt
always_err (Err e) w = w

-- what is not answered of a caller is cut off only where its source failed
pub fault_cut : (content : Result Request ReceiveError) (why : AnswerError) → AnswerMayFail content why → why ≡ unanswered.CutOff → source_failed content ≡ true
fault_cut (Ok request) why (failed, is) cut = let both : unanswered.Failure failed ≡ unanswered.CutOff = sym is ∙ cut in absurd (cc)
fault_cut (Err (unreceived.Refused refusal)) why is cut = let both = sym is ∙ cut in absurd (cc)
fault_cut (Err unreceived.Memory) why is cut = let both = sym is ∙ cut in absurd (cc)
fault_cut (Err unreceived.Failed) why is cut = refl

-- ---- what is left

module _ {O : Type 0} (g : office.Ghosts O) where
  -- an office that is not asked is left as it was
  pub not_asked : (o : O) → LeavesOffice g None o o
  not_asked o = leaves_same g.is_reliable g.is_open g.stands g.faults o

  -- nothing is asked
  pub makes_none : (now : Moment) (received : ReceivedRequest) (o : O) → MakesCall g now received o o
  makes_none now received o = record {
    asked = [];
    leads = refl;
    found = None;
    tries = ap (λ call. calls_in (call ∷ [])) (sym (nobody_calls now received));
    by = λ reliable office stands. inl (nobody_calls now received);
    made = None;
    answers = refl;
    is_tried = inl refl;
    leaves = not_asked o;
  }

  -- a key is read, and no call is tried
  pub makes_reading : (now : Moment) (received : ReceivedRequest) (old new : O) → LeavesOffice g None old new → (g.is_reliable new → CrashLeaves g Reads old new) → MakesCall g now received old new
  makes_reading now received old new leaves crash = record {
    asked = Reads ∷ [];
    leads = (new, leaves, crash, refl);
    found = None;
    tries = ap (λ call. calls_in (call ∷ [])) (sym (nobody_calls now received));
    by = λ reliable office stands. inl (nobody_calls now received);
    made = None;
    answers = refl;
    is_tried = inl refl;
    leaves = leaves;
  }

  -- the call is tried of the caller that was found, and made if it is answered
  pub makes_found : {T E : Type 0} (r : Result T E) (found : Option Caller) (now : Moment) (key : List ℕ) (content : Result Request ReceiveError) (a b c : O)
      → (g.is_reliable b → (office : OfficeLists) → g.stands a office → found ≡ caller_with office.keys key) → LeavesOffice g None a b → (g.is_reliable b → CrashLeaves g Reads a b)
      → LeavesOffice g (if_ok r (call_of now found content)) b c → LeadsOn g b (asked_by (call_of now found content) r) c
      → MakesCall g now (With key content) a c
  makes_found r found now key content a b c is one crash two leads = record {
    asked = Reads ∷ asked_by (call_of now found content) r;
    leads = (b, one, crash, leads);
    found = found;
    tries = tries_call (call_of now found content) r;
    by = λ reliable office stands. inr (ap (λ w. call_of now w content) (is (two.was_reliable reliable) office stands));
    made = if_ok r (call_of now found content);
    answers = answers_call (call_of now found content) r;
    is_tried = if_ok_or_none r (call_of now found content);
    leaves = leaves_then g.is_reliable g.is_open g.stands g.faults (if_ok r (call_of now found content)) a b c one two;
  }

  -- what failed behind a reading made no call
  pub unmade_behind : {T E : Type 0} (r : Result T E) (call : Option Call) (a b c : O) → LeavesOffice g None a b → LeavesOffice g (if_ok r call) b c → OnErr r (LeavesOffice g None a c)
  unmade_behind (Ok x) call a b c one two = tt
  unmade_behind (Err e) call a b c one two = leaves_then g.is_reliable g.is_open g.stands g.faults None a b c one two

  -- an unreadable request makes no call
  pub unreceived_leaves : {T E : Type 0} (o : O) (r : Result T E) (now : Moment) (who : Caller) (content : Result Request ReceiveError) (why : ReceiveError) → content ≡ Err why
      → LeavesOffice g (if_ok r (call_of now (Some who) content)) o o
  unreceived_leaves o (Err e) now who content why is = not_asked o
  unreceived_leaves o (Ok x) now who content why is = subst (λ h. LeavesOffice g (call_of now (Some who) h) o o) (sym is) (not_asked o)

  -- an unreadable request asks nothing
  pub unreceived_leads : {T E : Type 0} (o : O) (r : Result T E) (now : Moment) (who : Caller) (content : Result Request ReceiveError) (why : ReceiveError) → content ≡ Err why
      → LeadsOn g o (asked_by (call_of now (Some who) content) r) o
  unreceived_leads o r now who content why is = subst (λ h. LeadsOn g o (asked_by (call_of now (Some who) h) r) o) (sym is) refl

  -- of a caller that was found, it is cut off only where its source failed
  pub found_cut : {T : Type 0} (r : Result T AnswerError) (key : List ℕ) (content : Result Request ReceiveError) (who : Caller) (a b c : O)
      → (g.is_reliable b → (office : OfficeLists) → g.stands a office → Some who ≡ caller_with office.keys key) → (g.is_reliable c → g.is_reliable b) → IfErr r (AnswerMayFail content)
      → IfErr r (λ why. why ≡ unanswered.CutOff → IsCutOff g (With key content) a c)
  found_cut (Ok x) key content who a b c found reliable h = tt
  found_cut (Err why) key content who a b c found reliable h = λ cut. record {
    cut_off = fault_cut content why h cut;
    caller = λ is_reliable office stands. ap is_some (sym (found (reliable is_reliable) office stands));
  }
