-- What an office tells is a run.
use Rattle.std.proofs.Common.{◌≡◌, ◌⊎◌, inl, inr, ℕ, List, [], ◌∷◌, refl, ap, sym, ◌∙◌, subst}
use Rattle.std.specs.Prelude.{Option, Some, None, option_map, Result, Ok, Err, IfOk}
use Rattle.std.specs.declared.alloc.Global.{Global}
use Rattle.std.specs.declared.vec.Vec.{Vec}
use Rattle.any_office.specs.StoredOffice.{HoldsOfOffice, made_by, office_after}
use Rattle.any_office.specs.OfficeRuns.{LeavesOffice}
use Rattle.any_office.specs.declared.Office as office
use Rattle.desk_words.specs.declared.caller.Caller.{Caller}
use Rattle.desk_words.specs.declared.office.OfficeLists.{OfficeLists}
use Rattle.desk_words.specs.declared.reply.Failure.{Failure}
use Rattle.desk_words.specs.declared.reply.Reply.{Reply}
use Rattle.desk_words.specs.declared.request.Call.{Call}
use Rattle.desk_words.specs.declared.request.Request.{Request}
use Rattle.http_requests.specs.declared.received.ReceivedRequest.{ReceivedRequest}
use Rattle.http_requests.specs.declared.received.ReceivedRequest.TheVariants.{Refused, With}
use Rattle.http_requests.specs.declared.received.ReceiveError.{ReceiveError}
use Rattle.json_replies.specs.Replies.{failure_bytes, reply_bytes}
use Rattle.desk_http.specs.HttpAnswers.{call_received, call_of, reply_in, reply_of}
use Rattle.desk_http.specs.Served.{IsServed, replied_text}
use Rattle.meeting_core.specs.KeyHolders.{caller_with}
use Rattle.meeting_core.specs.Step.{decided, run_of}
use Rattle.laws_text.specs.Connections.{as_http, asked_on, asks_by}
use Rattle.laws_text.specs.Offices.{AlikeOfficesAreIsolated, AreAnsweredStored, AskedText, AskedEffect, HasFailure, HasReply, HasAnsweredARun, IsOf, IsAnsweredStored, IsAnsweredInOffice, Makes, Nothing, OfficesAreIsolated, OfficesKeepSecrets, OfficesAnswerRuns, RepliesWith, Writing, as_json, asked_by_call, call_made, reply_to}
use Rattle.laws_text.specs.Exchanges.{Exchange, AreTextsOfRun, calls_made}
use Rattle.laws_text.specs.TextSecrecy.{AreIsolatedTo, KeepSecret, TextsAreIsolated, TextsFromNothingAreIsolated, TextsKeepSecrets}
use Rattle.laws_run.specs.Isolation.{AreIndistinguishable}
use Rattle.laws_run.specs.SecretCalls.{AreSameBut}

-- ---- one exchange more

-- an exchange, in front of those that tell the run after its call
states-more : (replied_text : Reply → List ℕ) (office : OfficeLists) (made : Option Call) (text : List ℕ) (later : List Exchange) → ((call : Call) → made ≡ Some call → text ≡ replied_text (decided office call).reply)
    → AreTextsOfRun replied_text (office_after office made) later → AreTextsOfRun replied_text office (record { made = made; text = text } ∷ later)
states-more replied_text office None text later exchanged states = states
states-more replied_text office (Some call) text later exchanged states = let first = exchanged call refl in λ i. first i ∷ states i

-- the run of the calls that were made, behind one more, if one was
run-more : (office : OfficeLists) (made : Option Call) (text : List ℕ) (later : List Exchange) → (run_of (office_after office made) (calls_made later)).office ≡ (run_of office (calls_made (record { made = made; text = text } ∷ later))).office
run-more office None text later = refl
run-more office (Some call) text later = refl

-- the call that was made, of what is replied to
replied-made : (replied_text : Reply → List ℕ) (office : OfficeLists) (asks : AskedEffect) (text : List ℕ) (call : Call) → option_map replied_text (reply_to office asks) ≡ Some text → call_made asks ≡ Some call
    → text ≡ replied_text (decided office call).reply
replied-made replied_text office (Makes made) text call exchanged is =
    let same : made ≡ call = cc in
    let exchanged_it : replied_text (decided office made).reply ≡ text = cc in
    sym exchanged_it ∙ ap (λ (c : Call). replied_text (decided office c).reply) same
replied-made replied_text office (RepliesWith reply) text call exchanged is = absurd (cc)
replied-made replied_text office Nothing text call exchanged is = absurd (cc)

made-exchanged : (writing : Writing) (office : OfficeLists) (a : AskedText) (e : Exchange) → IsOf writing office a e → (call : Call) → e.made ≡ Some call → e.text ≡ writing.reply (decided office call).reply
made-exchanged writing office a e of call is = by of.is
  where
    by : HasReply writing office a e ⊎ HasFailure writing e → e.text ≡ writing.reply (decided office call).reply
    by (inl replied) = replied-made writing.reply office (a.asks office) e.text call replied.text (sym replied.made ∙ is)
    by (inr failed) = let none : None ≡ Some call = sym failed.made ∙ is in absurd (cc)

module _ {O : Type 0} (g : office.Ghosts O) where
  pub exchanged-more : (writing : Writing) (first : OfficeLists) (a : AskedText) (later : List AskedText) (between new : O) → (exchanged : IsAnsweredInOffice g writing a first between)
      → HasAnsweredARun g writing (office_after first exchanged.exchange.made) later new → HasAnsweredARun g writing first (a ∷ later) new
  exchanged-more writing first a later between new exchanged rest =
      let e = exchanged.exchange in record {
        run = record {
          office = first;
          exchanges = e ∷ rest.run.exchanges;
          states = states-more writing.reply first e.made e.text rest.run.exchanges (made-exchanged writing first a e exchanged.of)
              (subst (λ o. AreTextsOfRun writing.reply o rest.run.exchanges) rest.begins rest.run.states);
        };
        begins = refl;
        of = (exchanged.of, rest.of);
        stands = subst (g.stands new) (run-more first e.made e.text rest.run.exchanges) rest.stands;
      }

  was_reliable : (writing : Writing) (old new : O) (asked : List AskedText) → AreAnsweredStored g writing old asked new → g.is_reliable new → g.is_reliable old
  was_reliable writing old new [] exchanged reliable = subst g.is_reliable exchanged reliable
  was_reliable writing old new (a ∷ later) exchanged reliable = exchanged.1.was_reliable (was_reliable writing exchanged.0 new later exchanged.2 reliable)

  was_open : (writing : Writing) (old new : O) (asked : List AskedText) → AreAnsweredStored g writing old asked new → g.is_reliable new → g.is_open new → g.is_open old
  was_open writing old new [] exchanged reliable is_open = subst g.is_open exchanged is_open
  was_open writing old new (a ∷ later) exchanged reliable is_open =
      exchanged.1.was_open (was_reliable writing exchanged.0 new later exchanged.2 reliable) (was_open writing exchanged.0 new later exchanged.2 reliable is_open)

  pub offices_answer : OfficesAnswerRuns g
  offices_answer writing old new [] exchanged reliable is_open first stands = record {
    run = record { office = first; exchanges = []; states = refl };
    begins = refl;
    of = tt;
    stands = subst (λ (o : O). g.stands o first) (sym exchanged) stands;
  }
  offices_answer writing old new (a ∷ later) exchanged reliable is_open first stands =
      let mid_reliable = was_reliable writing exchanged.0 new later exchanged.2 reliable in
      let mid_open = was_open writing exchanged.0 new later exchanged.2 reliable is_open in
      let one = exchanged.1.exchanged mid_reliable mid_open first stands in
      exchanged-more writing first a later exchanged.0 new one
      (offices_answer writing exchanged.0 new later exchanged.2 reliable is_open (office_after first one.exchange.made) one.stands)

-- ---- two offices

module _ {O : Type 0} (g : office.Ghosts O) where
  pub offices_isolated : TextsFromNothingAreIsolated → OfficesAreIsolated g
  offices_isolated law writing party asked again left preserved exchanged later = law writing.reply party exchanged.run later.run exchanged.begins later.begins

  pub alike_offices_isolated : TextsAreIsolated → AlikeOfficesAreIsolated g
  alike_offices_isolated law writing viewer one other asked again left preserved exchanged later =
      let run = exchanged.run in
      let more = later.run in
      subst (λ o. AreIndistinguishable viewer one o → AreIsolatedTo viewer one o run.exchanges more.exchanges) later.begins
      (subst (λ o. AreIndistinguishable viewer o more.office → AreIsolatedTo viewer o more.office run.exchanges more.exchanges) exchanged.begins (law writing.reply viewer run more))

  pub offices_keep_secrets : TextsKeepSecrets → OfficesKeepSecrets g
  offices_keep_secrets law writing secret one other asked again left preserved exchanged later =
      let run = exchanged.run in
      let more = later.run in
      subst (λ o. AreSameBut secret one o → KeepSecret writing.reply secret one run.exchanges more.exchanges) later.begins
      (subst (λ o. AreSameBut secret o more.office → KeepSecret writing.reply secret o run.exchanges more.exchanges) exchanged.begins (law writing.reply secret run more))

-- ---- over HTTP

-- the reply to a call that is made of what was received is what is decided of it
replied-call : (office : OfficeLists) (now : ℕ) (received : ReceivedRequest) (call : Call) (reply : Reply) → call_received office now received ≡ Some call → reply_in office now received ≡ Some reply
    → reply ≡ (decided office call).reply
replied-call office now (Refused refusal) call reply made is = absurd (cc)
replied-call office now (With key content) call reply made is = by (caller_with office.keys key) content made is
  where
    by : (who : Option Caller) (content : Result Request ReceiveError) → call_of now who content ≡ Some call → reply_of office now who content ≡ Some reply → reply ≡ (decided office call).reply
    by None content made is = absurd (cc)
    by (Some who) (Ok request) made is =
        let same : record { moment = now; caller = who; request = request } ≡ call = cc in
        let exchanged : (decided office (record { moment = now; caller = who; request = request })).reply ≡ reply = cc in
        sym exchanged ∙ ap (λ (c : Call). (decided office c).reply) same
    by (Some who) (Err why) made is = absurd (cc)

-- what comes to a call, or to a reply
made-by : (call : Option Call) (reply : Option Reply) → call_made (asks_by call reply) ≡ call
made-by (Some call) reply = refl
made-by None (Some reply) = refl
made-by None None = refl

replied-by : (office : OfficeLists) (call : Option Call) (reply : Reply) → ((c : Call) → call ≡ Some c → reply ≡ (decided office c).reply) → reply_to office (asks_by call (Some reply)) ≡ Some reply
replied-by office (Some call) reply same = ap (λ r. Some r) (sym (same call refl))
replied-by office None reply same = refl

module _ {O : Type 0} (g : office.Ghosts O) where
  pub served-exchanged : (now : ℕ) (received : ReceivedRequest) (first : OfficeLists) (old new : O) (text : List ℕ) → g.is_open new → IsServed g first now received old new text
      → IsAnsweredInOffice g as_http (asked_on now received text) first new
  served-exchanged now received first old new text is_open (inl replied) = record {
    exchange = record { made = call_received first now received; text = text };
    of = record {
      same = refl;
      is = inl (record {
        text = ap (λ reply. option_map replied_text (reply_to first (asks_by (call_received first now received) reply))) replied.is
            ∙ ap (option_map replied_text) (replied-by first (call_received first now received) replied.reply (λ c made. replied-call first now received c replied.reply made replied.is))
            ∙ ap (λ t. Some t) (sym replied.text_is);
        made = sym (made-by (call_received first now received) (reply_in first now received));
      });
    };
    stands = replied.stands;
  }
  served-exchanged now received first old new text is_open (inr failed) = record {
    exchange = record { made = None; text = text };
    of = record { same = refl; is = inr (record { failure = failed.failure; text = failed.text_is; made = refl }) };
    stands = failed.same is_open;
  }

-- ---- by perform

module _ {O : Type 0} (g : office.Ghosts O) where
  -- a call that was made and whose text is that of its reply, or that failed, is answered so
  pub call_exchanged : (call : Call) (result : Result (Vec ℕ Global) Failure) (old new : O)
      → HoldsOfOffice g.is_reliable g.stands old new (λ before. IfOk result (λ (text : Vec ℕ Global). text.items ≡ reply_bytes (decided before call).reply))
      → LeavesOffice g (made_by result call) old new → IsAnsweredStored g as_json (asked_by_call call result) old new
  call_exchanged call (Ok text) old new done leaves = record {
    was_reliable = leaves.was_reliable;
    was_open = leaves.was_open;
    exchanged = λ reliable is_open first stands. record {
      exchange = record { made = Some call; text = text.items };
      of = record { same = refl; is = inl (record { text = ap (λ t. Some t) (sym (done reliable first stands)); made = refl }) };
      stands = leaves.stands reliable is_open first stands;
    };
  }
  call_exchanged call (Err failure) old new done leaves = record {
    was_reliable = leaves.was_reliable;
    was_open = leaves.was_open;
    exchanged = λ reliable is_open first stands. record {
      exchange = record { made = None; text = failure_bytes failure };
      of = record { same = refl; is = inr (record { failure = failure; text = refl; made = refl }) };
      stands = leaves.stands reliable is_open first stands;
    };
  }
