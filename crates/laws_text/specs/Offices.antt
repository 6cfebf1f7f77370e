-- What an office tells, wherever it is stored, one call after another.
use Rattle.std.specs.Prelude.{◌≡◌, ◌⊎◌, ⊤, ℕ, List, [], ◌∷◌, Option, Some, None, option_map, Result, Ok, Err}
use Rattle.std.specs.declared.alloc.Global.{Global}
use Rattle.std.specs.declared.vec.Vec.{Vec}
use Rattle.any_office.specs.StoredOffice.{office_after}
use Rattle.any_office.specs.declared.Office as office
use Rattle.desk_words.specs.Changes.{empty_office}
use Rattle.desk_words.specs.ViewTypes.{Party}
use Rattle.desk_words.specs.declared.office.OfficeLists.{OfficeLists}
use Rattle.desk_words.specs.declared.reply.Failure.{Failure}
use Rattle.desk_words.specs.declared.reply.Reply.{Reply}
use Rattle.desk_words.specs.declared.request.Call.{Call}
use Rattle.json_replies.specs.Replies.{failure_bytes, reply_bytes}
use Rattle.meeting_core.specs.Step.{decided, run_of}
use Rattle.laws_run.specs.Isolation.{AreIndistinguishable}
use Rattle.laws_run.specs.NearParts.{Viewer}
use Rattle.laws_run.specs.SecretCalls.{AreSameBut, Secret}
use Rattle.laws_text.specs.Exchanges.{Exchange}
use Rattle.laws_text.specs.TextSecrecy.{AreIsolatedFromNothing, AreIsolatedTo, KeepSecret, RunTexts, calls_of_texts}

-- how a reply is written, and that a failure is the answer
pub record Writing : Type 0 where
  pub reply : Reply → List ℕ
  pub failure : Failure → List ℕ

-- what is asked comes to a call, or to a reply without one, as to nobody's key, or to nothing, as
-- where its source failed
pub data AskedEffect : Type 0 where
  Makes : Call → AskedEffect
  RepliesWith : Reply → AskedEffect
  Nothing : AskedEffect

-- the call that is made of it
abbrev pub call_made : AskedEffect → Option Call
call_made (Makes call) = Some call
call_made (RepliesWith reply) = None
call_made Nothing = None

-- the reply to it in an office
abbrev pub reply_to : OfficeLists → AskedEffect → Option Reply
reply_to office (Makes call) = Some (decided office call).reply
reply_to office (RepliesWith reply) = Some reply
reply_to office Nothing = None

-- what was asked, by the office that is stored, and the text that was written
pub record AskedText : Type 0 where
  pub asks : OfficeLists → AskedEffect
  pub text : List ℕ

-- the text is that of the reply in the office, and the call was made
pub record HasReply (writing : Writing) (office : OfficeLists) (asked : AskedText) (e : Exchange)
    : Type 0 where
  pub text : option_map writing.reply (reply_to office (asked.asks office)) ≡ Some e.text
  pub made : e.made ≡ call_made (asked.asks office)

-- the text reports a failure, and no call was made
pub record HasFailure (writing : Writing) (e : Exchange) : Type 0 where
  pub failure : Failure
  pub text : e.text ≡ writing.failure failure
  pub made : e.made ≡ None

-- the exchange is of what was asked in an office
pub record IsOf (writing : Writing) (office : OfficeLists) (asked : AskedText) (e : Exchange)
    : Type 0 where
  pub same : e.text ≡ asked.text
  pub is : HasReply writing office asked e ⊎ HasFailure writing e

-- what was asked is answered in an office, and the office stored then is the one after the call,
-- if it was made
pub record IsAnsweredInOffice {O : Type 0} (g : office.Ghosts O) (writing : Writing)
    (asked : AskedText)
    (before : OfficeLists) (new : O) : Type 0 where
  pub exchange : Exchange
  pub of : IsOf writing before asked exchange
  pub stands : g.stands new (office_after before exchange.made)

-- what was asked is answered: no failure is made good, and nothing is opened again; and it is
-- answered in the office that was stored
pub record IsAnsweredStored {O : Type 0} (g : office.Ghosts O) (writing : Writing)
    (asked : AskedText)
    (old new : O) : Type 0 where
  pub was_reliable : g.is_reliable new → g.is_reliable old
  pub was_open : g.is_reliable new → g.is_open new → g.is_open old
  pub exchanged : g.is_reliable new → g.is_open new → (before : OfficeLists) → g.stands old before
      → IsAnsweredInOffice g writing asked before new

-- one after another
abbrev pub AreAnsweredStored : {O : Type 0} → office.Ghosts O → Writing → O → List AskedText → O
    → Type 0
AreAnsweredStored g writing old [] new = new ≡ old
AreAnsweredStored {O} g writing old (asked ∷ later) new =
    (between : O)
    × IsAnsweredStored g writing asked old between
    × AreAnsweredStored g writing between later new

-- the exchanges are of what was asked, each in the office after those before it
abbrev pub AreOf : Writing → OfficeLists → List AskedText → List Exchange → Type 0
AreOf writing office [] [] = ⊤
AreOf writing office [] (e ∷ exchanges) = ⊥
AreOf writing office (asked ∷ later) [] = ⊥
AreOf writing office (asked ∷ later) (e ∷ exchanges) =
    IsOf writing office asked e × AreOf writing (office_after office e.made) later exchanges

-- the answers to what was asked are a run from an office, and the office stored is the one after
-- the run
pub record HasAnsweredARun {O : Type 0} (g : office.Ghosts O) (writing : Writing)
    (first : OfficeLists) (asked : List AskedText) (new : O) : Type 0 where
  pub run : RunTexts writing.reply
  pub begins : run.office ≡ first
  pub of : AreOf writing first asked run.exchanges
  pub stands : g.stands new (run_of first (calls_of_texts run)).office

-- where an office was stored, and what was asked was answered one after another, up to one that is
-- reliable and open, the answers are a run
abbrev pub OfficesAnswerRuns : {O : Type 0} → office.Ghosts O → Type 0
OfficesAnswerRuns {O} g =
    (writing : Writing) (old new : O) (asked : List AskedText)
    → AreAnsweredStored g writing old asked new → g.is_reliable new → g.is_open new
    → (first : OfficeLists) → g.stands old first → HasAnsweredARun g writing first asked new

-- ---- the texts of two offices

-- isolation: from the office that holds nothing, where the calls that were made on two offices show
-- a party the same, with all sources of either, the texts of the replies to it are the same bytes,
-- one for one
abbrev pub OfficesAreIsolated : {O : Type 0} → office.Ghosts O → Type 0
OfficesAreIsolated {O} g =
    (writing : Writing) (party : Party) (asked again : List AskedText) (left preserved : O)
    → (exchanged : HasAnsweredARun g writing empty_office asked left)
    → (later : HasAnsweredARun g writing empty_office again preserved)
    → AreIsolatedFromNothing party exchanged.run.exchanges later.run.exchanges

-- and from any two offices: where they are one to a party, and the calls that were made there show
-- it the same
abbrev pub AlikeOfficesAreIsolated : {O : Type 0} → office.Ghosts O → Type 0
AlikeOfficesAreIsolated {O} g =
    (writing : Writing) (viewer : Viewer) (one other : OfficeLists) (asked again : List AskedText)
    (left preserved : O)
    → (exchanged : HasAnsweredARun g writing one asked left)
    → (later : HasAnsweredARun g writing other again preserved)
    → AreIndistinguishable viewer one other
    → AreIsolatedTo viewer one other exchanged.run.exchanges later.run.exchanges

-- secrecy: where they are the same but for secret votes, and the calls that were made there differ
-- in such votes alone, they show the same of them
abbrev pub OfficesKeepSecrets : {O : Type 0} → office.Ghosts O → Type 0
OfficesKeepSecrets {O} g =
    (writing : Writing) (secret : Secret) (one other : OfficeLists) (asked again : List AskedText)
    (left preserved : O)
    → (exchanged : HasAnsweredARun g writing one asked left)
    → (later : HasAnsweredARun g writing other again preserved)
    → AreSameBut secret one other
    → KeepSecret writing.reply secret one exchanged.run.exchanges later.run.exchanges

-- ---- one call

-- replies and failures are written as JSON
abbrev pub as_json : Writing
as_json = record { reply = reply_bytes; failure = failure_bytes }

-- the text of a reply, or that of a failure
abbrev pub text_shown : Result (Vec ℕ Global) Failure → List ℕ
text_shown (Ok text) = text.items
text_shown (Err failure) = failure_bytes failure

-- a call that was asked, and what was shown of the answer
abbrev pub asked_by_call : Call → Result (Vec ℕ Global) Failure → AskedText
asked_by_call call result = record { asks = λ office. Makes call; text = text_shown result }
