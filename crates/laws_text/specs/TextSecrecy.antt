-- What holds of the replies in runs holds of their texts, byte for byte.
use Rattle.std.specs.Prelude.{◌≡◌, ◌⊎◌, ℕ, not, List, IsTrue}
use Rattle.std.specs.List.{AllZip, list_all}
use Rattle.desk_words.specs.Changes.{empty_office}
use Rattle.desk_words.specs.ViewTypes.{Party}
use Rattle.desk_words.specs.declared.office.OfficeLists.{OfficeLists}
use Rattle.desk_words.specs.declared.reply.Declaration.{Declaration}
use Rattle.desk_words.specs.declared.reply.Reply.{Reply}
use Rattle.desk_words.specs.declared.reply.Reply.TheVariants.{Declared}
use Rattle.desk_words.specs.declared.request.Call.{Call}
use Rattle.meeting_core.specs.Step.{decided}
use Rattle.laws_run.specs.Isolation.{AreIndistinguishable}
use Rattle.laws_run.specs.NearParts.{Viewer}
use Rattle.laws_run.specs.RunSecrecy.{are_before}
use Rattle.laws_run.specs.Traces.{is_near_call, trace_of, viewer_of}
use Rattle.laws_run.specs.SecretCalls.{AreSameBut, Secret, is_secret_call, without}
use Rattle.laws_text.specs.Exchanges.{Exchange, AreTextsOfRun, asks_declaration, calls_made, is_call_by, is_open_call, texts_to}

-- the texts of a run from an office
pub record RunTexts (text_of : Reply → List ℕ) : Type 0 where
  pub office : OfficeLists
  pub exchanges : List Exchange
  pub states : AreTextsOfRun text_of office exchanges

-- the calls of the run
abbrev pub calls_of_texts : {text_of : Reply → List ℕ} → RunTexts text_of → List Call
calls_of_texts run = calls_made run.exchanges

-- the texts of two runs are isolated: where their calls show a viewer the same, those of the
-- replies to it are the same bytes, one for one
abbrev pub AreIsolatedTo : Viewer → OfficeLists → OfficeLists → List Exchange → List Exchange
    → Type 0
AreIsolatedTo viewer office other exchanged again =
    IsTrue (list_all (is_near_call viewer) (calls_made exchanged))
    → IsTrue (list_all (is_near_call viewer) (calls_made again))
    → trace_of decided viewer office (calls_made exchanged)
    ≡ trace_of decided viewer other (calls_made again)
    → texts_to (is_call_by viewer.party) exchanged ≡ texts_to (is_call_by viewer.party) again

-- from the office that holds nothing: where the calls of two runs show a party the same, with all
-- sources of either, the texts of the replies to it are the same bytes, one for one
abbrev pub AreIsolatedFromNothing : Party → List Exchange → List Exchange → Type 0
AreIsolatedFromNothing party exchanged again =
    let calls = calls_made exchanged in
    let later = calls_made again in
    let viewer = viewer_of party calls later in
    trace_of decided viewer empty_office calls ≡ trace_of decided viewer empty_office later
    → texts_to (is_call_by party) exchanged ≡ texts_to (is_call_by party) again

-- isolation: the texts of two runs are isolated, where the offices are one to the viewer
abbrev pub TextsAreIsolated : Type 0
TextsAreIsolated =
    (text_of : Reply → List ℕ) (viewer : Viewer) (one other : RunTexts text_of)
    → AreIndistinguishable viewer one.office other.office
    → AreIsolatedTo viewer one.office other.office one.exchanges other.exchanges

-- and so they are from the office that holds nothing
abbrev pub TextsFromNothingAreIsolated : Type 0
TextsFromNothingAreIsolated =
    (text_of : Reply → List ℕ) (party : Party) (one other : RunTexts text_of)
    → one.office ≡ empty_office → other.office ≡ empty_office
    → AreIsolatedFromNothing party one.exchanges other.exchanges

-- two texts show a result each
pub record AreBothResults (text_of : Reply → List ℕ) (one other : List ℕ) : Type 0 where
  pub result : Declaration
  pub again : Declaration
  pub first : one ≡ text_of (Declared result)
  pub second : other ≡ text_of (Declared again)

-- two texts are the same bytes, but where both show a result
abbrev pub AreSameButResult : (Reply → List ℕ) → List ℕ → List ℕ → Type 0
AreSameButResult text_of one other = (one ≡ other) ⊎ AreBothResults text_of one other

-- texts show the same of secret votes as others: those of the replies to the office are the same
-- bytes, one for one, but for the result where it asks for the declaration of the resolution; and
-- of calls that are made before that is declared, so are those to each party that is none of the
-- voters
pub record TextsAgree (text_of : Reply → List ℕ) (secret : Secret) (office : OfficeLists)
    (exchanged again : List Exchange) : Type 0 where
  pub office_exchanged : texts_to (is_open_call secret) exchanged
      ≡ texts_to (is_open_call secret) again
  pub declared : AllZip (AreSameButResult text_of) (texts_to (asks_declaration secret) exchanged)
      (texts_to (asks_declaration secret) again)
  pub parties : IsTrue (are_before decided secret office (calls_made exchanged)) → (party : Party)
      → IsTrue (not (secret.voters party))
      → texts_to (is_call_by party) exchanged ≡ texts_to (is_call_by party) again

-- the texts of two runs keep secret votes: where the calls differ in such votes alone, they show
-- the same of them
abbrev pub KeepSecret : (Reply → List ℕ) → Secret → OfficeLists → List Exchange → List Exchange
    → Type 0
KeepSecret text_of secret office exchanged again =
    without (is_secret_call secret) (calls_made exchanged)
    ≡ without (is_secret_call secret) (calls_made again)
    → TextsAgree text_of secret office exchanged again

-- secrecy: the texts of two runs do, where the offices are the same but for secret votes
abbrev pub TextsKeepSecrets : Type 0
TextsKeepSecrets =
    (text_of : Reply → List ℕ) (secret : Secret) (one other : RunTexts text_of)
    → AreSameBut secret one.office other.office
    → KeepSecret text_of secret one.office one.exchanges other.exchanges
