-- What a reply over HTTP tells.
use Rattle.std.specs.Prelude.{◌≡◌, ◌⊎◌, ⊤, ℕ, List, Option, Some, None, Result, Ok, Err}
use Rattle.http_heads.specs.Heads.{IsCutInTarget}
use Rattle.desk_words.specs.ViewTypes.{Moment, Party}
use Rattle.desk_words.specs.declared.caller.Caller.{Caller}
use Rattle.desk_words.specs.declared.caller.Caller.TheVariants as caller
use Rattle.desk_words.specs.declared.office.OfficeLists.{OfficeLists}
use Rattle.desk_words.specs.declared.reply.Reply.{Reply}
use Rattle.desk_words.specs.declared.request.Request.{Request}
use Rattle.http_requests.specs.ReceivedRequests.{Spells}
use Rattle.http_requests.specs.declared.received.ReceivedRequest.{ReceivedRequest}
use Rattle.http_requests.specs.declared.received.ReceivedRequest.TheVariants.{Refused, With}
use Rattle.http_requests.specs.declared.received.ReceiveError.{ReceiveError}
use Rattle.meeting_core.specs.KeyHolders.{caller_with}
use Rattle.laws_step.specs.Worlds.{AgreeFor}
use Rattle.desk_http.specs.HttpAnswers.{reply_in}
use Rattle.desk_http.specs.Served.{replied_text}

-- two offices agree for a party on what it was received to ask
abbrev pub AgreeOnRequest :
    OfficeLists → OfficeLists → Moment → Party → Result Request ReceiveError → Type 0
AgreeOnRequest one other now party (Ok request) = AgreeFor one other party now request
AgreeOnRequest one other now party (Err why) = ⊤

-- a key is the same caller's in both, and where that is a party, they agree for it; of the office,
-- which may know all, nothing is said
abbrev pub AgreeTo :
    OfficeLists → OfficeLists → Moment → Option Caller → Option Caller → Result Request ReceiveError
    → Type 0
AgreeTo one other now None who content = who ≡ None
AgreeTo one other now (Some caller.Office) who content = ⊥
AgreeTo one other now (Some (caller.Party party)) who content =
    (who ≡ Some (caller.Party party)) × AgreeOnRequest one other now party content

-- two offices agree on all that the sender of what was received may know: that its key is the same
-- party's in both or nobody's, and, in the meeting in which it asks, on the public record and on
-- that party's own things
abbrev pub AgreeWith : OfficeLists → OfficeLists → Moment → ReceivedRequest → Type 0
AgreeWith one other now (Refused refusal) = ⊤
AgreeWith one other now (With key content) =
    AgreeTo one other now (caller_with one.keys key) (caller_with other.keys key) content

-- such offices reply alike
abbrev pub RepliesShowNoMore : Type 0
RepliesShowNoMore =
    (one other : OfficeLists) (now : Moment) (received : ReceivedRequest)
    → AgreeWith one other now received
    → reply_in one now received ≡ reply_in other now received

-- from bytes to bytes: where the same bytes came to both, the texts of their replies are the same
-- bytes, but where the first 8,192 bytes hold no head and end inside the target
abbrev pub TextsShowNoMore : Type 0
TextsShowNoMore =
    (one other : OfficeLists) (now : Moment) (input : List ℕ) (a b : ReceivedRequest)
    → Spells input a → Spells input b
    → AgreeWith one other now a
    → (x y : Reply) → reply_in one now a ≡ Some x → reply_in other now b ≡ Some y
    → (replied_text x ≡ replied_text y) ⊎ IsCutInTarget input
