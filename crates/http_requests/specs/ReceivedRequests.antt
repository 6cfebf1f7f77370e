-- What a request over HTTP spells.
use Rattle.std.specs.Prelude.{◌≡◌, ◌⊎◌, ℕ, ◌+◌, ◌-◌, ◌≤◌, List, length, Bool, true, false, IsTrue, Option, Some, None, Result, Ok, Err, IfSome, if◌then◌else◌, ⊤}
use Rattle.std.specs.Io.KnownBytes.{Consumes}
use Rattle.vocabulary.specs.declared.refusal.Refusal.{Refusal}
use Rattle.vocabulary.specs.declared.refusal.Refusal.TheVariants as refusal
use Rattle.desk_words.specs.declared.request.Request.{Request}
use Rattle.json_requests.specs.declared.ask.Ask.{Ask}
use Rattle.json_requests.specs.declared.ask.Ask.TheVariants as ask
use Rattle.http_heads.specs.Heads.{HeadContent, HasHead, IsFront, asked_of_head}
use Rattle.http_heads.specs.declared.front.Front.{Front}
use Rattle.http_heads.specs.declared.front.Front.TheVariants as front
use Rattle.http_heads.specs.declared.front.TheConstants.{LONGEST_HEAD, MOST_FIELDS}
use Rattle.http_heads.specs.declared.length.TheConstants.{LONGEST_BODY}
use Rattle.httparse.specs.Grammar.{RequestHead}
use Rattle.http_requests.specs.RequestOfHead.{front_of, is_whole, key_of_head, request_in, size_read}
use Rattle.http_requests.specs.declared.received.ReceivedRequest.{ReceivedRequest}
use Rattle.http_requests.specs.declared.received.ReceivedRequest.TheVariants.{Refused, With}
use Rattle.http_requests.specs.declared.received.ReceiveError.{ReceiveError}
use Rattle.http_requests.specs.declared.received.ReceiveError.TheVariants as unreceived

-- why nothing is asked, where the body was not read
abbrev pub unread_by : Ask → ReceiveError
unread_by (ask.Refused refusal) = unreceived.Refused refusal
unread_by ask.Memory = unreceived.Memory

-- it is refused so; memory is wanted for a body that is whole, and for nothing else; a source that
-- failed says nothing
abbrev pub IsWhy : Bool → Result Request Refusal → ReceiveError → Type 0
IsWhy whole said (unreceived.Refused refusal) = said ≡ Err refusal
IsWhy whole said unreceived.Memory = IsTrue whole
IsWhy whole said unreceived.Failed = ⊤

-- what is said, by a body that is whole or not, is received so
abbrev pub AgreesWith : Bool → Result Request Refusal → Result Request ReceiveError → Type 0
AgreesWith whole said (Ok request) = said ≡ Ok request
AgreesWith whole said (Err why) = IsWhy whole said why

-- with no key it is refused as `Key`, and else it is what is said with that key
abbrev pub IsWith : Option (List ℕ) → Bool → Result Request Refusal → ReceivedRequest → Type 0
IsWith None whole said received = received ≡ Refused refusal.Key
IsWith (Some key) whole said received =
    (content : Result Request ReceiveError)
    × (received ≡ With key content)
    × AgreesWith whole said content

-- what a head asks with the bytes behind it
abbrev pub HeadAsks : HeadContent → List ℕ → ReceivedRequest → Type 0
HeadAsks head behind received =
    IsWith (key_of_head head) (is_whole head behind) (request_in head behind) received

-- what is asked where an input has that front
abbrev pub SpellsAt : Front → List ℕ → ReceivedRequest → Type 0
SpellsAt front.Whole input received =
    (head : RequestHead) × (behind : List ℕ) × HasHead input head behind
    × (length head.fields ≤ MOST_FIELDS) × HeadAsks (asked_of_head head) behind received
SpellsAt front.TooLarge input received =
    IsFront front.TooLarge input × (received ≡ Refused refusal.TooLarge)
SpellsAt front.Unreadable input received =
    IsFront front.Unreadable input × (received ≡ Refused refusal.Unreadable)

-- what an input asks
abbrev pub Spells : List ℕ → ReceivedRequest → Type 0
Spells input received = (front : Front) × SpellsAt front input received

-- whether the source failed in the body
abbrev pub source_failed : Result Request ReceiveError → Bool
source_failed (Ok request) = false
source_failed (Err (unreceived.Refused refusal)) = false
source_failed (Err unreceived.Memory) = false
source_failed (Err unreceived.Failed) = true

abbrev pub is_cut_off : ReceivedRequest → Bool
is_cut_off (Refused refusal) = false
is_cut_off (With key content) = source_failed content

-- some bytes came of a source, no more than may be taken, and this holds of them, and of the whole
-- input where its bytes are known
pub record TakesAtMost (Holds Takes : List ℕ → Type 0) (known left : Option (List ℕ))
    (passed passed' : ℕ) : Type 0 where
  pub bytes : List ℕ
  pub consumed : Consumes known left bytes
  pub counted : passed' ≡ passed + length bytes
  pub taken : Takes bytes
  pub holds : Holds bytes
  pub holds_known : IfSome known Holds

-- the body stands at the front of the bytes, or, where it is not whole, those are too few
abbrev pub IsBody : Bool → List ℕ → List ℕ → Type 0
IsBody whole body bytes = front_of (length body) bytes ≡ (if whole then Some body else None)

-- the most bytes that are read of a body: none where the head alone is answered by `Route`,
-- `Method` or `TooLarge`
abbrev pub most_read : Result Request ReceiveError → ℕ
most_read (Err (unreceived.Refused refusal.Route)) = 0
most_read (Err (unreceived.Refused refusal.Method)) = 0
most_read (Err (unreceived.Refused refusal.TooLarge)) = 0
most_read content = LONGEST_BODY

-- nor where it is refused whoever sent it
abbrev pub most_body : ReceivedRequest → ℕ
most_body (Refused refusal) = 0
most_body (With key content) = most_read content

-- of a body of this size, of which a part came with the head, no more than the rest is read, nor
-- more than so many
pub record TakesBody (size : ℕ) (came : List ℕ) (most : ℕ) (bytes : List ℕ) : Type 0 where
  pub rest : length bytes ≤ size - length came
  pub bound : length bytes ≤ most

-- they are a head, and behind it no more bytes than its body has
abbrev pub EndInBody : List ℕ → Type 0
EndInBody bytes =
    (head : RequestHead) × (behind : List ℕ) × HasHead bytes head behind
    × (length behind ≤ size_read (asked_of_head head))

-- of a request at most 8,192 bytes are taken and the bytes of a body that is read; and none behind
-- the request, but for those that came with its head
pub record TakesRequest (received : ReceivedRequest) (bytes : List ℕ) : Type 0 where
  pub bound : length bytes ≤ LONGEST_HEAD + most_body received
  pub ends : (length bytes ≤ LONGEST_HEAD) ⊎ EndInBody bytes
