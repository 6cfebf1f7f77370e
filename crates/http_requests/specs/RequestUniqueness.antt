-- The law of requests over HTTP.
use Rattle.std.specs.Prelude.{◌≡◌, ◌⊎◌, ℕ, List, Bool, true, false, IsTrue, Result, Ok, Err}
use Rattle.desk_words.specs.declared.request.Request.{Request}
use Rattle.http_heads.specs.Heads.{IsCutInTarget}
use Rattle.http_requests.specs.ReceivedRequests.{Spells}
use Rattle.http_requests.specs.declared.received.ReceivedRequest.{ReceivedRequest}
use Rattle.http_requests.specs.declared.received.ReceivedRequest.TheVariants.{Refused, With}
use Rattle.http_requests.specs.declared.received.ReceiveError.{ReceiveError}
use Rattle.http_requests.specs.declared.received.ReceiveError.TheVariants as unreceived

-- whether it is what was asked, and not that memory ran out or the source failed
abbrev pub is_definite : Result Request ReceiveError → Bool
is_definite (Ok request) = true
is_definite (Err (unreceived.Refused refusal)) = true
is_definite (Err unreceived.Memory) = false
is_definite (Err unreceived.Failed) = false

abbrev pub is_definite_received : ReceivedRequest → Bool
is_definite_received (Refused refusal) = true
is_definite_received (With key content) = is_definite content

-- all that an input spells is one thing, but where its first 8,192 bytes hold no head and end
-- inside the target
abbrev pub SpellsOne : Type 0
SpellsOne =
    (input : List ℕ) (a b : ReceivedRequest) → Spells input a → Spells input b
    → IsTrue (is_definite_received a) → IsTrue (is_definite_received b)
    → (a ≡ b) ⊎ IsCutInTarget input
