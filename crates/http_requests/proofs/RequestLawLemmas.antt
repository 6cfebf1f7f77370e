-- An input spells one thing at most.
use Rattle.std.proofs.Common.{◌≡◌, ℕ, ◌⊎◌, inl, inr, Bool, true, List, Option, Some, None, Result, Ok, Err, refl, sym, ap, subst, ◌∙◌}
use Rattle.vocabulary.specs.declared.refusal.Refusal.{Refusal}
use Rattle.desk_words.specs.declared.request.Request.{Request}
use Rattle.http_heads.specs.Heads.{IsCutInTarget, IsFront, asked_of_head}
use Rattle.http_heads.specs.HeadUniqueness.{HasOneFront, HasOneHead}
use Rattle.http_heads.specs.declared.front.Front.{Front}
use Rattle.http_heads.specs.declared.front.Front.TheVariants as front
use Rattle.http_requests.specs.RequestOfHead.{is_whole, key_of_head, request_in}
use Rattle.http_requests.specs.RequestUniqueness.{SpellsOne, is_definite, is_definite_received}
use Rattle.http_requests.specs.ReceivedRequests.{HeadAsks, AgreesWith, IsWith, SpellsAt}
use Rattle.http_requests.specs.declared.received.ReceivedRequest.{ReceivedRequest}
use Rattle.http_requests.specs.declared.received.ReceivedRequest.TheVariants.{With}
use Rattle.http_requests.specs.declared.received.ReceiveError.{ReceiveError}
use Rattle.http_requests.specs.declared.received.ReceiveError.TheVariants as unreceived

-- what is received where nothing fails
abbrev unreceived_of : Result Request Refusal → Result Request ReceiveError
unreceived_of (Ok request) = Ok request
unreceived_of (Err why) = Err (unreceived.Refused why)

-- what is received, where it is said
content-said : (whole : Bool) (said : Result Request Refusal) (content : Result Request ReceiveError) → AgreesWith whole said content → is_definite content ≡ true → content ≡ unreceived_of said
content-said whole said (Ok request) h definite = rw h refl
content-said whole said (Err (unreceived.Refused why)) h definite = rw h refl
content-said whole said (Err unreceived.Memory) h definite = absurd (cc)
content-said whole said (Err unreceived.Failed) h definite = absurd (cc)

with-one : (key : Option (List ℕ)) (whole : Bool) (said : Result Request Refusal) (a b : ReceivedRequest) → IsWith key whole said a → IsWith key whole said b → is_definite_received a ≡ true → is_definite_received b ≡ true → a ≡ b
with-one None whole said a b x y definite_a definite_b = x ∙ sym y
with-one (Some key) whole said a b (content, is, agrees) (other, is_other, agrees_other) definite_a definite_b =
    let one = content-said whole said content agrees (rw is at definite_a) in
    let two = content-said whole said other agrees_other (rw is_other at definite_b) in
    is ∙ ap (With key) (one ∙ sym two) ∙ sym is_other

same-front : HasOneHead → (input : List ℕ) (front : Front) (a b : ReceivedRequest) → SpellsAt front input a → SpellsAt front input b → is_definite_received a ≡ true → is_definite_received b ≡ true → a ≡ b
same-front one_head input front.Whole a b (head, behind, has, few, asks) (other, rest, has_other, few_other, asks_other) definite_a definite_b =
    let one = one_head input head other behind rest has has_other in
    let asks_here : HeadAsks (asked_of_head other) rest a = subst (λ h. HeadAsks (asked_of_head h) rest a) one.0 (subst (λ r. HeadAsks (asked_of_head head) r a) one.1 asks) in
    with-one (key_of_head (asked_of_head other)) (is_whole (asked_of_head other) rest) (request_in (asked_of_head other) rest) a b asks_here asks_other definite_a definite_b
same-front one_head input front.TooLarge a b (is, x) (is_other, y) definite_a definite_b = x ∙ sym y
same-front one_head input front.Unreadable a b (is, x) (is_other, y) definite_a definite_b = x ∙ sym y

front-is : (input : List ℕ) (front : Front) (a : ReceivedRequest) → SpellsAt front input a → IsFront front input
front-is input front.Whole a (head, behind, has, few, asks) = (head, behind, has, few)
front-is input front.TooLarge a (is, x) = is
front-is input front.Unreadable a (is, x) = is

by-front : HasOneHead → (input : List ℕ) (front other : Front) (a b : ReceivedRequest) → (front ≡ other) ⊎ IsCutInTarget input
    → SpellsAt front input a → SpellsAt other input b → is_definite_received a ≡ true → is_definite_received b ≡ true → (a ≡ b) ⊎ IsCutInTarget input
by-front one_head input front other a b (inl same) x y definite_a definite_b =
    inl (same-front one_head input other a b (subst (λ f. SpellsAt f input a) same x) y definite_a definite_b)
by-front one_head input front other a b (inr ends) x y definite_a definite_b = inr ends

pub spells-one : HasOneFront → HasOneHead → SpellsOne
spells-one one_front one_head input a b (front, x) (other, y) definite_a definite_b =
    by-front one_head input front other a b (one_front input front other (front-is input front a x) (front-is input other b y)) x y definite_a definite_b
