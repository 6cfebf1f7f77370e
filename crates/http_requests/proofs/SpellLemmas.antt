-- What an input spells.
use Rattle.std.proofs.Common.{◌≡◌, ◌⊎◌, inl, inr, ℕ, ◌-◌, ◌≤◌, Bool, true, false, List, [], ◌++◌, Option, Some, None, Ok, Err, Result, length, refl, ap, subst, ◌∙◌, arith, append_assoc, length-append}
use Rattle.std.specs.Prelude.{IfSome, nat_le}
use Rattle.std.proofs.lemmas.Bool.Decides.{nat_tests}
use Rattle.vocabulary.specs.ResultSteps.{◌>>=◌}
use Rattle.std.specs.Result.{IsErrAnd}
use Rattle.std.proofs.lemmas.List.{append-nil}
use Rattle.byte_io.proofs.BytesChained.{Consumes-chained}
use Rattle.vocabulary.specs.declared.refusal.Refusal.{Refusal}
use Rattle.vocabulary.specs.declared.refusal.Refusal.TheVariants as refusal
use Rattle.desk_words.specs.declared.request.Request.{Request}
use Rattle.json_requests.specs.RefusalResults.{or_unreadable}
use Rattle.json_requests.specs.Requests.{asked_on_route}
use Rattle.json_requests.specs.declared.route.Route.{Route}
use Rattle.http_heads.specs.Heads.{HeadContent, HeadBuffer, HoldsHead, ReceivesBytes, Finds, FindsKnown}
use Rattle.http_heads.specs.declared.front.Front.TheVariants as front
use Rattle.http_heads.specs.declared.front.TheConstants.{LONGEST_HEAD}
use Rattle.http_heads.specs.declared.length.TheConstants.{LONGEST_BODY}
use Rattle.httparse.specs.Grammar.{print_request}
use Rattle.http_requests.specs.RequestOfHead.{front_of, has_front, is_whole, request_by, request_in, size_on, size_read, way_in}
use Rattle.http_requests.specs.ReceivedRequests.{EndInBody, HeadAsks, TakesAtMost, AgreesWith, IsBody, Spells, TakesBody, TakesRequest, most_body, most_read}
use Rattle.http_requests.specs.declared.head_request.Way.{Way}
use Rattle.http_requests.specs.declared.received.ReceivedRequest.{ReceivedRequest}
use Rattle.http_requests.specs.declared.received.ReceivedRequest.TheVariants.{Refused}
use Rattle.http_requests.specs.declared.received.ReceiveError.{ReceiveError}
use Rattle.http_requests.specs.declared.received.ReceiveError.TheVariants as unreceived
use Rattle.http_requests.proofs.CameLemmas.{came-read}

-- ---- what is asked

-- with a whole body the request is what the body says
pub asked-whole : (route : Route) (body behind : List ℕ) (content : Result Request ReceiveError) → IsBody true body behind
    → AgreesWith true (or_unreadable (asked_on_route route body)) content → AgreesWith (has_front (length body) behind) (request_by route (length body) behind) content
unfolding request_by
asked-whole route body behind content is h = rw is h

-- with bytes that are too few it is unreadable
pub asked-short : (route : Route) (body behind : List ℕ) → IsBody false body behind → request_by route (length body) behind ≡ Err refusal.Unreadable
unfolding request_by
asked-short route body behind is = rw is refl

-- on the way of a head
pub asked-way : (head : HeadContent) (way : Way) (rest behind bytes : List ℕ) (content : Result Request ReceiveError) → way_in head ≡ Ok way → behind ≡ rest
    → AgreesWith (has_front way.size (behind ++ bytes)) (request_by way.route way.size (behind ++ bytes)) content → AgreesWith (is_whole head (rest ++ bytes)) (request_in head (rest ++ bytes)) content
unfolding request_in
asked-way head way rest behind bytes content is same h = rw (is, ← same) h

-- and what has none is refused
pub asked-nowhere : (head : HeadContent) (why : Refusal) (behind : List ℕ) (content : Result Request ReceiveError) → way_in head ≡ Err why
    → IsErrAnd content (λ e. e ≡ unreceived.Refused why) → AgreesWith (is_whole head behind) (request_in head behind) content
unfolding request_in
asked-nowhere head why behind (Ok request) is h = absurd h
asked-nowhere head why behind (Err e) is h = rw (h, is) refl

-- ---- how many bytes are read of a body

readable-why : {A : Type 0} (found : Option A) (why : Refusal) → or_unreadable found ≡ Err why → why ≡ refusal.Unreadable
readable-why None why is = cc
readable-why (Some x) why is = absurd (cc)

-- what a body is refused for is that it is unreadable
unreadable-why : (route : Route) (size : ℕ) (behind : List ℕ) (why : Refusal) → request_by route size behind ≡ Err why → why ≡ refusal.Unreadable
unfolding request_by
unreadable-why route size behind why is = by (front_of size behind) is
  where
    by : (found : Option (List ℕ)) → (or_unreadable found >>= (λ body. or_unreadable (asked_on_route route body))) ≡ Err why → why ≡ refusal.Unreadable
    by None e = cc
    by (Some body) e = readable-why (asked_on_route route body) why e

read-whole : (whole : Bool) (route : Route) (size : ℕ) (behind : List ℕ) (content : Result Request ReceiveError) → AgreesWith whole (request_by route size behind) content → most_read content ≡ LONGEST_BODY
read-whole whole route size behind (Ok request) h = refl
read-whole whole route size behind (Err (unreceived.Refused why)) h = ap (λ w. most_read (Err (unreceived.Refused w))) (unreadable-why route size behind why h)
read-whole whole route size behind (Err unreceived.Memory) h = refl
read-whole whole route size behind (Err unreceived.Failed) h = refl

-- of no body
pub takes-nothing : (size most : ℕ) (came : List ℕ) → TakesBody size came most []
takes-nothing size most came = record { rest = omega arith; bound = omega arith }

-- of a body on a way
pub takes-way : (whole : Bool) (way : Result Way Refusal) (on : Way) (rest behind bytes more : List ℕ) (content : Result Request ReceiveError) → way ≡ Ok on → on.size ≤ LONGEST_BODY → behind ≡ rest
    → AgreesWith whole (request_by on.route on.size more) content → length bytes ≤ on.size - length behind → TakesBody (size_on way) rest (most_read content) bytes
takes-way whole way on rest behind bytes more content is within same agrees few =
    let most = read-whole whole on.route on.size more content agrees in
    let size : size_on way ≡ on.size = ap size_on is in
    record { rest = omega (arith, few, size, ap length same); bound = omega (arith, few, within, most) }

-- ---- what is spelled

head-more : {input left : List ℕ} {held : HeadBuffer} (received : ReceivedRequest) → (holds : HoldsHead input left held) → HeadAsks held.asked (held.rest ++ left) received → Spells input received
head-more {input} {left} {held} received holds asks =
    let asks_head = subst (λ asked. HeadAsks asked (held.rest ++ left) received) holds.asked asks in
    (front.Whole, (holds.head, held.rest ++ left, holds.is_head, holds.few, asks_head))

-- the same head stands in front of more bytes
held-more : (held : HeadBuffer) (more : List ℕ) → HoldsHead held.bytes [] held → HoldsHead (held.bytes ++ more) more held
held-more held more holds =
    let rest : held.rest ++ [] ≡ held.rest = append-nil held.rest in
    let reads = holds.is_head.reads in
    record {
      head = holds.head;
      is_head = record {
        reads = (reads.0, ap (λ l. l ++ more) (reads.1 ∙ ap (λ l. print_request holds.head ++ l) rest) ∙ append_assoc (print_request holds.head) held.rest more);
        fits = holds.is_head.fits;
      };
      few = holds.few;
      asked = holds.asked;
    }

whole-known : (held : HeadBuffer) (received : ReceivedRequest) (a b : Option (List ℕ)) → FindsKnown front.Whole [] a b held
    → IfSome b (λ left. HeadAsks held.asked (held.rest ++ left) received) → IfSome a (λ input. Spells input received)
whole-known held received None b found asks = tt
whole-known held received (Some input) None found asks = absurd found
whole-known held received (Some input) (Some left) found asks = head-more received found asks

-- bytes that settle a request, with its head
pub takes-head : (received : ReceivedRequest) (bytes : List ℕ) → length bytes ≤ LONGEST_HEAD → TakesRequest received bytes
takes-head received bytes few = record { bound = omega (arith, few); ends = inl few }

-- a head, and behind it no more than is missing of the body
takes-body : (held : HeadBuffer) (received : ReceivedRequest) (more : List ℕ) → length held.bytes ≤ LONGEST_HEAD → HoldsHead held.bytes [] held
    → TakesBody (size_read held.asked) held.rest (most_body received) more → TakesRequest received (held.bytes ++ more)
takes-body held received more few holds takes = record {
  bound = omega (arith, few, takes.bound, length-append held.bytes more);
  ends = by (nat_le (length held.rest) (size_read held.asked)) refl;
}
  where
    by : (fits : Bool) → nat_le (length held.rest) (size_read held.asked) ≡ fits → (length (held.bytes ++ more) ≤ LONGEST_HEAD) ⊎ EndInBody (held.bytes ++ more)
    by true is =
        let within : length held.rest ≤ size_read held.asked = grind (arith, nat_tests) in
        let all : length (held.rest ++ more) ≤ size_read held.asked = omega (arith, within, takes.rest, length-append held.rest more) in
        let there = held-more held more holds in
        inr (there.head, held.rest ++ more, there.is_head, subst (λ asked. length (held.rest ++ more) ≤ size_read asked) there.asked all)
    by false is =
        let past : size_read held.asked ≤ length held.rest = grind (arith, nat_tests) in
        inl (omega (arith, few, past, takes.rest, length-append held.bytes more))

-- what came with a whole head and behind it
pub whole-spelled : (held : HeadBuffer) (received : ReceivedRequest) (a b z : Option (List ℕ)) (p q r : ℕ) → ReceivesBytes [] held.bytes a b p q → length held.bytes ≤ LONGEST_HEAD
    → Finds front.Whole held.bytes [] held → FindsKnown front.Whole [] a b held
    → TakesAtMost (λ bytes. HeadAsks held.asked (held.rest ++ bytes) received) (TakesBody (size_read held.asked) held.rest (most_body received)) b z q r
    → TakesAtMost (λ input. Spells input received) (TakesRequest received) a z p r
whole-spelled held received a b z p q r comes bound found known came =
    let is : held.bytes ≡ comes.bytes = comes.behind in
    let holds : Spells (held.bytes ++ came.bytes) received = head-more received (held-more held came.bytes found) came.holds in
    record {
      bytes = comes.bytes ++ came.bytes;
      consumed = Consumes-chained a b z comes.bytes came.bytes comes.consumed came.consumed;
      counted = omega (arith, comes.counted, came.counted, length-append comes.bytes came.bytes);
      taken = subst (λ bytes. TakesRequest received (bytes ++ came.bytes)) is (takes-body held received came.bytes bound found came.taken);
      holds = subst (λ bytes. Spells (bytes ++ came.bytes) received) is holds;
      holds_known = whole-known held received a b known came.holds_known;
    }

large-known : (held : HeadBuffer) (a b : Option (List ℕ)) → FindsKnown front.TooLarge [] a b held → IfSome a (λ input. Spells input (Refused refusal.TooLarge))
large-known held None b found = tt
large-known held (Some input) None found = absurd found
large-known held (Some input) (Some left) found = (front.TooLarge, (found, refl))

-- what came with a head that is too large
pub large-spelled : (held : HeadBuffer) (a b : Option (List ℕ)) (p q : ℕ) → ReceivesBytes [] held.bytes a b p q → length held.bytes ≤ LONGEST_HEAD
    → Finds front.TooLarge held.bytes [] held → FindsKnown front.TooLarge [] a b held
    → TakesAtMost (λ input. Spells input (Refused refusal.TooLarge)) (TakesRequest (Refused refusal.TooLarge)) a b p q
large-spelled held a b p q comes bound found known =
    came-read _ _ held.bytes a b p q comes (takes-head (Refused refusal.TooLarge) held.bytes bound) (front.TooLarge, (found, refl)) (large-known held a b known)
