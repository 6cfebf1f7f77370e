-- Offices that agree for the sender of a request reply to it alike.
use Rattle.std.proofs.Common.{◌≡◌, ◌⊎◌, ℕ, inl, inr, Bool, true, false, List, Option, Some, None, Result, Ok, Err, refl, sym, ap, subst, ◌∙◌}
use Rattle.vocabulary.specs.declared.refusal.Refusal.{Refusal}
use Rattle.vocabulary.specs.declared.refusal.Refusal.TheVariants.{Key}
use Rattle.http_heads.specs.Heads.{IsCutInTarget, asked_of_head}
use Rattle.http_heads.specs.declared.front.Front.{Front}
use Rattle.http_heads.specs.declared.front.Front.TheVariants as front
use Rattle.desk_words.specs.ViewTypes.{Moment, Party}
use Rattle.desk_words.specs.declared.answer.Answer.{Answer}
use Rattle.desk_words.specs.declared.caller.Caller.{Caller}
use Rattle.desk_words.specs.declared.caller.Caller.TheVariants as caller
use Rattle.desk_words.specs.declared.change.Change.{Change}
use Rattle.desk_words.specs.declared.office.OfficeLists.{OfficeLists}
use Rattle.desk_words.specs.declared.reply.Reply.{Reply}
use Rattle.desk_words.specs.declared.reply.Reply.TheVariants as reply
use Rattle.desk_words.specs.declared.request.Request.{Request}
use Rattle.http_requests.specs.RequestOfHead.{is_whole, key_of_head, request_in}
use Rattle.http_requests.specs.RequestUniqueness.{SpellsOne, is_definite, is_definite_received}
use Rattle.http_requests.specs.ReceivedRequests.{AgreesWith, IsWith, Spells, SpellsAt}
use Rattle.http_requests.specs.declared.received.ReceivedRequest.{ReceivedRequest}
use Rattle.http_requests.specs.declared.received.ReceivedRequest.TheVariants.{Refused, With}
use Rattle.http_requests.specs.declared.received.ReceiveError.{ReceiveError}
use Rattle.http_requests.specs.declared.received.ReceiveError.TheVariants as unreceived
use Rattle.meeting_core.specs.KeyHolders.{caller_with}
use Rattle.laws_step.specs.Worlds.{ReadsTheViews, party_answer}
use Rattle.desk_http.specs.HttpAnswers.{reply_in, reply_of}
use Rattle.laws_text.specs.ReplySecrecy.{AgreeOnRequest, AgreeTo, AgreeWith, RepliesShowNoMore, TextsShowNoMore}
use Rattle.desk_http.specs.Served.{replied_text}

party_alike : ReadsTheViews party_answer → (one other : OfficeLists) (now : Moment) (party : Party) (content : Result Request ReceiveError) → AgreeOnRequest one other now party content
    → reply_of one now (Some (caller.Party party)) content ≡ reply_of other now (Some (caller.Party party)) content
party_alike law one other now party (Ok request) agree = ap (λ (a : Answer Change). Some a.reply) (law one other party now request agree)
party_alike law one other now party (Err why) agree = refl

sender_alike : ReadsTheViews party_answer → (one other : OfficeLists) (now : Moment) (who them : Option Caller) (content : Result Request ReceiveError) → AgreeTo one other now who them content
    → reply_of one now who content ≡ reply_of other now them content
sender_alike law one other now None them content agree = ap (λ w. reply_of other now w content) (sym agree)
sender_alike law one other now (Some caller.Office) them content agree = absurd agree
sender_alike law one other now (Some (caller.Party party)) them content agree =
    party_alike law one other now party content agree.1 ∙ ap (λ w. reply_of other now w content) (sym agree.0)

pub replies_alike : ReadsTheViews party_answer → RepliesShowNoMore
replies_alike law one other now (Refused refusal) agree = refl
replies_alike law one other now (With key content) agree = sender_alike law one other now (caller_with one.keys key) (caller_with other.keys key) content agree

-- ---- from bytes

-- what is received where nothing fails
abbrev holds_as : Result Request Refusal → Result Request ReceiveError
holds_as (Ok request) = Ok request
holds_as (Err why) = Err (unreceived.Refused why)

definite_agrees : (whole : Bool) (said : Result Request Refusal) → AgreesWith whole said (holds_as said)
definite_agrees whole (Ok request) = refl
definite_agrees whole (Err why) = refl

definite_said : (said : Result Request Refusal) → is_definite (holds_as said) ≡ true
definite_said (Ok request) = refl
definite_said (Err why) = refl

-- the same key came, with a request that was not read for want of memory or of a source that failed
abbrev IsUnsure : ReceivedRequest → ReceivedRequest → Type 0
IsUnsure a definite = (key : List ℕ) × (content : Result Request ReceiveError) × (other : Result Request ReceiveError) × (a ≡ With key content) × (is_definite content ≡ false) × (definite ≡ With key other)

-- beside what was received, what the same bytes tell
record HasDefinite (Says : ReceivedRequest → Type 0) (a : ReceivedRequest) : Type 0 where
  definite : ReceivedRequest
  says : Says definite
  is : is_definite_received definite ≡ true
  alike : (a ≡ definite) ⊎ IsUnsure a definite

content_definite : (key : List ℕ) (whole : Bool) (said : Result Request Refusal) (a : ReceivedRequest) (content : Result Request ReceiveError) → a ≡ With key content → AgreesWith whole said content → HasDefinite (IsWith (Some key) whole said) a
content_definite key whole said a (Ok request) is agrees = record { definite = a; says = (Ok request, is, agrees); is = ap is_definite_received is; alike = inl refl }
content_definite key whole said a (Err (unreceived.Refused why)) is agrees = record { definite = a; says = (Err (unreceived.Refused why), is, agrees); is = ap is_definite_received is; alike = inl refl }
content_definite key whole said a (Err unreceived.Memory) is agrees =
    record { definite = With key (holds_as said); says = (holds_as said, refl, definite_agrees whole said); is = definite_said said; alike = inr (key, Err unreceived.Memory, holds_as said, is, refl, refl) }
content_definite key whole said a (Err unreceived.Failed) is agrees =
    record { definite = With key (holds_as said); says = (holds_as said, refl, definite_agrees whole said); is = definite_said said; alike = inr (key, Err unreceived.Failed, holds_as said, is, refl, refl) }

with_definite : (key : Option (List ℕ)) (whole : Bool) (said : Result Request Refusal) (a : ReceivedRequest) → IsWith key whole said a → HasDefinite (IsWith key whole said) a
with_definite None whole said a is = record { definite = a; says = is; is = ap is_definite_received is; alike = inl refl }
with_definite (Some key) whole said a (content, is, agrees) = content_definite key whole said a content is agrees

front_definite : (input : List ℕ) (front : Front) (a : ReceivedRequest) → SpellsAt front input a → HasDefinite (SpellsAt front input) a
front_definite input front.Whole a (head, behind, has, few, asks) =
    let there = with_definite (key_of_head (asked_of_head head)) (is_whole (asked_of_head head) behind) (request_in (asked_of_head head) behind) a asks in
    record { definite = there.definite; says = (head, behind, has, few, there.says); is = there.is; alike = there.alike }
front_definite input front.TooLarge a (is, x) = record { definite = a; says = (is, x); is = ap is_definite_received x; alike = inl refl }
front_definite input front.Unreadable a (is, x) = record { definite = a; says = (is, x); is = ap is_definite_received x; alike = inl refl }

spelled_definite : (input : List ℕ) (a : ReceivedRequest) → Spells input a → HasDefinite (Spells input) a
spelled_definite input a (front, spells) =
    let there = front_definite input front a spells in
    record { definite = there.definite; says = (front, there.says); is = there.is; alike = there.alike }

-- a request that was not read has no reply but `Key`, where the key is nobody's
nobodys : (office : OfficeLists) (now : Moment) (who : Option Caller) (content : Result Request ReceiveError) (x : Reply) → is_definite content ≡ false → reply_of office now who content ≡ Some x
    → (who ≡ None) × (Some (reply.Refused Key) ≡ Some x)
nobodys office now None content x unsure replies = (refl, replies)
nobodys office now (Some who) (Ok request) x unsure replies = absurd cc
nobodys office now (Some who) (Err (unreceived.Refused why)) x unsure replies = absurd cc
nobodys office now (Some who) (Err unreceived.Memory) x unsure replies = absurd cc
nobodys office now (Some who) (Err unreceived.Failed) x unsure replies = absurd cc

-- what is replied is replied to what the bytes tell
definite_reply : (office : OfficeLists) (now : Moment) (a definite : ReceivedRequest) (x : Reply) → (a ≡ definite) ⊎ IsUnsure a definite → reply_in office now a ≡ Some x → reply_in office now definite ≡ Some x
definite_reply office now a definite x (inl same) replies = ap (reply_in office now) (sym same) ∙ replies
definite_reply office now a definite x (inr (key, content, other, is, unsure, is_sure)) replies =
    let found = nobodys office now (caller_with office.keys key) content x unsure (ap (reply_in office now) (sym is) ∙ replies) in
    ap (reply_in office now) is_sure ∙ ap (λ who. reply_of office now who other) found.0 ∙ found.1

definite_agree : (one another : OfficeLists) (now : Moment) (a definite : ReceivedRequest) (x : Reply) → (a ≡ definite) ⊎ IsUnsure a definite → reply_in one now a ≡ Some x → AgreeWith one another now a → AgreeWith one another now definite
definite_agree one another now a definite x (inl same) replies agree = subst (AgreeWith one another now) same agree
definite_agree one another now a definite x (inr (key, content, other, is, unsure, is_sure)) replies agree =
    let found = nobodys one now (caller_with one.keys key) content x unsure (ap (reply_in one now) (sym is) ∙ replies) in
    let here : AgreeWith one another now (With key content) = subst (AgreeWith one another now) is agree in
    let none : AgreeTo one another now None (caller_with another.keys key) other = subst (λ who. AgreeTo one another now who (caller_with another.keys key) content) found.0 here in
    subst (AgreeWith one another now) (sym is_sure) (subst (λ who. AgreeTo one another now who (caller_with another.keys key) other) (sym found.0) none)

some_same : {A : Type 0} (x y : A) → ◌≡◌ {A = Option A} (Some x) (Some y) → x ≡ y
some_same x y same = cc

pub texts_alike : ReadsTheViews party_answer → SpellsOne → TextsShowNoMore
texts_alike law one_request one other now input a b spells_a spells_b agree x y is_x is_y =
    let first = spelled_definite input a spells_a in
    let second = spelled_definite input b spells_b in
    by_one (one_request input first.definite second.definite first.says second.says first.is second.is)
    (definite_agree one other now a first.definite x first.alike is_x agree) (definite_reply one now a first.definite x first.alike is_x) (definite_reply other now b second.definite y second.alike is_y)
  where
    by_one : {p q : ReceivedRequest} → (p ≡ q) ⊎ IsCutInTarget input → AgreeWith one other now p → reply_in one now p ≡ Some x → reply_in other now q ≡ Some y → (replied_text x ≡ replied_text y) ⊎ IsCutInTarget input
    by_one (inl same) agreed is_p is_q = inl (ap replied_text (some_same x y (sym is_p ∙ replies_alike law one other now _ agreed ∙ ap (reply_in other now) same ∙ is_q)))
    by_one (inr ends) agreed is_p is_q = inr ends
