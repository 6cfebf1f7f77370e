-- The values at the places of the calls that pass a test.
use Rattle.std.proofs.Common.{◌≡◌, ℕ, Bool, true, false, ◌&&◌, cond, List, [], ◌∷◌, map, filter, refl, ap, sym, ◌∙◌}
use Rattle.std.specs.Prelude.{Some, None}
use Rattle.std.specs.Option.{option_map_or}
use Rattle.desk_words.specs.declared.reply.Reply.{Reply}
use Rattle.desk_words.specs.declared.request.Call.{Call}
use Rattle.laws_run.specs.RunSecrecy.{replies_to_office}
use Rattle.laws_run.specs.Traces.{with_head, is_by, replies_to}
use Rattle.laws_run.specs.SecretCalls.{Secret, but_result, declares_in, is_the_office, without_result}
use Rattle.laws_text.specs.Exchanges.{Exchange, answers_a, calls_made, every_call, is_call_by, texts_to}

abbrev pub pick : {X : Type 0} → (Call → Bool) → List Call → List X → List X
pick test [] xs = []
pick test (call ∷ calls) [] = []
pick test (call ∷ calls) (x ∷ xs) = cond (test call) (x ∷ pick test calls xs) (pick test calls xs)

-- the texts that reply to calls that pass a test are those at their places among all
pub texts-picked : (test : Call → Bool) (exchanges : List Exchange) → texts_to test exchanges ≡ pick test (calls_made exchanges) (texts_to every_call exchanges)
texts-picked test [] = refl
texts-picked test (e ∷ later) =
    elim (e.made) as (λ made. map (λ (e : Exchange). e.text) (cond (option_map_or test made false) (e ∷ filter (answers_a test) later) (filter (answers_a test) later))
    ≡ pick test (with_head made (calls_made later)) (map (λ (e : Exchange). e.text) (cond (option_map_or every_call made false) (e ∷ filter (answers_a every_call) later) (filter (answers_a every_call) later)))) [
      | None ↦ texts-picked test later
      | Some call ↦ (
          elim (test call) as (λ b. map (λ (e : Exchange). e.text) (cond b (e ∷ filter (answers_a test) later) (filter (answers_a test) later))
          ≡ cond b (e.text ∷ pick test (calls_made later) (texts_to every_call later)) (pick test (calls_made later) (texts_to every_call later))) [
            | true ↦ ap (λ texts. e.text ∷ texts) (texts-picked test later)
            | false ↦ texts-picked test later
          ])
    ]

pub pick-map : {X Y : Type 0} (f : X → Y) (test : Call → Bool) (calls : List Call) (xs : List X) → pick test calls (map f xs) ≡ map f (pick test calls xs)
pick-map f test [] xs = refl
pick-map f test (call ∷ calls) [] = refl
pick-map f test (call ∷ calls) (x ∷ xs) =
    elim (test call) as (λ b. cond b (f x ∷ pick test calls (map f xs)) (pick test calls (map f xs)) ≡ map f (cond b (x ∷ pick test calls xs) (pick test calls xs))) [
      | true ↦ ap (λ ys. f x ∷ ys) (pick-map f test calls xs)
      | false ↦ pick-map f test calls xs
    ]

-- the replies to a party are those at the places of its calls
pub party-picked : (party : List ℕ) (calls : List Call) (replies : List Reply) → pick (is_call_by party) calls replies ≡ replies_to party calls replies
party-picked party [] replies = refl
party-picked party (call ∷ calls) [] = refl
party-picked party (call ∷ calls) (reply ∷ replies) = ap (λ later. cond (is_by party call.caller) (reply ∷ later) later) (party-picked party calls replies)

-- the calls of the office
abbrev pub calls_of_office : List Call → List Call
calls_of_office calls = filter (λ (call : Call). is_the_office call.caller) calls

-- among no values there are none
pick-nothing : (test : Call → Bool) (calls : List Call) → pick {X = Reply} test calls [] ≡ []
pick-nothing test [] = refl
pick-nothing test (call ∷ calls) = refl

-- the calls of the office, by whether they ask for the declaration
abbrev pub wanted_call : Secret → (Bool → Bool) → Call → Bool
wanted_call secret wanted call = is_the_office call.caller && wanted (declares_in secret.meeting secret.resolution call.request)

-- the replies to these, without the result where one is left out, are those at their places
pub office-picked : (secret : Secret) (wanted : Bool → Bool) (seen : Reply → Reply) → ((asks : Bool) (exchanged : Reply) → wanted asks ≡ true → seen exchanged ≡ cond asks (without_result exchanged) exchanged)
    → (calls : List Call) (replies : List Reply)
    → map seen (pick (wanted_call secret wanted) calls replies) ≡ pick (wanted_call secret wanted) (calls_of_office calls) (replies_to_office secret calls replies)
office-picked secret wanted seen as_exchanged [] replies = refl
office-picked secret wanted seen as_exchanged (call ∷ calls) [] = sym (pick-nothing (wanted_call secret wanted) (calls_of_office (call ∷ calls)))
office-picked secret wanted seen as_exchanged (call ∷ calls) (reply ∷ replies) =
    let test = wanted_call secret wanted in
    let asks = declares_in secret.meeting secret.resolution call.request in
    let more = pick test calls replies in
    let rest_calls = calls_of_office calls in
    let rest_replies = replies_to_office secret calls replies in
    let rest : map seen more ≡ pick test rest_calls rest_replies = office-picked secret wanted seen as_exchanged calls replies in
    (elim (is_the_office call.caller) as (λ b. is_the_office call.caller ≡ b
    → map seen (cond (b && wanted asks) (reply ∷ more) more) ≡ pick test (cond b (call ∷ rest_calls) rest_calls) (cond b (but_result secret call.request reply ∷ rest_replies) rest_replies)) [
      | true ↦ λ office.
          (elim (wanted asks) as (λ w. wanted asks ≡ w → map seen (cond w (reply ∷ more) more)
          ≡ cond w (but_result secret call.request reply ∷ pick test rest_calls rest_replies) (pick test rest_calls rest_replies)) [
            | true ↦ λ is. (let first = as_exchanged asks reply is in λ i. first i ∷ rest i)
            | false ↦ λ _. rest
          ]) refl
          ∙ sym (ap (λ b. cond (b && wanted asks) (but_result secret call.request reply ∷ pick test rest_calls rest_replies) (pick test rest_calls rest_replies)) office)
      | false ↦ λ other. rest
    ]) refl
