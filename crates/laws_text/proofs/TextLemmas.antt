-- What holds of replies in runs holds of the texts that tell them.
use Rattle.std.proofs.Common.{true≢false, ◌≡◌, ℕ, Bool, true, false, ◌&&◌, not, cond, List, map, refl, ap, sym, ◌∙◌, subst}
use Rattle.std.specs.List.{AllZip}
use Rattle.std.proofs.lemmas.List.{map-id}
use Rattle.desk_words.specs.Changes.{empty_office}
use Rattle.desk_words.specs.Office.{implies}
use Rattle.desk_words.specs.declared.caller.Caller.{Caller}
use Rattle.desk_words.specs.declared.caller.Caller.TheVariants as caller
use Rattle.desk_words.specs.declared.office.OfficeLists.{OfficeLists}
use Rattle.desk_words.specs.declared.reply.Reply.{Reply}
use Rattle.desk_words.specs.declared.request.Call.{Call}
use Rattle.meeting_core.specs.Step.{Run, decided}
use Rattle.laws_run.specs.Isolation.{IsolatesCalls, IsolatesRuns, RunsAreTheDesks}
use Rattle.laws_run.specs.RunSecrecy.{KeepsSecretsInRuns, replies_to_office}
use Rattle.laws_run.specs.Traces.{replies_to, run_by}
use Rattle.laws_run.specs.SecretCalls.{Secret, is_secret_call, is_the_office, is_vote_in, is_voter, without, without_result}
use Rattle.laws_run.proofs.RunsListLemmas.{all-of, filter-among, implied}
use Rattle.laws_text.specs.Exchanges.{asks_declaration, is_call_by, is_open_call, texts_to}
use Rattle.laws_text.specs.TextSecrecy.{AreSameButResult, TextsAreIsolated, TextsFromNothingAreIsolated, TextsKeepSecrets, RunTexts, calls_of_texts}
use Rattle.laws_text.proofs.PickLemmas.{calls_of_office, office-picked, party-picked, pick, pick-map, texts-picked, wanted_call}
use Rattle.laws_text.proofs.TextResultLemmas.{each-but-result}

-- the replies in a run of which texts are given
abbrev replies_in : {text_of : Reply → List ℕ} → RunTexts text_of → List Reply
replies_in run = (run_by decided run.office (calls_of_texts run)).replies

-- the texts that reply to calls that pass a test
exchanged-picked : RunsAreTheDesks → (text_of : Reply → List ℕ) (test : Call → Bool) (run : RunTexts text_of) → texts_to test run.exchanges ≡ map text_of (pick test (calls_of_texts run) (replies_in run))
exchanged-picked desk text_of test run =
    texts-picked test run.exchanges
    ∙ ap (pick test (calls_of_texts run)) (run.states ∙ ap (λ (r : Run). map text_of r.replies) (sym (desk run.office (calls_of_texts run))))
    ∙ pick-map text_of test (calls_of_texts run) (replies_in run)

-- to a party
to-party : RunsAreTheDesks → (text_of : Reply → List ℕ) (party : List ℕ) (run : RunTexts text_of)
    → texts_to (is_call_by party) run.exchanges ≡ map text_of (replies_to party (calls_of_texts run) (replies_in run))
to-party desk text_of party run = exchanged-picked desk text_of (is_call_by party) run ∙ ap (map text_of) (party-picked party (calls_of_texts run) (replies_in run))

-- in a run from the office that holds nothing
to-party-from-nothing : RunsAreTheDesks → (text_of : Reply → List ℕ) (party : List ℕ) (run : RunTexts text_of) → run.office ≡ empty_office
    → texts_to (is_call_by party) run.exchanges ≡ map text_of (replies_to party (calls_of_texts run) (run_by decided empty_office (calls_of_texts run)).replies)
to-party-from-nothing desk text_of party run begins =
    to-party desk text_of party run ∙ ap (λ (o : OfficeLists). map text_of (replies_to party (calls_of_texts run) (run_by decided o (calls_of_texts run)).replies)) begins

pub texts_from_nothing : RunsAreTheDesks → IsolatesCalls decided → TextsFromNothingAreIsolated
texts_from_nothing desk law text_of party one other first second same =
    to-party-from-nothing desk text_of party one first
    ∙ ap (map text_of) (law party (calls_of_texts one) (calls_of_texts other) same)
    ∙ sym (to-party-from-nothing desk text_of party other second)

pub texts_isolated : RunsAreTheDesks → IsolatesRuns decided → TextsAreIsolated
texts_isolated desk law text_of viewer one other alike near near_again same =
    to-party desk text_of viewer.party one
    ∙ ap (map text_of) (law viewer one.office other.office (calls_of_texts one) (calls_of_texts other) alike near near_again same).replies
    ∙ sym (to-party desk text_of viewer.party other)

-- no secret vote is a call of the office
office-open : (secret : Secret) (call : Call) → is_the_office call.caller ≡ true → not (is_secret_call secret call) ≡ true
office-open secret call office = by call.caller office
  where
    by : (who : Caller) → is_the_office who ≡ true → not (is_voter secret.voters who && is_vote_in secret.meeting secret.resolution call.request) ≡ true
    by caller.Office h = refl
    by (caller.Party party) h = absurd (true≢false (sym h))

office-preserved : (secret : Secret) (calls : List Call) → calls_of_office (without (is_secret_call secret) calls) ≡ calls_of_office calls
office-preserved secret calls =
    let office = λ (call : Call). is_the_office call.caller in
    let stays = λ (call : Call). not (is_secret_call secret call) in
    filter-among office stays calls (all-of (λ call. implies (office call) (stays call)) calls (λ call. implied (office call) (stays call) (office-open secret call)))

-- the replies to the office that are wanted, without the result where one is left out, are the same in two runs with the same replies
wanted-same : {text_of : Reply → List ℕ} (secret : Secret) (wanted : Bool → Bool) (seen : Reply → Reply) → ((asks : Bool) (exchanged : Reply) → wanted asks ≡ true → seen exchanged ≡ cond asks (without_result exchanged) exchanged)
    → (one other : RunTexts text_of) → calls_of_office (calls_of_texts one) ≡ calls_of_office (calls_of_texts other)
    → replies_to_office secret (calls_of_texts one) (replies_in one) ≡ replies_to_office secret (calls_of_texts other) (replies_in other)
    → map seen (pick (wanted_call secret wanted) (calls_of_texts one) (replies_in one)) ≡ map seen (pick (wanted_call secret wanted) (calls_of_texts other) (replies_in other))
wanted-same secret wanted seen as_exchanged one other calls replies =
    office-picked secret wanted seen as_exchanged (calls_of_texts one) (replies_in one)
    ∙ (λ i. pick (wanted_call secret wanted) (calls i) (replies i))
    ∙ sym (office-picked secret wanted seen as_exchanged (calls_of_texts other) (replies_in other))

-- of what asks for no declaration all is seen, and of what does not the result
open-seen : (asks : Bool) (exchanged : Reply) → not asks ≡ true → exchanged ≡ cond asks (without_result exchanged) exchanged
open-seen true exchanged h = absurd (true≢false (sym h))
open-seen false exchanged h = refl

asked-seen : (asks : Bool) (exchanged : Reply) → asks ≡ true → without_result exchanged ≡ cond asks (without_result exchanged) exchanged
asked-seen true exchanged h = refl
asked-seen false exchanged h = absurd (true≢false (sym h))

-- pairs of texts that are the same as others
pairs-of : (text_of : Reply → List ℕ) {a b c d : List (List ℕ)} → a ≡ b → c ≡ d → AllZip (AreSameButResult text_of) b d → AllZip (AreSameButResult text_of) a c
pairs-of text_of {a} {b} {c} {d} same again pairs = subst (λ y. AllZip (AreSameButResult text_of) a y) (sym again) (subst (λ x. AllZip (AreSameButResult text_of) x d) (sym same) pairs)

pub texts_keep_secrets : RunsAreTheDesks → KeepsSecretsInRuns decided → TextsKeepSecrets
texts_keep_secrets desk law text_of secret one other same rest =
    let ends = law secret one.office other.office (calls_of_texts one) (calls_of_texts other) same rest in
    let calls = sym (office-preserved secret (calls_of_texts one)) ∙ ap calls_of_office rest ∙ office-preserved secret (calls_of_texts other) in
    let open_replies = wanted-same secret not (λ exchanged. exchanged) open-seen one other calls ends.office in
    let asked_replies = wanted-same secret (λ asks. asks) without_result asked-seen one other calls ends.office in record {
      office_exchanged = exchanged-picked desk text_of (is_open_call secret) one
          ∙ ap (map text_of) (sym (map-id (pick (is_open_call secret) (calls_of_texts one) (replies_in one))) ∙ open_replies ∙ map-id (pick (is_open_call secret) (calls_of_texts other) (replies_in other)))
          ∙ sym (exchanged-picked desk text_of (is_open_call secret) other);
      declared = pairs-of text_of (exchanged-picked desk text_of (asks_declaration secret) one) (exchanged-picked desk text_of (asks_declaration secret) other)
          (each-but-result text_of (pick (asks_declaration secret) (calls_of_texts one) (replies_in one)) (pick (asks_declaration secret) (calls_of_texts other) (replies_in other)) asked_replies);
      parties = λ before party open_party.
          to-party desk text_of party one ∙ ap (map text_of) (ends.parties before party open_party) ∙ sym (to-party desk text_of party other);
    }
