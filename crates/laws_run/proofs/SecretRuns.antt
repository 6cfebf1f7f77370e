-- Runs keep secrets where each step does.
use Rattle.std.proofs.Common.{true≢false, ◌≡◌, ℕ, Bool, true, false, not, cond, List, [], ◌∷◌, refl, ap, sym, ◌∙◌, subst}
use Rattle.std.specs.Cmp.{first_so, second_so}
use Rattle.std.specs.Cmp.Derive.{both_true}
use Rattle.std.proofs.lemmas.Bool.{not-true}
use Rattle.vocabulary.specs.Names.{same_name}
use Rattle.desk_words.proofs.WordRowLemmas.{same_name-true}
use Rattle.desk_words.specs.Office.{implies}
use Rattle.desk_words.specs.declared.caller.Caller.{Caller}
use Rattle.desk_words.specs.declared.caller.Caller.TheVariants as caller
use Rattle.desk_words.specs.declared.office.OfficeLists.{OfficeLists}
use Rattle.desk_words.specs.declared.reply.Reply.{Reply}
use Rattle.desk_words.specs.declared.request.Call.{Call}
use Rattle.party_views.specs.Views.{public_of}
use Rattle.laws_step.specs.Loads.{Deciding, after_call}
use Rattle.laws_run.specs.RunSecrecy.{KeepsSecretsInRuns, KeepsSecretsInSteps, StepsKeepSecretsInRuns, VotesAreSecret, are_before, replies_to_office}
use Rattle.laws_run.specs.Traces.{is_by, replies_to, run_by}
use Rattle.laws_run.specs.SecretCalls.{AreSameBut, Secret, but_result, is_declared_in, is_other_party, is_secret_call, is_the_office, is_voter, is_vote_in, without}
use Rattle.laws_run.proofs.HiddenOffices.{hidden-declared, hidden-public}
use Rattle.laws_run.proofs.RunsListLemmas.{all-of, filter-among, implied}

-- ---- two offices that are the same but for the secret votes

-- have both declared the resolution, or neither
same-declared : (secret : Secret) (one other : OfficeLists) → AreSameBut secret one other → is_declared_in secret one ≡ is_declared_in secret other
same-declared secret one other same = sym (hidden-declared secret one) ∙ ap (is_declared_in secret) same ∙ hidden-declared secret other

-- and have the same public records before that
same-public : (secret : Secret) (one other : OfficeLists) → AreSameBut secret one other → is_declared_in secret one ≡ false → (at : List ℕ) → public_of one at ≡ public_of other at
same-public secret one other same none at =
    sym (hidden-public secret one at none) ∙ ap (λ o. public_of o at) same ∙ hidden-public secret other at (sym (same-declared secret one other same) ∙ none)

-- ---- a list of calls, and the calls of it that are kept

-- the calls that are kept, in an office, come before the declaration
abbrev Before : Deciding → Secret → OfficeLists → List Call → Type 0
Before deciding secret o calls = are_before deciding secret o calls ≡ true

-- the replies to a party in two runs are the same
abbrev RepliedAlike : Deciding → List ℕ → OfficeLists → OfficeLists → List Call → List Call → Type 0
RepliedAlike deciding party one other calls preserved =
    replies_to party calls (run_by deciding one calls).replies ≡ replies_to party preserved (run_by deciding other preserved).replies

-- they end alike, where the kept calls come before the declaration
record Ends (deciding : Deciding) (secret : Secret) (one other : OfficeLists) (calls preserved : List Call) : Type 0 where
  office : replies_to_office secret calls (run_by deciding one calls).replies ≡ replies_to_office secret preserved (run_by deciding other preserved).replies
  parties : Before deciding secret other preserved → (party : List ℕ) → secret.voters party ≡ false → RepliedAlike deciding party one other calls preserved
  before : Before deciding secret one calls → Before deciding secret other preserved
  offices : AreSameBut secret (run_by deciding one calls).office (run_by deciding other preserved).office

-- who calls is no party
voter-calls : (voters : List ℕ → Bool) (who : Caller) → is_voter voters who ≡ true → is_the_office who ≡ false
voter-calls voters caller.Office voter = absurd (true≢false (sym voter))
voter-calls voters (caller.Party party) voter = refl

-- a voter that calls is not a party that is no voter
voter-other : (voters : List ℕ → Bool) (who : Caller) (party : List ℕ) → is_voter voters who ≡ true → voters party ≡ false → is_by party who ≡ false
voter-other voters caller.Office party voter other = refl
voter-other voters (caller.Party name) party voter other =
    (elim (same_name name party) as (λ b. same_name name party ≡ b → b ≡ false) [
      | true ↦ λ is. absurd (true≢false (sym voter ∙ ap voters (same_name-true name party is) ∙ other))
      | false ↦ λ _. refl
    ]) refl

-- a party that calls and is no voter
other-calls : (voters : List ℕ → Bool) (who : Caller) (party : List ℕ) → is_by party who ≡ true → voters party ≡ false → is_other_party voters who ≡ true
other-calls voters caller.Office party by other = by
other-calls voters (caller.Party name) party by other = ap (λ b. not b) (ap voters (same_name-true name party by) ∙ other)

-- one call more, which is a secret vote and is left out
more-out : (deciding : Deciding) → KeepsSecretsInSteps deciding → (secret : Secret) (one other : OfficeLists) (call : Call) (calls preserved : List Call) → is_secret_call secret call ≡ true
    → Ends deciding secret (after_call deciding one call) other calls preserved → Ends deciding secret one other (call ∷ calls) preserved
more-out deciding law secret one other call calls preserved vote ends =
    let voter = first_so (is_voter secret.voters call.caller) (is_vote_in secret.meeting secret.resolution call.request) vote in
    let later = run_by deciding (after_call deciding one call) calls in record {
      office = ap (λ b. cond b (but_result secret call.request (deciding one call).reply ∷ replies_to_office secret calls later.replies) (replies_to_office secret calls later.replies))
          (voter-calls secret.voters call.caller voter)
          ∙ ends.office;
      parties = λ before party other_party.
          ap (λ b. cond b ((deciding one call).reply ∷ replies_to party calls later.replies) (replies_to party calls later.replies)) (voter-other secret.voters call.caller party voter other_party)
          ∙ ends.parties before party other_party;
      before = λ before. ends.before (second_so (not (is_declared_in secret one)) (are_before deciding secret (after_call deciding one call) calls) before);
      offices = ends.offices;
    }

-- one call more in both
more-in : (deciding : Deciding) → KeepsSecretsInSteps deciding → (secret : Secret) (one other : OfficeLists) (call : Call) (calls preserved : List Call) → AreSameBut secret one other
    → Ends deciding secret (after_call deciding one call) (after_call deciding other call) calls preserved → Ends deciding secret one other (call ∷ calls) (call ∷ preserved)
more-in deciding law secret one other call calls preserved same ends = record {
  office = (elim (is_the_office call.caller) as (λ b. is_the_office call.caller ≡ b
      → cond b (but_result secret call.request (deciding one call).reply ∷ office_one) office_one ≡ cond b (but_result secret call.request (deciding other call).reply ∷ office_other) office_other) [
        | true ↦ λ office. (let returned = law.office secret one other call same office in let rest = ends.office in λ i. returned i ∷ rest i)
        | false ↦ λ party. ends.office
      ]) refl;
  parties = λ before party other_party.
      (let here = first_so (not (is_declared_in secret other)) (are_before deciding secret (after_call deciding other call) preserved) before in
      let rest = ends.parties (second_so (not (is_declared_in secret other)) (are_before deciding secret (after_call deciding other call) preserved) before) party other_party in
      (elim (is_by party call.caller) as (λ b. is_by party call.caller ≡ b
      → cond b ((deciding one call).reply ∷ party_one party) (party_one party) ≡ cond b ((deciding other call).reply ∷ party_other party) (party_other party)) [
        | true ↦ λ by. (
            let returned = law.parties secret one other call same (ap not (same-declared secret one other same) ∙ here) (other-calls secret.voters call.caller party by other_party) in
            λ i. returned i ∷ rest i)
        | false ↦ λ _. rest
      ]) refl);
  before = λ before. both_true
      (sym (ap not (same-declared secret one other same)) ∙ first_so (not (is_declared_in secret one)) (are_before deciding secret (after_call deciding one call) calls) before)
      (ends.before (second_so (not (is_declared_in secret one)) (are_before deciding secret (after_call deciding one call) calls) before));
  offices = ends.offices;
}
  where
    office_one : List Reply
    office_one = replies_to_office secret calls (run_by deciding (after_call deciding one call) calls).replies

    office_other : List Reply
    office_other = replies_to_office secret preserved (run_by deciding (after_call deciding other call) preserved).replies

    party_one : List ℕ → List Reply
    party_one party = replies_to party calls (run_by deciding (after_call deciding one call) calls).replies

    party_other : List ℕ → List Reply
    party_other party = replies_to party preserved (run_by deciding (after_call deciding other call) preserved).replies

left-out : (deciding : Deciding) → KeepsSecretsInSteps deciding → (secret : Secret) (calls : List Call) (one other : OfficeLists) → AreSameBut secret one other
    → Ends deciding secret one other calls (without (is_secret_call secret) calls)
left-out deciding law secret [] one other same = record { office = refl; parties = λ before party other_party. refl; before = λ before. refl; offices = same }
left-out deciding law secret (call ∷ calls) one other same =
    let preserved = without (is_secret_call secret) calls in
    (elim (is_secret_call secret call) as (λ b. is_secret_call secret call ≡ b → Ends deciding secret one other (call ∷ calls) (cond (not b) (call ∷ preserved) preserved)) [
      | true ↦ λ vote. more-out deciding law secret one other call calls preserved vote
          (left-out deciding law secret calls (after_call deciding one call) other (law.voted secret one call vote ∙ same))
      | false ↦ λ none. more-in deciding law secret one other call calls preserved same
          (left-out deciding law secret calls (after_call deciding one call) (after_call deciding other call) (law.preserved secret one other call same))
    ]) refl

-- ---- two lists of which the same calls are kept

pub secrets_preserved_in_runs : StepsKeepSecretsInRuns
secrets_preserved_in_runs deciding law secret one other calls again same rest =
    let preserved = without (is_secret_call secret) calls in
    let first = left-out deciding law secret calls one other same in
    let second : Ends deciding secret other other again preserved = ends-with (sym rest) in record {
      office = first.office ∙ sym second.office;
      parties = λ before party open_party.
          (let other_party = not-true (secret.voters party) open_party in
          let preserved_before = first.before before in first.parties preserved_before party other_party ∙ sym (second.parties preserved_before party other_party));
      offices = first.offices ∙ sym second.offices;
      public = λ none meeting.
          same-public secret (run_by deciding one calls).office (run_by deciding other again).office (first.offices ∙ sym second.offices) (not-true (is_declared_in secret (run_by deciding one calls).office) none) meeting;
    }
  where
    ends-with : {preserved : List Call} → without (is_secret_call secret) again ≡ preserved → Ends deciding secret other other again preserved
    ends-with e = subst (λ preserved. Ends deciding secret other other again preserved) e (left-out deciding law secret again other other refl)

-- what is left out once is left out
without-again : (test : Call → Bool) (calls : List Call) → without test (without test calls) ≡ without test calls
without-again test calls =
    let stays = λ (call : Call). not (test call) in
    filter-among stays stays calls (all-of (λ call. implies (stays call) (stays call)) calls (λ call. implied (stays call) (stays call) (λ h. h)))

pub votes_left_out : (deciding : Deciding) → KeepsSecretsInRuns deciding → VotesAreSecret deciding
votes_left_out deciding law secret office calls = law secret office office calls (without (is_secret_call secret) calls) refl (sym (without-again (is_secret_call secret) calls))
