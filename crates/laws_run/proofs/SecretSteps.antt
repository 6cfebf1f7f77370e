-- The desk's own steps keep secrets.
use Rattle.std.proofs.Common.{true≢false, ◌≡◌, ℕ, true, ◌&&◌, not, ap, sym, ◌∙◌}
use Rattle.std.specs.Cmp.{first_so, second_so}
use Rattle.std.proofs.lemmas.Bool.{not-true}
use Rattle.desk_words.specs.Changes.{applied_if_any}
use Rattle.desk_words.specs.declared.answer.Answer.{Answer}
use Rattle.desk_words.specs.declared.caller.Caller.{Caller}
use Rattle.desk_words.specs.declared.caller.Caller.TheVariants as caller
use Rattle.desk_words.specs.declared.change.Change.{Change}
use Rattle.desk_words.specs.declared.office.OfficeLists.{OfficeLists}
use Rattle.desk_words.specs.declared.request.Call.{Call}
use Rattle.desk_words.specs.declared.request.Request.{Request}
use Rattle.party_views.specs.RowsRead.{own_read}
use Rattle.meeting_core.specs.Step.{decided, stepped}
use Rattle.laws_step.specs.PartyReads.{ReadsEnough}
use Rattle.laws_step.specs.Secrecy.{TheOfficeLearnsNoVotes}
use Rattle.laws_run.specs.RunSecrecy.{KeepsSecretsInSteps}
use Rattle.laws_run.specs.SecretCalls.{AreSameBut, Secret, but_result, office_without, is_declared_in, is_other_party, is_the_office, is_vote_in, is_voter}
use Rattle.laws_run.proofs.HiddenChanges.{hidden_some, hidden-after}
use Rattle.laws_run.proofs.HiddenOffices.{hidden-declared, office-alike}
use Rattle.laws_run.proofs.HiddenParties.{party-alike, party-change, vote-hidden}

-- what is known of single calls: the office is told of no votes, and what a request reads is enough
pub record Known : Type 0 where
  pub office : TheOfficeLearnsNoVotes
  pub reads : ReadsEnough own_read

-- a call, by its caller
abbrev call_by : ℕ → Caller → Request → Call
call_by now who request = record { moment = now; caller = who; request = request }

-- what is not secret of a change is the same without the secret votes
change-alike : Known → (secret : Secret) (o : OfficeLists) (now : ℕ) (who : Caller) (request : Request)
    → hidden_some secret (decided (office_without secret o) (call_by now who request)).change ≡ hidden_some secret (decided o (call_by now who request)).change
change-alike known secret o now caller.Office request = ap (λ (a : Answer Change). a.change) (office-alike known.office secret o now request)
change-alike known secret o now (caller.Party party) request = party-change known.reads secret o now party request

step-preserved : Known → (secret : Secret) (one other : OfficeLists) (call : Call) → AreSameBut secret one other → AreSameBut secret (stepped one call) (stepped other call)
step-preserved known secret one other call same =
    let change = λ (o : OfficeLists). change-alike known secret o call.moment call.caller call.request in
    let left = sym (change one) ∙ ap (λ o. hidden_some secret (decided o call).change) same ∙ change other in
    hidden-after secret one (decided one call).change ∙ (λ i. applied_if_any (same i) (left i)) ∙ sym (hidden-after secret other (decided other call).change)

vote-preserved : (secret : Secret) (o : OfficeLists) (now : ℕ) (who : Caller) (request : Request) → (is_voter secret.voters who && is_vote_in secret.meeting secret.resolution request) ≡ true
    → AreSameBut secret (stepped o (call_by now who request)) o
vote-preserved secret o now caller.Office request vote = absurd (true≢false (sym vote))
vote-preserved secret o now (caller.Party party) request vote =
    hidden-after secret o (decided o (call_by now (caller.Party party) request)).change
    ∙ ap (applied_if_any (office_without secret o)) (vote-hidden secret o now party request
    (first_so (secret.voters party) (is_vote_in secret.meeting secret.resolution request) vote)
    (second_so (secret.voters party) (is_vote_in secret.meeting secret.resolution request) vote))

office-returned : Known → (secret : Secret) (one other : OfficeLists) (now : ℕ) (who : Caller) (request : Request) → AreSameBut secret one other → is_the_office who ≡ true
    → but_result secret request (decided one (call_by now who request)).reply ≡ but_result secret request (decided other (call_by now who request)).reply
office-returned known secret one other now caller.Office request same office =
    let returned = λ (o : OfficeLists). ap (λ (a : Answer Change). a.reply) (office-alike known.office secret o now request) in
    sym (returned one) ∙ ap (λ o. but_result secret request (decided o (call_by now caller.Office request)).reply) same ∙ returned other
office-returned known secret one other now (caller.Party party) request same office = absurd (true≢false (sym office))

party-returned : (secret : Secret) (one other : OfficeLists) (now : ℕ) (who : Caller) (request : Request) → AreSameBut secret one other → not (is_declared_in secret one) ≡ true
    → is_other_party secret.voters who ≡ true → (decided one (call_by now who request)).reply ≡ (decided other (call_by now who request)).reply
party-returned secret one other now caller.Office request same before party = absurd (true≢false (sym party))
party-returned secret one other now (caller.Party party) request same before open_party =
    let none = not-true (is_declared_in secret one) before in
    let none_other = sym (hidden-declared secret other) ∙ ap (is_declared_in secret) (sym same) ∙ hidden-declared secret one ∙ none in
    let other_party = not-true (secret.voters party) open_party in
    ap (λ (a : Answer Change). a.reply)
    (sym (party-alike secret one now party request other_party none) ∙ ap (λ o. decided o (call_by now (caller.Party party) request)) same ∙ party-alike secret other now party request other_party none_other)

pub desk_keeps_secrets : Known → KeepsSecretsInSteps decided
desk_keeps_secrets known = record {
  preserved = λ secret one other call same. step-preserved known secret one other call same;
  voted = λ secret office call vote. vote-preserved secret office call.moment call.caller call.request vote;
  office = λ secret one other call same office. office-returned known secret one other call.moment call.caller call.request same office;
  parties = λ secret one other call same before party. party-returned secret one other call.moment call.caller call.request same before party;
}
