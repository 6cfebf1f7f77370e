-- Secrecy of votes: before a resolution is declared, nobody but the voter is answered otherwise for
-- a vote on it; the office learns the votes by the declaration alone.
use Rattle.std.specs.Prelude.{◌≡◌, Bool, true, ◌&&◌, not, List, [], ◌∷◌, if◌then◌else◌, IsTrue}
use Rattle.desk_words.specs.ViewTypes.{MeetingName, Party}
use Rattle.desk_words.specs.declared.office.OfficeLists.{OfficeLists}
use Rattle.desk_words.specs.declared.reply.Reply.{Reply}
use Rattle.desk_words.specs.declared.request.Call.{Call}
use Rattle.party_views.specs.Views.{public_of}
use Rattle.laws_step.specs.Loads.{Deciding, after_call}
use Rattle.laws_run.specs.Traces.{replies_to, run_by}
use Rattle.laws_run.specs.SecretCalls.{AreSameBut, Secret, but_result, is_declared_in, is_other_party, is_secret_call, is_the_office, without}

-- one step keeps secrets: a call leaves two offices the same but for the secret votes; one of these
-- votes leaves an office the same but for them; the office is replied the same in both, but for the
-- result where it declares the resolution; and until the resolution is declared, so is any party
-- that is none of the voters
pub record KeepsSecretsInSteps (deciding : Deciding) : Type 0 where
  pub preserved : (secret : Secret) (one other : OfficeLists) (call : Call)
      → AreSameBut secret one other
      → AreSameBut secret (after_call deciding one call) (after_call deciding other call)
  pub voted : (secret : Secret) (office : OfficeLists) (call : Call)
      → IsTrue (is_secret_call secret call)
      → AreSameBut secret (after_call deciding office call) office
  pub office : (secret : Secret) (one other : OfficeLists) (call : Call)
      → AreSameBut secret one other
      → IsTrue (is_the_office call.caller)
      → but_result secret call.request (deciding one call).reply
      ≡ but_result secret call.request (deciding other call).reply
  pub parties : (secret : Secret) (one other : OfficeLists) (call : Call)
      → AreSameBut secret one other
      → IsTrue (not (is_declared_in secret one))
      → IsTrue (is_other_party secret.voters call.caller)
      → (deciding one call).reply ≡ (deciding other call).reply

-- each call of a list is made before the resolution is declared
abbrev pub are_before : Deciding → Secret → OfficeLists → List Call → Bool
are_before deciding secret office [] = true
are_before deciding secret office (call ∷ calls) =
    not (is_declared_in secret office)
    && are_before deciding secret (after_call deciding office call) calls

-- the replies to the office, among those to a list of calls, but for the result of the resolution
abbrev pub replies_to_office : Secret → List Call → List Reply → List Reply
replies_to_office secret [] replies = []
replies_to_office secret (call ∷ calls) [] = []
replies_to_office secret (call ∷ calls) (reply ∷ replies) =
    let later = replies_to_office secret calls replies in
    if is_the_office call.caller then but_result secret call.request reply ∷ later else later

-- two lists of calls, each in an office of its own, show the same of the secret votes: the office
-- is given the same replies, one for one, but for the result where the resolution is declared; of
-- calls that are made before that, each party that is none of the voters is; the offices after them
-- are the same but for the votes; and while the resolution is not declared, so are the public
-- records of all meetings
pub record RepliesAgree (deciding : Deciding) (secret : Secret) (one other : OfficeLists)
    (calls again : List Call) : Type 0 where
  pub office : replies_to_office secret calls (run_by deciding one calls).replies
      ≡ replies_to_office secret again (run_by deciding other again).replies
  pub parties : IsTrue (are_before deciding secret one calls) → (party : Party)
      → IsTrue (not (secret.voters party))
      → replies_to party calls (run_by deciding one calls).replies
      ≡ replies_to party again (run_by deciding other again).replies
  pub offices : AreSameBut secret (run_by deciding one calls).office
      (run_by deciding other again).office
  pub public : IsTrue (not (is_declared_in secret (run_by deciding one calls).office))
      → (meeting : MeetingName)
      → public_of (run_by deciding one calls).office meeting
      ≡ public_of (run_by deciding other again).office meeting

-- runs keep secrets: from two offices that are the same but for the secret votes, two lists of
-- calls that differ in such votes alone show the same
abbrev pub KeepsSecretsInRuns : Deciding → Type 0
KeepsSecretsInRuns deciding =
    (secret : Secret) (one other : OfficeLists) (calls again : List Call)
    → AreSameBut secret one other
    → without (is_secret_call secret) calls ≡ without (is_secret_call secret) again
    → RepliesAgree deciding secret one other calls again

-- where each step keeps secrets, runs do
abbrev pub StepsKeepSecretsInRuns : Type 0
StepsKeepSecretsInRuns =
    (deciding : Deciding) → KeepsSecretsInSteps deciding → KeepsSecretsInRuns deciding

-- so a list of calls shows the same with the secret votes, and without them
abbrev pub VotesAreSecret : Deciding → Type 0
VotesAreSecret deciding =
    (secret : Secret) (office : OfficeLists) (calls : List Call)
    → RepliesAgree deciding secret office office calls (without (is_secret_call secret) calls)
