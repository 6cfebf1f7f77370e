-- What the office is after a reply with which the program does not end well.
use Rattle.std.proofs.Common.{◌≡◌, ◌≢◌, ◌⊎◌, ◌∙◌, inl, inr, refl, subst, ap}
use Rattle.vocabulary.specs.declared.refusal.Refusal.{Refusal}
use Rattle.desk_words.specs.declared.office.OfficeLists.{OfficeLists}
use Rattle.desk_words.specs.declared.reply.Reply.{Reply}
use Rattle.desk_words.specs.declared.reply.Reply.TheVariants as reply
use Rattle.desk_words.specs.declared.request.Call.{Call}
use Rattle.meeting_core.specs.Step.{decided, stepped}
use Rattle.meeting_core.proofs.StepLaws.{office_left}
use Rattle.desk_words.specs.declared.reply.Failure.{Failure}
use Rattle.desk_words.specs.declared.reply.Failure.TheVariants as failure
use Rattle.cli_exit.specs.Endings.{Ending, ended_by, ended_by_failure}
use Rattle.cli_exit.specs.declared.ended.ExitError.TheVariants as fault
use Rattle.cli_commands.specs.LoadCommands.{ended_by_reply}

-- it is a refusal
refusal_of : (r : Reply) → (ended_by_reply r).status ≢ 0
    → (refusal : Refusal) × (r ≡ reply.Refused refusal)
refusal_of (reply.Refused refusal) other = (refusal, refl)
refusal_of reply.Loaded other = absurd (other refl)
refusal_of reply.Same other = absurd (other refl)
refusal_of r other = absurd (other refl)

-- and the office is stored as it was
pub stays : (Stands : OfficeLists → Type 0) (office : OfficeLists) (call : Call) (end : Ending)
    → end ≡ ended_by_reply (decided office call).reply → end.status ≢ 0
    → Stands (stepped office call) → Stands office
stays Stands office call end ended other stands =
    let found = refusal_of (decided office call).reply
    (λ well. other (ap (λ (e : Ending). e.status) ended ∙ well)) in
    subst Stands (office_left office call found.0 found.1) stands

-- how the program ends after a call that failed
pub fails : (why : Failure) (end : Ending) → end ≡ ended_by_failure why
    → (end ≡ ended_by fault.Store) ⊎ (end ≡ ended_by fault.Memory)
fails failure.Store end is = inl is
fails failure.Memory end is = inr is
