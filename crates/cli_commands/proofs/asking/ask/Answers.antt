use Rattle.std.proofs.Common.{rules, ◌≡◌, inl, inr, ap, ◌∙◌}
use Rattle.cli_exit.specs.Endings.{ended_view}
use Rattle.meeting_core.specs.Step.{decided}
use Rattle.cli_commands.specs.LoadCommands.{by_office, ended_by_reply}
use Rattle.cli_commands.proofs.CommandAskingLemmas.{fails, stays}
use Rattle.cli_commands.proofs.asking.ask.Goals as goal

pub returns-in-Ok-clause-same : goal.returns-in-Ok-clause-same
returns-in-Ok-clause-same g c = λ reliable held stands is_open other.
    let call = by_office c.args.now c.args.request in
    let ended : ended_view c.in-Ok.ended ≡ ended_by_reply (decided held call).reply = search rules in
    stays (g.O.Office.stands c.perform.new.self) held call (ended_view c.in-Ok.ended) ended other
    (c.in-Ok.ensures.leaves.stands reliable is_open held stands)

pub returns-in-Err-clause-same : goal.returns-in-Err-clause-same
returns-in-Err-clause-same g c = λ reliable held stands is_open other. c.in-Err.ensures.leaves.stands reliable is_open held stands

pub returns-in-Ok-clause-stores : goal.returns-in-Ok-clause-stores
returns-in-Ok-clause-stores g c = λ reliable held stored.
    let call = by_office c.args.now c.args.request in
    let ended : ended_view c.in-Ok.ended ≡ ended_by_reply (decided held call).reply = search rules in
    inl (
      ended,
      (
        c.in-Ok.ensures.leaves.stands reliable (c.in-Ok.ensures.stays_open reliable) held stored.0,
        c.in-Ok.ensures.settled reliable held stored.0,
      ),
    )

pub returns-in-Err-clause-stores : goal.returns-in-Err-clause-stores
returns-in-Err-clause-stores g c = λ reliable held stored. inr (
  fails c.in-Err.failure _ c.by_failure.ensures,
  (
    λ is_open. c.in-Err.ensures.leaves.stands reliable is_open held stored.0,
    λ left may.
        elim (c.in-Err.ensures.crash reliable left may) [
          | inl was ↦ inl (stored.1 left was)
          | inr after ↦ inr (after.1 held stored.0)
        ],
  ),
)

pub returns-in-Err-clause-answers : goal.returns-in-Err-clause-answers
returns-in-Err-clause-answers g c = λ reliable held stands. inr (
  fails c.in-Err.failure _ c.by_failure.ensures,
  λ is_open. c.in-Err.ensures.leaves.stands reliable is_open held stands,
)
