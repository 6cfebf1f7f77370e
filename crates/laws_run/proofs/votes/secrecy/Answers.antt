use Rattle.meeting_core.specs.Step.{decided}
use Rattle.laws_run.proofs.SecretRuns.{secrets_preserved_in_runs, votes_left_out}
use Rattle.laws_run.proofs.SecretSteps.{desk_keeps_secrets}
use Rattle.laws_run.proofs.votes.secrecy.Goals as goal

pub returns-clause-steps : goal.returns-clause-steps
returns-clause-steps c = desk_keeps_secrets (record { office = c.votes_are_secret.ensures.office; reads = c.what_is_read_is_enough.ensures.own })

pub returns-clause-runs : goal.returns-clause-runs
returns-clause-runs c = secrets_preserved_in_runs

pub returns-clause-desk : goal.returns-clause-desk
returns-clause-desk c =
    secrets_preserved_in_runs decided (desk_keeps_secrets (record { office = c.votes_are_secret.ensures.office; reads = c.what_is_read_is_enough.ensures.own }))

pub returns-clause-left_out : goal.returns-clause-left_out
returns-clause-left_out c =
    votes_left_out decided
    (secrets_preserved_in_runs decided (desk_keeps_secrets (record { office = c.votes_are_secret.ensures.office; reads = c.what_is_read_is_enough.ensures.own })))
