use Rattle.std.proofs.Common.{inl, inr}
use Rattle.sql_load_needed.proofs.parts.read_first.Goals as goal

pub returns-in-Adjourn-clause-holds : goal.returns-in-Adjourn-clause-holds
returns-in-Adjourn-clause-holds g c = rw c.in-Adjourn.is c.all_polls.ensures.holds

pub returns-in-Order-clause-holds : goal.returns-in-Order-clause-holds
returns-in-Order-clause-holds g c = rw c.in-Order.is c.poll_alone.ensures.holds

pub returns-in-LoadRegister-clause-holds : goal.returns-in-LoadRegister-clause-holds
returns-in-LoadRegister-clause-holds g c = elim c.in-LoadRegister.is [
  | inl load ↦ rw load.1 c.meeting_alone.ensures.holds
  | inr other ↦ elim other [ inl presence ↦ rw presence.1 c.meeting_alone.ensures.holds | inr opening ↦ rw opening c.meeting_alone.ensures.holds ]
]

pub returns-in-Start-clause-holds : goal.returns-in-Start-clause-holds
returns-in-Start-clause-holds g c = elim c.in-Start.is [
  | inl start ↦ rw start c.poll_alone-in-Start.ensures.holds
  | inr other ↦ elim other [ inl close ↦ rw close c.poll_alone-in-Start.ensures.holds | inr declare ↦ rw declare c.poll_alone-in-Start.ensures.holds ]
]
