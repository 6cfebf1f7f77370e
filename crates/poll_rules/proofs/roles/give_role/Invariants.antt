use Rattle.std.proofs.Common.{◌≡◌, ℕ, List, ◌++◌, take}
use Rattle.poll_rules.specs.GatheredItems.{are_in, items_at}
use Rattle.poll_rules.specs.Roles.{role_if}
use Rattle.poll_rules.proofs.roles.give_role.Given as goal

-- the first persons have the role
abbrev pub invariant-loop-person : goal.invariant-loop-person
invariant-loop-person l = (person : List ℕ) →
    items_at l.roles person ≡ items_at l.initial.roles person ++ role_if (are_in (take l.person-index l.person-items) person) l.capacity l.member
