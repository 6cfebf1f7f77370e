use Rattle.std.proofs.Common.{◌≡◌, ℕ, List, take, true}
use Rattle.std.specs.List.{flat_map}
use Rattle.poll_rules.specs.Acting.{is_one_of}
use Rattle.poll_rules.specs.GatheredItems.{items_at}
use Rattle.poll_rules.specs.Roles.{roles_by}
use Rattle.poll_rules.proofs.roles.roles_over.Given as goal

-- the roles by the first rows of those who are present
abbrev pub invariant-loop-row : goal.invariant-loop-row
invariant-loop-row l = (person : List ℕ) → is_one_of l.present person ≡ true → items_at l.roles person
    ≡ flat_map (roles_by l.cutoffs l.papers.appointments.now l.papers.endings.now l.papers.authorities.now person) (take l.row-index l.papers.register.now)
