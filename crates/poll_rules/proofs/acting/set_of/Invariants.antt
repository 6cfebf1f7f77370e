use Rattle.std.proofs.Common.{◌≡◌, ℕ, List, take}
use Rattle.poll_rules.specs.Acting.{is_one_of}
use Rattle.poll_rules.specs.GatheredItems.{are_in}
use Rattle.poll_rules.proofs.acting.set_of.Given as goal

-- the first persons
abbrev pub invariant-loop-person : goal.invariant-loop-person
invariant-loop-person l = (person : List ℕ) → is_one_of l.set person ≡ are_in (take l.person-index l.persons) person
