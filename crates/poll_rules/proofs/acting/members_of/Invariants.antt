use Rattle.std.proofs.Common.{◌≡◌, ℕ, List, take}
use Rattle.poll_rules.specs.Acting.{is_one_of, some_may_act}
use Rattle.poll_rules.specs.GatheredItems.{are_in}
use Rattle.poll_rules.proofs.acting.members_of.Given as goal

-- the members for whom one of the first persons may act
abbrev pub invariant-loop-person : goal.invariant-loop-person
invariant-loop-person l = (member : List ℕ) → is_one_of l.members member
    ≡ some_may_act (are_in (take l.person-index l.persons)) l.papers.appointments.now l.papers.authorities.now member
