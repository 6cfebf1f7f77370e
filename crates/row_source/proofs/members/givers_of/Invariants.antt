use Rattle.std.proofs.Common.{◌≡◌, ℕ, List, take}
use Rattle.std.specs.BTreeSet.{contains}
use Rattle.std.specs.List.{list_any}
use Rattle.vocabulary.specs.Names.{name_cmp}
use Rattle.proxy_rules.specs.Holdings.{is_given_by}
use Rattle.row_source.proofs.members.givers_of.Given as goal

-- the givers of the first appointments
abbrev pub invariant-loop-appointment : goal.invariant-loop-appointment
invariant-loop-appointment l =
    (member : List ℕ) → contains name_cmp l.givers member ≡ list_any (is_given_by member) (take l.appointment-index l.given)
