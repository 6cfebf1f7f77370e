use Rattle.std.proofs.Common.{◌≡◌, [], drop, take}
use Rattle.desk_words.specs.Office.{are_numbered_after}
use Rattle.unit_tests.proofs.proxies.all_numbered.Given as goal

-- the first appointments are numbered
abbrev pub invariant-loop-index : goal.invariant-loop-index
invariant-loop-index l = are_numbered_after [] l.given ≡ are_numbered_after (take l.index l.given) (drop l.index l.given)
