use Rattle.std.proofs.Common.{◌≡◌, ℕ, take}
use Rattle.std.specs.FinSet.{contains}
use Rattle.std.specs.List.{list_any}
use Rattle.std.specs.Prelude.{IsTrue}
use Rattle.proxy_rules.specs.Governing.{ends}
use Rattle.share_blocks.specs.Tags.{is_tag}
use Rattle.proxy_rules.proofs.pieces.ended_numbers.Given as goal

-- the tags that the first endings name
abbrev pub invariant-loop-ending : goal.invariant-loop-ending
invariant-loop-ending l = (tag : ℕ) → IsTrue (is_tag tag) → contains l.numbers tag ≡ list_any (ends l.cutoffs tag) (take l.ending-index l.ended)
