use Rattle.std.proofs.Common.{◌≡◌, ◌+◌, take}
use Rattle.json_replies.specs.Forms.{numbered_values}
use Rattle.json_replies.specs.Writing.{WritesValues}
use Rattle.json_replies.proofs.shown.write_each.Given as goal

abbrev pub invariant-loop-value : goal.invariant-loop-value
invariant-loop-value g l = record {
  number : l.number ≡ l.first + l.value-index;
  written : WritesValues (numbered_values g.T.Counted.counted l.first (take l.value-index l.items)) l.fn.out l.out;
}
