use Rattle.std.proofs.Common.{◌≡◌, take}
use Rattle.desk_words.specs.Registers.{all_shares}
use Rattle.desk_words.proofs.register.Register.total.Given as goal

-- the shares of the first rows
abbrev pub invariant-loop-row : goal.invariant-loop-row
invariant-loop-row l = l.total ≡ all_shares (take l.row-index l.rows)
