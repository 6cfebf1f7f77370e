use Rattle.std.proofs.Common.{◌≡◌, true, take}
use Rattle.office_validation.proofs.ValidCastLemmas.{few_each}
use Rattle.office_validation.proofs.polls.cast_few.Given as goal

-- the voters of the first votes cast few on each poll
abbrev pub invariant-loop-place : goal.invariant-loop-place
invariant-loop-place l = few_each l.polls l.cast-items (take l.place l.cast-items) ≡ true
