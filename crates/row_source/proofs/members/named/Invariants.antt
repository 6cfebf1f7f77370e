use Rattle.std.proofs.Common.{◌≡◌, Ok, map, take}
use Rattle.row_source.specs.LookUps.{chosen, chosen_givers, member_at, naming_in}
use Rattle.row_source.specs.TrueLookUps.{IsTrueLookUp}
use Rattle.row_source.proofs.members.named.Given as goal

-- they are those that were asked for and the members who gave them, of whom the first are read
abbrev pub invariant-loop-member : goal.invariant-loop-member
invariant-loop-member g l =
    IsTrueLookUp g.R.RowSource.trusted g.R.RowSource.shows g.R.RowSource.keeps g.R.RowSource.leaves g.R.RowSource.may_fail l.fn.source l.source (Ok l.members)
    (λ found members. (l.received ≡ chosen l.fn.on (naming_in found l.fn.party)) × (l.member-items ≡ chosen_givers l.fn.on (naming_in found l.fn.party))
    × (members ≡ map (member_at found) (take l.member-index l.member-items)))
