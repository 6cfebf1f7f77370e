use Rattle.std.proofs.Common.{◌≡◌, Ok, map, take}
use Rattle.row_source.specs.LookUps.{authority_at, trusting_from}
use Rattle.row_source.specs.TrueLookUps.{IsTrueLookUp}
use Rattle.row_source.proofs.members.authorised.Given as goal

-- the authorities are those that were asked for, and the first of them have their corporations' rows
abbrev pub invariant-loop-authority : goal.invariant-loop-authority
invariant-loop-authority g l =
    IsTrueLookUp g.R.RowSource.trusted g.R.RowSource.shows g.R.RowSource.keeps g.R.RowSource.leaves g.R.RowSource.may_fail l.fn.source l.source (Ok l.all)
    (λ found all. (l.authority-items ≡ trusting_from found l.fn.giver l.fn.party) × (all ≡ map (authority_at found) (take l.authority-index l.authority-items)))
