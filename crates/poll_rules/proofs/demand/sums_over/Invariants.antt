use Rattle.std.proofs.Common.{◌≡◌, take}
use Rattle.poll_rules.specs.Acting.{is_one_of}
use Rattle.poll_rules.specs.DemandSums.{sums_by}
use Rattle.poll_rules.specs.Demands.{shares_demanding}
use Rattle.poll_rules.proofs.demand.sums_over.Given as goal

-- the sums of the first rows
abbrev pub invariant-loop-row : goal.invariant-loop-row
invariant-loop-row l =
    l.sums ≡ sums_by (shares_demanding (is_one_of l.demanders) l.cutoffs l.papers.appointments.now l.papers.endings.now l.papers.authorities.now) (take l.row-index l.papers.register.now)
