use Rattle.std.proofs.Common.{◌≡◌, filter, take}
use Rattle.std.specs.BTreeMap.{get}
use Rattle.vocabulary.specs.Names.{name_cmp}
use Rattle.desk_words.specs.declared.records.RegisterRow.{RegisterRow}
use Rattle.proxy_rules.specs.Holdings.{holding_by}
use Rattle.vote_rules.specs.VoteCovers.{vote_among}
use Rattle.vote_rules.specs.InstructedCasts.{AreInMemberOrder, is_on_shares_of}
use Rattle.vote_rules.specs.Tallies.{share_at, tally_by}
use Rattle.vote_rules.proofs.LeftLemmas.{HasRest}
use Rattle.vote_rules.proofs.counting.tally_rows.Given as goal

-- the first rows are counted, and what is left of the blocks, in order, is what is cast on the others
abbrev pub invariant-loop-row : goal.invariant-loop-row
invariant-loop-row l =
    AreInMemberOrder l.left
    × HasRest l.papers.register.now l.casts.by_member.items l.row-index l.left
    × (l.tally ≡ tally_by (λ (row : RegisterRow) place. vote_among (filter (is_on_shares_of row.member) l.casts.by_member.items) (get name_cmp l.casts.instructed) l.papers.authorities.now l.resolution row
    (share_at l.cutoffs (holding_by l.papers.appointments.now l.papers.endings.now row) row.member place)) (take l.row-index l.papers.register.now))
