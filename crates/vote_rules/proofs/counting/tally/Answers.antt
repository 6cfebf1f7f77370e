use Rattle.std.proofs.Common.{◌≡◌, ℕ, List, filter, ap, ◌∙◌}
use Rattle.std.specs.BTreeMap.{get}
use Rattle.std.proofs.lemmas.Result.{IfOk-weaker}
use Rattle.vocabulary.specs.Names.{name_cmp}
use Rattle.desk_words.specs.declared.records.RegisterRow.{RegisterRow}
use Rattle.proxy_rules.specs.Holdings.{holding_by}
use Rattle.proxy_rules.proofs.ShareLemmas.{all_shares-le}
use Rattle.vote_rules.specs.VoteCovers.{vote_among}
use Rattle.vote_rules.specs.InstructedCasts.{blocks_on, is_on_shares_of, last_instructed}
use Rattle.vote_rules.specs.Tallies.{share_at, tally_by, tally_of}
use Rattle.vote_rules.proofs.TallyLemmas.{tallies_agree}
use Rattle.vote_rules.proofs.counting.tally.Goals as goal

pub returns : goal.returns
returns c =
    let cutoffs = c.args.cutoffs.now in
    let papers = c.args.papers.now in
    let rows = papers.register.now in
    let given = papers.appointments.now in
    let ended = papers.endings.now in
    let authorities = papers.authorities.now in
    let resolution = c.args.resolution in
    let casts = papers.casts.now in
    let on = c.in_ok-casts.casts in
    let blocks : (member : List ℕ) → filter (is_on_shares_of member) on.by_member.items ≡ filter (is_on_shares_of member) (blocks_on resolution casts) =
    λ member. c.in_ok-casts.ensures.blocks member ∙ ap (λ l. filter (is_on_shares_of member) (blocks_on resolution l)) c.as_slice.ensures in
    let last : (voter : List ℕ) → get name_cmp on.instructed voter ≡ last_instructed resolution casts voter =
    λ voter. c.in_ok-casts.ensures.instructed voter ∙ ap (λ l. last_instructed resolution l voter) c.as_slice.ensures in
    IfOk-weaker c.tally_rows.result
    (λ tally. tally ≡ tally_by (λ (row : RegisterRow) place. vote_among (filter (is_on_shares_of row.member) on.by_member.items) (get name_cmp on.instructed) authorities resolution row (share_at cutoffs (holding_by given ended row) row.member place)) rows)
    (λ tally. tally ≡ tally_of cutoffs rows given ended authorities casts resolution)
    (λ tally is.
    is
    ∙ (λ i. tally_by (λ (row : RegisterRow) place. vote_among (blocks row.member i) (λ voter. last voter i) authorities resolution row (share_at cutoffs (holding_by given ended row) row.member place)) rows)
    ∙ tallies_agree cutoffs given ended authorities casts resolution rows (all_shares-le rows c.requires.rows))
    c.tally_rows.ensures
