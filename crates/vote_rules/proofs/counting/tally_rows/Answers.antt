use Rattle.std.proofs.Common.{◌≡◌, ℕ, ◌+◌, get_or, take, filter, refl, ap, sym, ◌∙◌, subst}
use Rattle.std.specs.Prelude.{Option}
use Rattle.std.specs.BTreeMap.{get}
use Rattle.std.specs.Cmp.Lexicographic.{nat_list_cmp_total}
use Rattle.vocabulary.specs.Names.{name_cmp}
use Rattle.vocabulary.specs.declared.kinds.Way.{Way}
use Rattle.desk_words.specs.declared.records.RegisterRow.{RegisterRow}
use Rattle.desk_words.specs.declared.records.Tally.{Tally}
use Rattle.proxy_rules.specs.Holdings.{holding_by}
use Rattle.proxy_rules.proofs.ProxyValidLemmas.{valid_by}
use Rattle.proxy_rules.proofs.ShareLemmas.{all_shares-le}
use Rattle.proxy_rules.specs.Shares.{shares_of}
use Rattle.vote_rules.specs.Casts.{Share}
use Rattle.vote_rules.specs.VoteCovers.{vote_among}
use Rattle.vote_rules.specs.InstructedCasts.{AreInMemberOrder, is_on_shares_of, is_past_member}
use Rattle.vote_rules.specs.Sums.{FitsBoth, added, tally_to}
use Rattle.vote_rules.specs.Tallies.{share_at, tally_by}
use Rattle.vote_rules.specs.declared.received.BlockCast.{BlockCast}
use Rattle.vote_rules.proofs.VoteCountLemmas.{counts_fit, added-next, row-le}
use Rattle.vote_rules.proofs.LeftLemmas.{HasRest, on_this_row, rest_after}
use Rattle.vote_rules.proofs.SortedBlocks.{filtered-sorted}
use Rattle.vote_rules.proofs.counting.tally_rows.Goals as goal

pub tally_row-requires : goal.tally_row-requires
tally_row-requires c =
    let papers = c.args.papers.now in
    let rows = papers.register.now in
    valid_by papers.appointments.now papers.endings.now c.row-item.result c.requires.numbered c.requires.tags
    (row-le rows c.loop-row.row-index c.row-item.result (all_shares-le rows c.requires.rows) c.loop-row-test.true c.row-item.is)

pub loop-row-init : goal.loop-row-init
loop-row-init c =
    let whole = c.as_slice-left.ensures.value in (
      subst AreInMemberOrder (sym whole) c.requires.order,
      (λ k d le lt. ap (filter (is_on_shares_of (get_or c.args.papers.now.register.now k d).member)) whole),
      refl,
    )

pub add-tally-requires : goal.add-tally-requires
add-tally-requires c =
    let papers = c.args.papers.now in
    let rows = papers.register.now in
    let blocks = c.args.casts.now.by_member.items in
    let last = get name_cmp c.args.casts.now.instructed in
    let share : RegisterRow → ℕ → Share = λ row place. share_at c.args.cutoffs.now (holding_by papers.appointments.now papers.endings.now row) row.member place in
    let vote : RegisterRow → ℕ → Option Way = λ row place. vote_among (filter (is_on_shares_of row.member) blocks) last papers.authorities.now c.args.resolution row (share row place) in
    let row = c.row-item.result in
    let on_row = c.parted_at.ensures.own ∙ on_this_row rows blocks c.loop-row.left.now c.loop-row.row-index row c.loop-row.invariant.1 c.loop-row-test.true c.row-item.is in
    let more : c.in_ok-more.more ≡ tally_to (vote row) (shares_of row) =
    c.in_ok-more.ensures ∙ ap (λ casts. tally_to (λ place. vote_among casts last papers.authorities.now c.args.resolution row (share row place)) (shares_of row)) on_row in
    let fits = counts_fit vote rows c.loop-row.row-index row (all_shares-le rows c.requires.rows) c.loop-row-test.true c.row-item.is in
    let P : Tally → Type 0 = λ t. FitsBoth t c.in_ok-more.more in
    let Q : Tally → Type 0 = λ t. FitsBoth (tally_by vote (take c.loop-row.row-index rows)) t in
    subst P (sym c.loop-row.invariant.2) (subst Q (sym more) fits)

pub loop-row-preserved : goal.loop-row-preserved
loop-row-preserved c =
    let papers = c.args.papers.now in
    let rows = papers.register.now in
    let blocks = c.args.casts.now.by_member.items in
    let last = get name_cmp c.args.casts.now.instructed in
    let share : RegisterRow → ℕ → Share = λ row place. share_at c.args.cutoffs.now (holding_by papers.appointments.now papers.endings.now row) row.member place in
    let vote : RegisterRow → ℕ → Option Way = λ row place. vote_among (filter (is_on_shares_of row.member) blocks) last papers.authorities.now c.args.resolution row (share row place) in
    let row = c.row-item.result in
    let left = c.loop-row.left.now in
    let i = c.loop-row.row-index in
    let on_row = c.parted_at.ensures.own ∙ on_this_row rows blocks left i row c.loop-row.invariant.1 c.loop-row-test.true c.row-item.is in
    let more : c.in_ok-more.more ≡ tally_to (vote row) (shares_of row) =
    c.in_ok-more.ensures ∙ ap (λ casts. tally_to (λ place. vote_among casts last papers.authorities.now c.args.resolution row (share row place)) (shares_of row)) on_row in
    let later = sym c.parted_at.ensures.later in (
      subst AreInMemberOrder later (filtered-sorted nat_list_cmp_total (λ (cast : BlockCast). cast.block.member) (is_past_member row.member) left c.loop-row.invariant.0),
      subst (HasRest rows blocks (i + 1)) later (rest_after rows blocks left i row c.requires.rows c.loop-row.invariant.1 c.loop-row-test.true c.row-item.is),
      c.add-tally.ensures
          ∙ ap (λ t. added t c.in_ok-more.more) c.loop-row.invariant.2
          ∙ ap (added (tally_by vote (take i rows))) more
          ∙ added-next vote rows i row c.loop-row-test.true c.row-item.is,
    )
