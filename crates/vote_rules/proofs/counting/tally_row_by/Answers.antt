use Rattle.std.proofs.Common.{◌≡◌, ℕ, ◌≤◌, List, map, ap, sym, subst, ◌∙◌, arith}
use Rattle.std.specs.Prelude.{All, sum_by}
use Rattle.std.specs.BTreeMap.{get}
use Rattle.vocabulary.specs.declared.range.TheConstants.{MOST_PLACES}
use Rattle.vocabulary.specs.Names.{name_cmp}
use Rattle.vocabulary.specs.declared.kinds.Capacity.TheVariants.{Proxy}
use Rattle.desk_words.specs.declared.records.Appointment.{Appointment}
use Rattle.proxy_rules.specs.Tiles.{places_in}
use Rattle.proxy_rules.specs.declared.holdings.Holding.{Holding}
use Rattle.vote_rules.specs.Ballots.{AreInOrder, IsUncut, capacity_for, cuts_of, governing_at, vote_by, voters_for}
use Rattle.vote_rules.specs.VoteCovers.{vote_pieces, vote_among}
use Rattle.vote_rules.specs.Sums.{tally_over, tally_to}
use Rattle.vote_rules.specs.Tallies.{share_at}
use Rattle.vote_rules.proofs.VoteCountLemmas.{places_in-tiles}
use Rattle.vote_rules.proofs.VoteRowLemmas.{counted}
use Rattle.vote_rules.proofs.counting.tally_row_by.Goals as goal

pub tally_over-requires-clause-pieces : goal.tally_over-requires-clause-pieces
tally_over-requires-clause-pieces g c = subst AreInOrder (sym c.as_slice-2.ensures.value) (c.in_ok-holding.holding.shares, c.in_ok-governed.ensures.tiled)

pub tally_over-requires-clause-few : goal.tally_over-requires-clause-few
tally_over-requires-clause-few g c =
    let holding = c.in_ok-holding.holding in
    let ranges = c.in_ok-ranges.ranges.items in
    let few : holding.shares ≤ MOST_PLACES = let P : Holding → Type 0 = λ h. h.shares ≤ MOST_PLACES in subst P (sym c.in_ok-holding.ensures) c.requires.few in
    omega (arith, few, ap (sum_by places_in) c.as_slice-3.ensures.value, places_in-tiles ranges holding.shares c.in_ok-ranges.ensures.tiled)

pub returns : goal.returns
returns g c =
    let cutoffs = c.args.cutoffs.now in
    let authorities = c.args.papers.now.authorities.now in
    let row = c.args.row.now in
    let resolution = c.args.resolution in
    let last = get name_cmp c.args.instructed.now in
    let casts = c.args.on_row.now in
    let holding = c.in_ok-holding.holding in
    let governed = c.in_ok-governed.governed.items in
    let ranges = c.in_ok-ranges.ranges.items in
    let few : holding.shares ≤ MOST_PLACES = let P : Holding → Type 0 = λ h. h.shares ≤ MOST_PLACES in subst P (sym c.in_ok-holding.ensures) c.requires.few in
    let proxy_of : Appointment → List ℕ = λ a. a.proxy in
    let voters = voters_for authorities row.kind row.member in
    let capacity = capacity_for row.kind in
    let holders : map g.B.Blocks.pieces c.in_ok-ballots.ballots.holders.items ≡ map (vote_pieces casts last capacity) voters =
    c.in_ok-ballots.ensures.holders in
    let proxies : map g.B.Blocks.pieces c.in_ok-ballots.ballots.proxies.items ≡ map (vote_pieces casts last Proxy) (map proxy_of holding.appointed) =
    c.in_ok-ballots.ensures.proxies
    ∙ ap (λ l. map (vote_pieces casts last Proxy) (map proxy_of l)) c.as_slice-appointed.ensures in
    let uncut : All (IsUncut (cuts_of governed casts)) ranges =
    subst (λ cuts. All (IsUncut cuts) ranges) (λ i. cuts_of (c.as_slice.ensures.value i) casts) c.in_ok-ranges.ensures.uncut in
    c.tally_over.ensures
    ∙ (λ i. tally_over (λ place. vote_by (holders i) (proxies i) (c.as_slice-appointed.ensures i) (governing_at (c.as_slice-2.ensures.value i) place) resolution place) (c.as_slice-3.ensures.value i))
    ∙ counted cutoffs holding authorities casts last resolution row governed c.in_ok-governed.ensures few ranges c.in_ok-ranges.ensures.tiled uncut
    ∙ ap (λ (h : Holding). tally_to (λ place. vote_among casts last authorities resolution row (share_at cutoffs h row.member place)) h.shares) c.in_ok-holding.ensures
