use Rattle.std.proofs.Common.{ℕ, map, take, sym, subst}
use Rattle.std.specs.Prelude.{Option}
use Rattle.vocabulary.specs.declared.kinds.Way.{Way}
use Rattle.desk_words.specs.declared.records.Tally.{Tally}
use Rattle.vote_rules.specs.Ballots.{governing_at, vote_by}
use Rattle.vote_rules.specs.Sums.{FitsMore, tally_over}
use Rattle.vote_rules.proofs.VoteCountLemmas.{ranges_fit}
use Rattle.vote_rules.proofs.counting.tally_over.Goals as goal

pub add_shares-requires : goal.add_shares-requires
add_shares-requires g c =
    let ballots = c.args.ballots.now in
    let ranges = c.args.ranges.now in
    let range = c.range-item.result in
    let vote : ℕ → Option Way = λ place. vote_by (map g.B.Blocks.pieces ballots.holders.items) (map g.B.Blocks.pieces ballots.proxies.items) c.args.appointed.now (governing_at c.args.governed.now place) c.args.resolution place in
    let fits = ranges_fit vote ranges c.loop-range.range-index range c.requires.few c.loop-range-test.true c.range-item.is in
    let P : Tally → Type 0 = λ t. FitsMore t c.places_in.result in
    let Q : ℕ → Type 0 = λ n. FitsMore (tally_over vote (take c.loop-range.range-index ranges)) n in
    subst P (sym c.loop-range.invariant) (subst Q (sym c.places_in.ensures) fits)
