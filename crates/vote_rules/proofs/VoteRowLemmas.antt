-- The count of one holding.
use Rattle.std.proofs.Common.{◌≡◌, ℕ, ◌≤◌, true, List, sym, ap, ◌∙◌, arith}
use Rattle.std.specs.Prelude.{All, Option, nat_le}
use Rattle.std.proofs.lemmas.Bool.{leb-true}
use Rattle.std.specs.Cmp.{first_so, second_so}
use Rattle.vocabulary.specs.declared.range.TheConstants.{MOST_PLACES}
use Rattle.vocabulary.specs.Places.{Places}
use Rattle.vocabulary.specs.declared.kinds.Way.{Way}
use Rattle.vocabulary.specs.declared.kinds.Way.TheVariants.{For, Against, Withheld}
use Rattle.desk_words.specs.declared.records.Authority.{Authority}
use Rattle.desk_words.specs.declared.records.RegisterRow.{RegisterRow}
use Rattle.proxy_rules.specs.Tiles.{ArePieces, IsAlike, are_tiled}
use Rattle.proxy_rules.specs.declared.holdings.Holding.{Holding}
use Rattle.proxy_rules.specs.declared.meeting_records.Cutoffs.{Cutoffs}
use Rattle.proxy_rules.specs.declared.pieces.GovernedPiece.{GovernedPiece}
use Rattle.proxy_rules.proofs.TileLemmas.{places_that-tiles}
use Rattle.vote_rules.specs.Ballots.{IsUncut, cuts_of}
use Rattle.vote_rules.specs.Sums.{tally_over, tally_to, votes_over}
use Rattle.vote_rules.specs.Tallies.{is_vote, votes_to}
use Rattle.vote_rules.specs.declared.received.BlockCast.{BlockCast}
use Rattle.vote_rules.proofs.VoteCountLemmas.{of_tiles, places_in-tiles, places_that-alike}
use Rattle.vote_rules.proofs.VoteLemmas.{asked_is_meant, asked_vote, meant_vote, votes_alike}

module _ (cutoffs : Cutoffs) (holding : Holding) (authorities : List Authority) (casts : List BlockCast) (last : List ℕ → Option ℕ) (resolution : ℕ) (row : RegisterRow) (governed : List GovernedPiece) (are : ArePieces cutoffs holding governed) (few : holding.shares ≤ MOST_PLACES) where
  abbrev asked : ℕ → Option Way
  asked = asked_vote cutoffs holding authorities casts last resolution row governed

  abbrev meant : ℕ → Option Way
  meant = meant_vote cutoffs holding authorities casts last resolution row governed

  is_meant : (place : ℕ) → 1 ≤ place → place ≤ holding.shares → asked place ≡ meant place
  is_meant place low high = asked_is_meant cutoffs holding authorities casts last resolution row governed place are low high

  range_alike : (way : Way) (range : Places) → 1 ≤ range.from → range.from ≤ range.to → range.to ≤ holding.shares → IsUncut (cuts_of governed casts) range → IsAlike (λ place. is_vote way (asked place)) range
  range_alike way range low up high uncut place held =
      let after : range.from ≤ place = leb-true range.from place (first_so (nat_le range.from place) (nat_le place range.to) held) in
      let before : place ≤ range.to = leb-true place range.to (second_so (nat_le range.from place) (nat_le place range.to) held) in
      let first : range.from ≤ holding.shares = omega arith in
      ap (is_vote way)
      (is_meant place (omega (arith, after)) (omega (arith, before))
      ∙ votes_alike cutoffs holding authorities casts last resolution row governed place range.from are few (omega (arith, after)) (omega (arith, before)) low first (uncut place held)
      ∙ sym (is_meant range.from low first))

  votes_counted : (way : Way) (ranges : List Places) → are_tiled 1 ranges holding.shares ≡ true → All (IsUncut (cuts_of governed casts)) ranges → votes_over asked way ranges ≡ votes_to meant way holding.shares
  votes_counted way ranges all uncut =
      places_that-tiles (λ place. is_vote way (asked place)) ranges holding.shares all
      (of_tiles (IsUncut (cuts_of governed casts)) (IsAlike (λ place. is_vote way (asked place))) holding.shares 1 ranges (omega arith) all uncut (range_alike way))
      ∙ places_that-alike (λ place. is_vote way (asked place)) (λ place. is_vote way (meant place)) holding.shares (λ place low high. ap (is_vote way) (is_meant place low high))

  -- counted by the ranges, a holding has the count of its single shares
  pub counted : (ranges : List Places) → are_tiled 1 ranges holding.shares ≡ true → All (IsUncut (cuts_of governed casts)) ranges → tally_over asked ranges ≡ tally_to meant holding.shares
  counted ranges all uncut = λ k. record {
    votes_for = votes_counted For ranges all uncut k;
    votes_against = votes_counted Against ranges all uncut k;
    withheld = votes_counted Withheld ranges all uncut k;
    eligible = places_in-tiles ranges holding.shares all k;
  }
