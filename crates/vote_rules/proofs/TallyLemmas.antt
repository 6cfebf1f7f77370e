-- The count of a poll, by what is cast on the resolution.
use Rattle.std.proofs.Common.{◌≡◌, ℕ, ◌≤◌, List, [], ◌∷◌, filter, ap, arith}
use Rattle.std.specs.Prelude.{All, Option, nat_le, sum_by}
use Rattle.std.proofs.lemmas.List.Elements.{All-cons, All-nil, All-weaker}
use Rattle.std.proofs.lemmas.List.Sums.{sum_by-cons}
use Rattle.std.proofs.lemmas.Bool.{and_from, le-leb}
use Rattle.vocabulary.specs.declared.range.TheConstants.{MOST_PLACES}
use Rattle.vocabulary.specs.declared.kinds.Way.{Way}
use Rattle.vocabulary.specs.declared.kinds.Way.TheVariants.{For, Against, Withheld}
use Rattle.desk_words.specs.Registers.{all_shares}
use Rattle.desk_words.specs.declared.records.Appointment.{Appointment}
use Rattle.desk_words.specs.declared.records.Authority.{Authority}
use Rattle.desk_words.specs.declared.records.CastMark.{CastMark}
use Rattle.desk_words.specs.declared.records.Ending.{Ending}
use Rattle.desk_words.specs.declared.records.RegisterRow.{RegisterRow}
use Rattle.proxy_rules.specs.Holdings.{holding_by}
use Rattle.proxy_rules.specs.Shares.{shares_of}
use Rattle.proxy_rules.specs.declared.meeting_records.Cutoffs.{Cutoffs}
use Rattle.proxy_rules.proofs.ShareLemmas.{shares_of-le}
use Rattle.vote_rules.specs.VoteCovers.{vote_among}
use Rattle.vote_rules.specs.InstructedCasts.{blocks_on, is_on_shares_of, last_instructed}
use Rattle.vote_rules.specs.Tallies.{is_vote, share_at, tally_by, votes, votes_to, vote_at}
use Rattle.vote_rules.specs.Votes.{Casts, valid_vote}
use Rattle.vote_rules.proofs.VoteCastLemmas.{cast_among-last_cast}
use Rattle.vote_rules.proofs.VoteCountLemmas.{places_that-alike}
use Rattle.vote_rules.proofs.VoteListLemmas.{sum_by-agree}

few_each : (rows : List RegisterRow) → all_shares rows ≤ MOST_PLACES → All (λ (row : RegisterRow). row.shares ≤ MOST_PLACES) rows
few_each [] few = All-nil (λ (row : RegisterRow). row.shares ≤ MOST_PLACES)
few_each (row ∷ rows) few =
    let cons = sum_by-cons (λ (r : RegisterRow). r.shares) row rows in
    All-cons (λ (r : RegisterRow). r.shares ≤ MOST_PLACES) row rows (omega (arith, cons, few)) (few_each rows (omega (arith, cons, few)))

module _ (cutoffs : Cutoffs) (given : List Appointment) (ended : List Ending) (authorities : List Authority) (casts : List CastMark) (resolution : ℕ) where
  -- the vote by what is cast on the shares of the row's member
  abbrev pub vote_on : RegisterRow → ℕ → Option Way
  vote_on row place = vote_among (filter (is_on_shares_of row.member) (blocks_on resolution casts)) (last_instructed resolution casts) authorities resolution row (share_at cutoffs (holding_by given ended row) row.member place)

  vote_is : (row : RegisterRow) (place : ℕ) → 1 ≤ place → place ≤ MOST_PLACES → vote_on row place ≡ vote_at cutoffs given ended authorities casts resolution row place
  vote_is row place low high =
      let share = share_at cutoffs (holding_by given ended row) row.member place in
      ap (λ (cast : Casts). valid_vote cast authorities resolution row share.governing)
      (λ i capacity voter. cast_among-last_cast resolution share capacity voter casts (and_from (nat_le 1 place) (nat_le place MOST_PLACES) (le-leb 1 place low) (le-leb place MOST_PLACES high)) i)

  row_votes : (way : Way) (row : RegisterRow) → row.shares ≤ MOST_PLACES → votes_to (vote_on row) way (shares_of row) ≡ votes_to (vote_at cutoffs given ended authorities casts resolution row) way (shares_of row)
  row_votes way row few =
      places_that-alike (λ place. is_vote way (vote_on row place)) (λ place. is_vote way (vote_at cutoffs given ended authorities casts resolution row place)) (shares_of row)
      (λ place low high. ap (is_vote way) (vote_is row place low (omega (arith, high, few, shares_of-le row))))

  all_votes : (way : Way) (rows : List RegisterRow) → all_shares rows ≤ MOST_PLACES → votes vote_on way rows ≡ votes (vote_at cutoffs given ended authorities casts resolution) way rows
  all_votes way rows few =
      sum_by-agree (λ (row : RegisterRow). votes_to (vote_on row) way (shares_of row)) (λ (row : RegisterRow). votes_to (vote_at cutoffs given ended authorities casts resolution row) way (shares_of row)) rows
      (All-weaker (λ (row : RegisterRow). row.shares ≤ MOST_PLACES) (λ (row : RegisterRow). votes_to (vote_on row) way (shares_of row) ≡ votes_to (vote_at cutoffs given ended authorities casts resolution row) way (shares_of row))
      (λ row. row_votes way row) rows (few_each rows few))

  -- the count by these votes is the count by the valid votes
  pub tallies_agree : (rows : List RegisterRow) → all_shares rows ≤ MOST_PLACES → tally_by vote_on rows ≡ tally_by (vote_at cutoffs given ended authorities casts resolution) rows
  tallies_agree rows few = λ k. record {
    votes_for = all_votes For rows few k;
    votes_against = all_votes Against rows few k;
    withheld = all_votes Withheld rows few k;
    eligible = sum_by shares_of rows;
  }
