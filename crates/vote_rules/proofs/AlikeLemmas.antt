-- Holdings whose shares all have one vote.
use Rattle.std.proofs.Common.{◌≡◌, ℕ, zero, suc, ◌+◌, ◌≤◌, Bool, true, false, ◌&&◌, cond, List, [], ◌∷◌, refl, sym, ap, ◌∙◌, arith, true≢false}
use Rattle.std.specs.Prelude.{IfSome, is_some, Option, Some, None, ◌==◌, nat_le, find, reverse, option_map, option_and_then}
use Rattle.std.specs.Option.{option_or}
use Rattle.std.specs.Cmp.{first_so, second_so}
use Rattle.std.proofs.lemmas.Bool.{and_from, eqb-true, le-leb, leb-true}
use Rattle.std.proofs.lemmas.Option.{MatchOption-from_none, cond_some}
use Rattle.vocabulary.specs.declared.range.TheConstants.{MOST_PLACES}
use Rattle.vocabulary.specs.Places.{holds, places_that}
use Rattle.vocabulary.specs.declared.kinds.Capacity.TheVariants.{Member}
use Rattle.vocabulary.specs.declared.kinds.Way.{Way}
use Rattle.vocabulary.specs.declared.kinds.Way.TheVariants.{For, Against, Withheld}
use Rattle.desk_words.specs.declared.records.Authority.{Authority}
use Rattle.desk_words.specs.declared.records.RegisterRow.{RegisterRow}
use Rattle.proxy_rules.specs.Shares.{is_individual, shares_of}
use Rattle.proxy_rules.proofs.TileLemmas.{every_place}
use Rattle.proxy_rules.proofs.TurnedLists.{filter_map-reverse}
use Rattle.share_blocks.specs.Pieces.{is_place}
use Rattle.share_blocks.proofs.BlockCoverLemmas.{tags_at-place}
use Rattle.vote_rules.specs.Alike.{AllVote, is_own, way_of_newest, way_on_all}
use Rattle.vote_rules.specs.Casts.{Share, find_map}
use Rattle.vote_rules.specs.VoteCovers.{cover_of, vote_covers, vote_pieces, vote_among, way_at, way_number, way_tagged}
use Rattle.vote_rules.specs.Sums.{tally_to, with_votes}
use Rattle.vote_rules.specs.Tallies.{is_vote, votes_to}
use Rattle.vote_rules.specs.Votes.{first_that_applies}
use Rattle.vote_rules.specs.declared.received.BlockCast.{BlockCast}
use Rattle.vote_rules.proofs.VoteCastLemmas.{cover_way, way_of_covers, way_of_tag}
use Rattle.vote_rules.proofs.VoteCountLemmas.{places_that-alike}
use Rattle.vote_rules.proofs.VoteListLemmas.{find_map-filter_map}

-- ---- the newest of a member's own blocks

-- the way of a block on a place, if the voter casts it as the member
abbrev own_way : List ℕ → ℕ → BlockCast → Option Way
own_way voter place c = option_and_then (cover_way None place) (cover_of Member voter c)

-- a block on all shares has its way on each
way_of_all : (shares place : ℕ) (way : Way) (c : BlockCast) → 1 ≤ place → place ≤ shares → way_on_all shares c ≡ Some way → cover_way None place (c.block.range, way_number c.block.way) ≡ Some way
way_of_all shares place way c low high e =
    let range = c.block.range in
    let is = cond_some (range.from == 1 && nat_le shares range.to) c.block.way way e in
    let from : range.from ≡ 1 = eqb-true range.from 1 (first_so (range.from == 1) (nat_le shares range.to) is.0) in
    let to : shares ≤ range.to = leb-true shares range.to (second_so (range.from == 1) (nat_le shares range.to) is.0) in
    ap (λ b. cond b (way_tagged None (way_number c.block.way)) None) (and_from (nat_le range.from place) (nat_le place range.to) (le-leb range.from place (omega (arith, from, low))) (le-leb place range.to (omega (arith, to, high))))
    ∙ way_of_tag None c.block.way
    ∙ ap (λ w. Some w) is.1

-- so has the newest of those that the voter casts as the member
newest_way : (voter : List ℕ) (shares place : ℕ) (way : Way) → 1 ≤ place → place ≤ shares → (blocks : List BlockCast) → option_and_then (way_on_all shares) (find (is_own voter) blocks) ≡ Some way
    → find_map (own_way voter place) blocks ≡ Some way
newest_way voter shares place way low high [] e = e
newest_way voter shares place way low high (c ∷ blocks) e =
    (elim (is_own voter c) as (λ b. option_and_then (way_on_all shares) (cond b (Some c) (find (is_own voter) blocks)) ≡ Some way
    → option_or (option_and_then (cover_way None place) (cond b (Some (c.block.range, way_number c.block.way)) None)) (find_map (own_way voter place) blocks) ≡ Some way) [
      | true ↦ λ h. ap (λ o. option_or o (find_map (own_way voter place) blocks)) (way_of_all shares place way c low high h)
      | false ↦ λ h. newest_way voter shares place way low high blocks h
    ]) e

-- the voter's cast as the member, where it casts nothing as instructed
way_by_newest : (casts : List BlockCast) (last : List ℕ → Option ℕ) (voter : List ℕ) (shares place : ℕ) (way : Way) → last voter ≡ None → is_place place ≡ true → place ≤ shares
    → way_of_newest shares voter casts ≡ Some way → way_at None (vote_pieces casts last Member voter) place ≡ Some way
way_by_newest casts last voter shares place way none is high e =
    let covers = vote_covers Member voter casts (last voter) in
    let low : 1 ≤ place = leb-true 1 place (first_so (nat_le 1 place) (nat_le place MOST_PLACES) is) in
    ap (find_map (way_tagged None)) (tags_at-place covers place is)
    ∙ way_of_covers None covers place
    ∙ ap (λ o. find_map (cover_way None place) (reverse (vote_covers Member voter casts o))) none
    ∙ ap (find_map (cover_way None place)) (filter_map-reverse (cover_of Member voter) casts)
    ∙ find_map-filter_map (cover_way None place) (cover_of Member voter) (reverse casts)
    ∙ newest_way voter shares place way low high (reverse casts) e

holder_votes : (b : Bool) (o : Option Way) (way : Way) (rules : List (Option (Option Way))) → b ≡ true → o ≡ Some way → first_that_applies (cond b (option_map (λ w. Some w) o) None ∷ rules) ≡ Some way
holder_votes b o way rules holds is = λ i. first_that_applies (cond (holds i) (option_map (λ w. Some w) (is i)) None ∷ rules)

-- each share of the individual has the vote of its newest block, if that is on all of them
pub own_alike : (casts : List BlockCast) (last : List ℕ → Option ℕ) (row : RegisterRow) (way : Way) → is_individual row.kind ≡ true → last row.member ≡ None
    → way_of_newest (shares_of row) row.member casts ≡ Some way → AllVote casts last row (Some way)
own_alike casts last row way holds none e = λ authorities resolution share is high.
    holder_votes (is_individual row.kind) _ way _ holds (way_by_newest casts last row.member (shares_of row) share.place way none is high e)

-- ---- counts of shares that vote alike

-- votes that are the same on each of the places 1 to n are counted alike
tally_to-alike : (vote other : ℕ → Option Way) (n : ℕ) → ((place : ℕ) → 1 ≤ place → place ≤ n → vote place ≡ other place) → tally_to vote n ≡ tally_to other n
tally_to-alike vote other n alike =
    let counted : (way : Way) → votes_to vote way n ≡ votes_to other way n =
    λ way. places_that-alike (λ place. is_vote way (vote place)) (λ place. is_vote way (other place)) n (λ place low high. ap (is_vote way) (alike place low high)) in
    λ i. record { votes_for = counted For i; votes_against = counted Against i; withheld = counted Withheld i; eligible = n }

all_or_none : (b : Bool) (n : ℕ) → places_that (λ place. b) n ≡ cond b n 0
all_or_none true n = every_place n
all_or_none false zero = refl
all_or_none false (suc n) = ap (λ k. k + 0) (all_or_none false n)

-- the count of so many shares that all have this vote
pub tally_of-alike : (vote : Option Way) (n : ℕ) → with_votes vote n (record { votes_for = 0; votes_against = 0; withheld = 0; eligible = 0 }) ≡ tally_to (λ _. vote) n
tally_of-alike vote n =
    let counted : (way : Way) → 0 + cond (is_vote way vote) n 0 ≡ votes_to (λ _. vote) way n = λ way. omega (arith, all_or_none (is_vote way vote) n) in
    let all : 0 + n ≡ n = omega arith in
    λ i. record { votes_for = counted For i; votes_against = counted Against i; withheld = counted Withheld i; eligible = all i }

-- ---- options

-- what follows where there is a value
pub where_some : {X : Type 0} (o : Option X) (P : X → Type 0) → ((x : X) → o ≡ Some x → P x) → IfSome o P
where_some None P given = MatchOption-from_none None P refl
where_some (Some x) P given = given x refl

pub none_there : {X : Type 0} (b : Bool) (o : Option X) → b ≡ is_some o → b ≡ false → o ≡ None
none_there b None same fails = refl
none_there b (Some x) same fails = absurd (true≢false (sym same ∙ fails))

-- ---- a row

-- where each share of a row has one vote, whoever governs it, so has each that some appointment governs
pub row_alike : (casts : List BlockCast) (last : List ℕ → Option ℕ) (row : RegisterRow) (vote : Option Way) (authorities : List Authority) (resolution : ℕ) (share : ℕ → Share) → ((place : ℕ) → (share place).place ≡ place)
    → shares_of row ≤ MOST_PLACES → AllVote casts last row vote → tally_to (λ place. vote_among casts last authorities resolution row (share place)) (shares_of row) ≡ tally_to (λ _. vote) (shares_of row)
row_alike casts last row vote authorities resolution share at few all =
    tally_to-alike (λ place. vote_among casts last authorities resolution row (share place)) (λ _. vote) (shares_of row)
    (λ place low high.
    let within : place ≤ MOST_PLACES = omega (arith, few, high) in
    let is : is_place (share place).place ≡ true = ap is_place (at place) ∙ and_from (nat_le 1 place) (nat_le place MOST_PLACES) (le-leb 1 place low) (le-leb place MOST_PLACES within) in
    all authorities resolution (share place) is (omega (arith, at place, high)))
