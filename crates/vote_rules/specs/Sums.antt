-- Sums of counts.
use Rattle.std.specs.Prelude.{ℕ, ◌+◌, ◌<◌, ◌^◌, List, Option, sum_by, if◌then◌else◌}
use Rattle.vocabulary.specs.Places.{Places}
use Rattle.vocabulary.specs.declared.kinds.Way.{Way}
use Rattle.vocabulary.specs.declared.kinds.Way.TheVariants.{For, Against, Withheld}
use Rattle.desk_words.specs.ViewTypes.{Place}
use Rattle.desk_words.specs.declared.records.Tally.{Tally}
use Rattle.proxy_rules.specs.Tiles.{places_if, places_in}
use Rattle.vote_rules.specs.Tallies.{is_vote, votes_to}

-- so many shares more of each fit
pub record FitsMore (t : Tally) (shares : ℕ) : Type 0 where
  pub votes_for : t.votes_for + shares < 2 ^ 64
  pub votes_against : t.votes_against + shares < 2 ^ 64
  pub withheld : t.withheld + shares < 2 ^ 64
  pub eligible : t.eligible + shares < 2 ^ 64

-- a count with so many shares more, which vote alike
abbrev pub with_votes : Option Way → ℕ → Tally → Tally
with_votes vote shares t = record {
  votes_for = t.votes_for + (if is_vote For vote then shares else 0);
  votes_against = t.votes_against + (if is_vote Against vote then shares else 0);
  withheld = t.withheld + (if is_vote Withheld vote then shares else 0);
  eligible = t.eligible + shares;
}

-- how many places of the ranges vote that way, where those of each range vote alike
abbrev pub votes_over : (Place → Option Way) → Way → List Places → ℕ
votes_over vote way ranges = sum_by (places_if (λ place. is_vote way (vote place))) ranges

-- the count of the ranges, the places of each of which vote alike
abbrev pub tally_over : (Place → Option Way) → List Places → Tally
tally_over vote ranges = record {
  votes_for = votes_over vote For ranges;
  votes_against = votes_over vote Against ranges;
  withheld = votes_over vote Withheld ranges;
  eligible = sum_by places_in ranges;
}

-- the count of the places 1 to n
abbrev pub tally_to : (Place → Option Way) → ℕ → Tally
tally_to vote n = record {
  votes_for = votes_to vote For n;
  votes_against = votes_to vote Against n;
  withheld = votes_to vote Withheld n;
  eligible = n;
}

-- the sums fit
pub record FitsBoth (a b : Tally) : Type 0 where
  pub votes_for : a.votes_for + b.votes_for < 2 ^ 64
  pub votes_against : a.votes_against + b.votes_against < 2 ^ 64
  pub withheld : a.withheld + b.withheld < 2 ^ 64
  pub eligible : a.eligible + b.eligible < 2 ^ 64

-- both counts together
abbrev pub added : Tally → Tally → Tally
added a b = record {
  votes_for = a.votes_for + b.votes_for;
  votes_against = a.votes_against + b.votes_against;
  withheld = a.withheld + b.withheld;
  eligible = a.eligible + b.eligible;
}
