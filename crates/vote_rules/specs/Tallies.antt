-- The count of a poll.
use Rattle.std.specs.Prelude.{ℕ, Bool, false, List, sum_by, Option, Some, None}
use Rattle.vocabulary.specs.Places.{places_that}
use Rattle.vocabulary.specs.declared.kinds.Way.{Way}
use Rattle.vocabulary.specs.declared.kinds.Way.TheVariants.{For, Against, Withheld}
use Rattle.desk_words.specs.ViewTypes.{Number, Party, Place}
use Rattle.desk_words.specs.declared.records.Appointment.{Appointment}
use Rattle.desk_words.specs.declared.records.Authority.{Authority}
use Rattle.desk_words.specs.declared.records.CastMark.{CastMark}
use Rattle.desk_words.specs.declared.records.Ending.{Ending}
use Rattle.desk_words.specs.declared.records.RegisterRow.{RegisterRow}
use Rattle.desk_words.specs.declared.records.Tally.{Tally}
use Rattle.proxy_rules.specs.declared.holdings.Holding.{Holding}
use Rattle.proxy_rules.specs.declared.meeting_records.Cutoffs.{Cutoffs}
use Rattle.proxy_rules.specs.Governing.{governing_in}
use Rattle.proxy_rules.specs.Holdings.{holding_by}
use Rattle.proxy_rules.specs.Shares.{shares_of}
use Rattle.vote_rules.specs.Casts.{Share, last_cast}
use Rattle.proxy_rules.specs.Instructions.{same_way}
use Rattle.vote_rules.specs.Votes.{valid_vote}

-- there is a vote, and it is that way
abbrev pub is_vote : Way → Option Way → Bool
is_vote way None = false
is_vote way (Some other) = same_way other way

-- how many of the places 1 to n have a vote that way
abbrev pub votes_to : (Place → Option Way) → Way → ℕ → ℕ
votes_to vote way n = places_that (λ place. is_vote way (vote place)) n

-- how many shares of the rows have a vote that way, each share one vote (section 284)
abbrev pub votes : (RegisterRow → Place → Option Way) → Way → List RegisterRow → ℕ
votes vote way rows = sum_by (λ row. votes_to (vote row) way (shares_of row)) rows

-- for each way the number of shares whose vote it is, and the number of all shares (sections 284
-- and 322)
abbrev pub tally_by : (RegisterRow → Place → Option Way) → List RegisterRow → Tally
tally_by vote rows = record {
  votes_for = votes vote For rows;
  votes_against = votes vote Against rows;
  withheld = votes vote Withheld rows;
  eligible = sum_by shares_of rows;
}

-- the share of a holding at a place, with the appointment that governs it by these cutoffs (section
-- 324)
abbrev pub share_at : Cutoffs → Holding → Party → Place → Share
share_at cutoffs holding member place = record {
  member = member;
  place = place;
  governing = governing_in cutoffs holding place;
}

-- the valid vote of the share of a row at a place (section 284)
abbrev pub vote_at : Cutoffs → List Appointment → List Ending → List Authority → List CastMark
    → Number → RegisterRow → Place → Option Way
vote_at cutoffs given ended authorities casts resolution row place =
    let share = share_at cutoffs (holding_by given ended row) row.member place in
    valid_vote (last_cast casts resolution share) authorities resolution row share.governing

-- the tally of a poll on a resolution, by the valid vote of each share (sections 284, 322 and 726)
abbrev pub tally_of : Cutoffs → List RegisterRow → List Appointment → List Ending → List Authority
    → List CastMark → Number → Tally
tally_of cutoffs register given ended authorities casts resolution =
    tally_by (vote_at cutoffs given ended authorities casts resolution) register
