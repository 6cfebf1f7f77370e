-- What is wrong with wrong ways to answer the office is caught by the law of secrecy.
use Rattle.std.proofs.Common.{◌≡◌, ℕ, Bool, true, false, List, [], ◌∷◌, refl, ap, sym, arith, true≢false}
use Rattle.desk_words.specs.declared.office.OfficeLists.{OfficeLists}
use Rattle.desk_words.specs.declared.reply.Reply.{Reply}
use Rattle.desk_words.specs.declared.reply.Reply.TheVariants as reply
use Rattle.desk_words.specs.declared.request.Call.{Call}
use Rattle.laws_step.specs.Loads.{Deciding}
use Rattle.laws_step.specs.WrongAnswers.{office_with}
use Rattle.laws_run.specs.RunSecrecy.{KeepsSecretsInSteps, VotesAreSecret}
use Rattle.laws_run.specs.WrongCounts.{ShowsVotes, all_votes, calls_without_votes, closes_after_votes, declares_after_five, four_votes, meeting_of_two, shows_turnout, shows_turnout_of_others, vote_and_call, vote_and_close, vote_and_declare, vote_and_declare_another}
use Rattle.laws_step.specs.WrongOfficeReads.{lone_office}
use Rattle.laws_run.proofs.SecretRuns.{secrets_preserved_in_runs, votes_left_out}

-- the number that the first reply tells, and whether the last reply is a refusal
abbrev number_shown : List Reply → ℕ
number_shown (reply.Ended number ∷ replies) = number
number_shown (reply.Declared result ∷ replies) = result.tally.withheld
number_shown other = 0

abbrev is_refused_at : Reply → Bool
is_refused_at (reply.Refused refusal) = true
is_refused_at other = false

abbrev is_refusal : List Reply → Bool
is_refusal [] = false
is_refusal (returned ∷ []) = is_refused_at returned
is_refusal (returned ∷ replies) = is_refusal replies

pub turnout_shown : ShowsVotes shows_turnout (office_with []) vote_and_close
turnout_shown = record {
  is_one = refl;
  apart = λ h. (let returned : 1 ≡ 0 = ap number_shown h in absurd (omega arith));
}

pub others_shown : ShowsVotes shows_turnout_of_others (lone_office meeting_of_two) vote_and_declare_another
others_shown = record {
  is_one = refl;
  apart = λ h. (let returned : 1 ≡ 0 = ap number_shown h in absurd (omega arith));
}

pub turnout_asked : ShowsVotes closes_after_votes (office_with []) vote_and_close
turnout_asked = record {
  is_one = refl;
  apart = λ h. (let returned : false ≡ true = ap is_refusal h in absurd (true≢false (sym returned)));
}

pub five_asked : ShowsVotes declares_after_five (office_with four_votes) vote_and_declare
five_asked = record {
  is_one = refl;
  apart = λ h. (let returned : false ≡ true = ap is_refusal h in absurd (true≢false (sym returned)));
}

pub votes_asked : ShowsVotes calls_without_votes (office_with []) vote_and_call
votes_asked = record {
  is_one = refl;
  apart = λ h. (let returned : true ≡ false = ap is_refusal h in absurd (true≢false returned));
}

-- what tells the office of votes breaks the law
pub shown_caught : (deciding : Deciding) (office : OfficeLists) (calls : List Call) → ShowsVotes deciding office calls → VotesAreSecret deciding → ⊥
shown_caught deciding office calls tells law = tells.apart (law all_votes office calls).office

-- and so its steps do not all keep votes secret
pub shown_caught_in_steps : (deciding : Deciding) (office : OfficeLists) (calls : List Call) → ShowsVotes deciding office calls → KeepsSecretsInSteps deciding → ⊥
shown_caught_in_steps deciding office calls tells steps =
    shown_caught deciding office calls tells (votes_left_out deciding (secrets_preserved_in_runs deciding steps))
