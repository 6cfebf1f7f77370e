-- Views that show more than own things are caught.
use Rattle.std.proofs.Common.{◌≡◌, [], ◌∷◌, length, refl, ap, arith}
use Rattle.desk_words.specs.declared.office.MeetingLists.{MeetingLists}
use Rattle.party_views.specs.OwnCasts.{all_casts}
use Rattle.party_views.specs.declared.views.OwnView.{OwnView}
use Rattle.laws_step.specs.OwnThings.{OwnThingsFunction, DependsOnOwnAlone}
use Rattle.laws_step.specs.WrongAnswers.{a_member, meeting_with_casts, vote_of_another}
use Rattle.laws_step.specs.WrongOwnThings.{ShowsMore, demands_of_all, meeting_with_demand, meeting_with_presence, presence_of_any, quiet_meeting, votes_of_all}

pub votes_more : ShowsMore votes_of_all quiet_meeting (meeting_with_casts (vote_of_another ∷ [])) a_member
votes_more = record {
  first = refl;
  second = refl;
  agree = refl;
  apart = λ h. (let shown : 0 ≡ 1 = ap (λ (own : OwnView). length (all_casts own.casts)) h in absurd (omega arith));
}

pub presence_more : ShowsMore presence_of_any quiet_meeting meeting_with_presence a_member
presence_more = record {
  first = refl;
  second = refl;
  agree = refl;
  apart = λ h. (let shown : 0 ≡ 1 = ap (λ (own : OwnView). length own.presences) h in absurd (omega arith));
}

pub demands_more : ShowsMore demands_of_all quiet_meeting meeting_with_demand a_member
demands_more = record {
  first = refl;
  second = refl;
  agree = refl;
  apart = λ h. (let shown : 0 ≡ 1 = ap (λ (own : OwnView). length own.demands) h in absurd (omega arith));
}

-- what tells two such meetings apart breaks the law
pub caught_by : (view : OwnThingsFunction) (one other : MeetingLists) → ShowsMore view one other a_member → DependsOnOwnAlone view → ⊥
caught_by view one other more law = more.apart (law one other [] a_member 0 more.agree)
