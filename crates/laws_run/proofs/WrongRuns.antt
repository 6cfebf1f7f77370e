-- What is wrong with wrong ways to decide calls is caught by the law of runs.
use Rattle.std.proofs.Common.{◌∙◌, subst, ◌≡◌, ℕ, suc, Bool, true, false, cond, List, [], ◌∷◌, length, refl, ap, sym, arith, true≢false}
use Rattle.std.specs.Prelude.{Some, None}
use Rattle.std.specs.Option.{option_map_or}
use Rattle.std.proofs.Math.Bool.{or-false}
use Rattle.laws_step.specs.WrongOfficeReads.{lone_office}
use Rattle.vocabulary.specs.Names.{same_name}
use Rattle.desk_words.proofs.WordRowLemmas.{same_name-true}
use Rattle.desk_words.specs.Changes.{changed}
use Rattle.desk_words.specs.declared.change.MeetingChange.TheVariants.{SetRegister}
use Rattle.desk_words.specs.declared.office.MeetingLists.{MeetingLists}
use Rattle.desk_words.specs.declared.office.OfficeLists.{OfficeLists}
use Rattle.desk_words.specs.declared.records.RegisterRow.{RegisterRow}
use Rattle.desk_words.specs.declared.reply.Reply.{Reply}
use Rattle.desk_words.specs.declared.reply.Reply.TheVariants as reply
use Rattle.desk_words.specs.declared.request.Call.{Call}
use Rattle.desk_words.specs.declared.request.PartyRequest.TheVariants.{Mine}
use Rattle.proxy_rules.specs.Shares.{row_of}
use Rattle.party_views.specs.Views.{public_in, public_of}
use Rattle.office_days.specs.WorkingDays.{greatest_that, numbers_that}
use Rattle.laws_step.specs.Loads.{Deciding, after_call}
use Rattle.laws_step.specs.WrongAnswers.{a_meeting, a_member, another, meeting_with_casts, office_with, one_share}
use Rattle.laws_run.specs.Isolation.{AreIndistinguishable, IsolatesRuns}
use Rattle.laws_run.specs.RunSecrecy.{VotesAreSecret}
use Rattle.laws_run.specs.SecretCalls.{Secret, all_but}
use Rattle.laws_run.specs.NearParts.{IsSourced, Viewer, is_near, is_sourced_in, rows_near}
use Rattle.laws_run.specs.WrongMoments.{another_meeting, appoints_elsewhere, asks_notice, both_appoint_apart, meeting_elsewhere, moves_the_record, office_of_both, shows_the_row}
use Rattle.laws_run.specs.WrongReplies.{load_of, loaded_alone, loaded_both, meeting_unloaded, shows_the_place, the_other, both_authorise, both_demand, limits_all, meeting_of_unequals, meeting_with_authorities, meeting_with_proxy, member_asks, member_authorises, member_demands, proxy_votes_first, shows_voters_turnout, shows_votes_on_shares, shows_whether_enough}
use Rattle.laws_run.specs.Traces.{Office, Register, Whole}
use Rattle.laws_run.specs.WrongWays.{call_by, DistinguishesRuns, both_appoint, both_vote, member_appoints, member_votes, shows_all_numbers, shows_the_count, the_member}

-- nobody named or authorised the member in the office
sourced : IsSourced the_member (office_with [])
sourced id =
    elim (same_name a_meeting id) as (λ b. is_sourced_in the_member (cond b (Some (meeting_with_casts [])) None) ≡ true) [ true ↦ refl | false ↦ refl ]

itself : AreIndistinguishable the_member (office_with []) (office_with [])
itself = record { parts = λ id. refl; first = sourced; second = sourced }

-- a number that a reply tells: of votes for the resolution, of an appointment, or of all votes
abbrev number_shown : List Reply → ℕ
number_shown [] = 0
number_shown (reply.Ended number ∷ replies) = number
number_shown (reply.Declared declared ∷ replies) = declared.tally.votes_for
number_shown (reply.Appointed receipt ∷ replies) = receipt.number
number_shown (other ∷ replies) = 0

pub votes_apart : DistinguishesRuns shows_the_count the_member (office_with []) member_votes both_vote
votes_apart = record {
  is_one = refl;
  alike = itself;
  near = refl;
  near_again = refl;
  same = refl;
  apart = λ h. (let returned : 0 ≡ 1 = ap number_shown h in absurd (omega arith));
}

pub numbers_apart : DistinguishesRuns shows_all_numbers the_member (office_with []) member_appoints both_appoint
numbers_apart = record {
  is_one = refl;
  alike = itself;
  near = refl;
  near_again = refl;
  same = refl;
  apart = λ h. (let returned : 1 ≡ 2 = ap number_shown h in absurd (omega arith));
}

pub turnout_apart : DistinguishesRuns shows_voters_turnout the_member (office_with []) member_votes both_vote
turnout_apart = record {
  is_one = refl;
  alike = itself;
  near = refl;
  near_again = refl;
  same = refl;
  apart = λ h. (let returned : 0 ≡ 1 = ap number_shown h in absurd (omega arith));
}

-- the votes of all but the member, of which the law of secrecy shows it nothing
abbrev votes_of_others : Secret
votes_of_others = record { voters = all_but a_member; meeting = a_meeting; resolution = 1 }

-- one is not none
differ : (n : ℕ) → suc n ≡ 0 → ⊥
differ n h = absurd (omega (arith, h))

pub total_secret : VotesAreSecret shows_the_count → ⊥
total_secret law = differ 0 (ap number_shown ((law votes_of_others (office_with []) both_vote).parties refl a_member refl))

pub turnout_secret : VotesAreSecret shows_voters_turnout → ⊥
turnout_secret law = differ 0 (ap number_shown ((law votes_of_others (office_with []) both_vote).parties refl a_member refl))

-- ---- an office of one meeting

-- nobody named or authorised the member there, where it is so in the meeting
sourced_of : (m : MeetingLists) → is_sourced_in the_member (Some m) ≡ true → IsSourced the_member (lone_office m)
sourced_of m h id =
    elim (same_name m.meeting.id id) as (λ b. is_sourced_in the_member (cond b (Some m) None) ≡ true) [ true ↦ h | false ↦ refl ]

itself_of : (m : MeetingLists) → is_sourced_in the_member (Some m) ≡ true → AreIndistinguishable the_member (lone_office m) (lone_office m)
itself_of m h = record { parts = λ id. refl; first = sourced_of m h; second = sourced_of m h }

-- whether the last reply is that it is the same, or a refusal
abbrev is_same : List Reply → Bool
is_same (reply.Same ∷ replies) = true
is_same other = false

abbrev is_refusal : List Reply → Bool
is_refusal (reply.Refused refusal ∷ replies) = true
is_refusal other = false

-- the number of votes that the reply tells
abbrev votes_returned : List Reply → ℕ
votes_returned (reply.Mine mine ∷ replies) = length mine.casts
votes_returned other = 0

pub enough_apart : DistinguishesRuns shows_whether_enough the_member (lone_office meeting_of_unequals) member_demands both_demand
enough_apart = record {
  is_one = refl;
  alike = itself_of meeting_of_unequals refl;
  near = refl;
  near_again = refl;
  same = refl;
  apart = λ h. (let returned : false ≡ true = ap is_same h in absurd (true≢false (sym returned)));
}

pub shares_apart : DistinguishesRuns shows_votes_on_shares the_member (lone_office meeting_with_proxy) member_asks proxy_votes_first
unfolding numbers_that greatest_that
shares_apart = record {
  is_one = refl;
  alike = itself_of meeting_with_proxy refl;
  near = refl;
  near_again = refl;
  same = refl;
  apart = λ h. (let returned : 0 ≡ 1 = ap votes_returned h in absurd (omega arith));
}

pub limits_apart : DistinguishesRuns limits_all the_member (lone_office meeting_with_authorities) member_authorises both_authorise
limits_apart = record {
  is_one = refl;
  alike = itself_of meeting_with_authorities refl;
  near = refl;
  near_again = refl;
  same = refl;
  apart = λ h. (let returned : false ≡ true = ap is_refusal h in absurd (true≢false (sym returned)));
}

-- ---- a place in the register

-- nobody named or authorised the other member in the meeting before its register is loaded
sourced_other : IsSourced the_other (lone_office meeting_unloaded)
sourced_other id =
    elim (same_name a_meeting id) as (λ b. is_sourced_in the_other (cond b (Some meeting_unloaded) None) ≡ true) [ true ↦ refl | false ↦ refl ]

-- the rows near the other member are the same, whether the member's row stands before its own or not
rows-same : (member : List ℕ) → rows_near the_other (one_share another ∷ []) member ≡ rows_near the_other (one_share a_member ∷ one_share another ∷ []) member
rows-same member =
    let alone = one_share another ∷ [] in
    let both = one_share a_member ∷ one_share another ∷ [] in
    (elim (is_near the_other member) as (λ b. is_near the_other member ≡ b → cond b (row_of alone member) None ≡ cond b (row_of both member) None) [
      | true ↦ λ is. (
          let name : member ≡ another = same_name-true member another (sym (or-false (same_name member another)) ∙ is) in
          subst (λ who. row_of alone who ≡ row_of both who) (sym name) refl)
      | false ↦ λ far. refl
    ]) refl

-- and so is what is public
abbrev after_load : List RegisterRow → OfficeLists
after_load rows = after_call shows_the_place (lone_office meeting_unloaded) (load_of rows)

public-same : (id : List ℕ) → public_of (after_load (one_share another ∷ [])) id ≡ public_of (after_load (one_share a_member ∷ one_share another ∷ [])) id
public-same id =
    let alone = changed (SetRegister (one_share another ∷ [])) meeting_unloaded in
    let both = changed (SetRegister (one_share a_member ∷ one_share another ∷ [])) meeting_unloaded in
    elim (same_name a_meeting id) as (λ b. public_in (cond b (Some alone) None) [] ≡ public_in (cond b (Some both) None) []) [ true ↦ refl | false ↦ refl ]

-- the place that the last reply tells
abbrev place_returned : List Reply → ℕ
place_returned (reply.Mine mine ∷ replies) = option_map_or (λ (row : RegisterRow). row.paid) mine.row 0
place_returned other = 0

pub place_apart : DistinguishesRuns shows_the_place the_other (lone_office meeting_unloaded) loaded_alone loaded_both
place_apart = record {
  is_one = refl;
  alike = record { parts = λ id. refl; first = sourced_other; second = sourced_other };
  near = refl;
  near_again = refl;
  same = λ i. Office (Register a_meeting 0 0 (λ member. rows-same member i)) (λ id. public-same id i) ∷ Whole (call_by another Mine) ∷ [];
  apart = λ h. (let returned : 1 ≡ 2 = ap place_returned h in absurd (omega arith));
}

-- ---- a record moment

-- nobody named or authorised the member in either meeting
sourced_both : IsSourced the_member office_of_both
sourced_both id =
    elim (same_name a_meeting id) as (λ b. is_sourced_in the_member (cond b (Some (meeting_with_casts [])) (cond (same_name another_meeting id) (Some meeting_elsewhere) None)) ≡ true) [
      | true ↦ refl
      | false ↦ elim (same_name another_meeting id) as (λ b. is_sourced_in the_member (cond b (Some meeting_elsewhere) None) ≡ true) [ true ↦ refl | false ↦ refl ]
    ]

-- the record moment that the last reply shows
abbrev moment_returned : List Reply → ℕ
moment_returned (reply.Notice notice ∷ replies) = notice.record_moment
moment_returned other = 0

pub record_apart : DistinguishesRuns moves_the_record the_member office_of_both asks_notice appoints_elsewhere
record_apart = record {
  is_one = refl;
  alike = record { parts = λ id. refl; first = sourced_both; second = sourced_both };
  near = refl;
  near_again = refl;
  same = refl;
  apart = λ h. (let returned : 0 ≡ 1 = ap moment_returned h in absurd (omega arith));
}

pub rows_apart : DistinguishesRuns shows_the_row the_member office_of_both member_appoints both_appoint_apart
rows_apart = record {
  is_one = refl;
  alike = record { parts = λ id. refl; first = sourced_both; second = sourced_both };
  near = refl;
  near_again = refl;
  same = refl;
  apart = λ h. (let returned : 1 ≡ 2 = ap number_shown h in absurd (omega arith));
}

-- what tells two such lists apart breaks the law
pub caught_by : (deciding : Deciding) (viewer : Viewer) (office : OfficeLists) (calls again : List Call) → DistinguishesRuns deciding viewer office calls again → IsolatesRuns deciding → ⊥
caught_by deciding viewer office calls again tells law =
    tells.apart (law viewer office office calls again tells.alike tells.near tells.near_again tells.same).replies
