-- Why a vote on a range of places is refused, where its poll is open.
use Rattle.std.proofs.Common.{◌≡◌, Bool, true, false, not, List, ◌∷◌, Some, sym, ◌∙◌}
use Rattle.std.specs.Prelude.{Option, is_none}
use Rattle.vocabulary.specs.Refusals.{Case, first_refusal}
use Rattle.vocabulary.specs.declared.refusal.Refusal.TheVariants.{TooMany, NoRegister, NoRight, NoPoll, PollNotOpen, PollClosed}
use Rattle.desk_words.specs.Finding.{poll_on}
use Rattle.desk_words.specs.PollStates.{is_closed, is_waiting, there_is}
use Rattle.desk_words.specs.declared.records.Meeting.{Meeting}
use Rattle.desk_words.specs.declared.records.Poll.{Poll}
use Rattle.desk_words.specs.declared.request.NewCast.{NewCast}
use Rattle.desk_words.specs.Sessions.{last_number}
use Rattle.proxy_rules.specs.Uses.{Vote, vote_on}
use Rattle.caller_view.specs.CastRulings.{cast_range_cases, has_cast_enough, right_cases}
use Rattle.party_views.specs.Public.{PublicRecord}
use Rattle.caller_view.specs.Rights.{governed_for, may_vote_for}
use Rattle.party_views.specs.declared.views.OwnView.{OwnView}

module _ (public : PublicRecord) (meeting : Meeting) (own : OwnView) (new : NewCast) where
  -- the cases of a vote on a range of places, by what they ask before the rights
  abbrev cases_by : Bool → Bool → Bool → Bool → Bool → Bool → Option Poll → List Case
  cases_by enough loaded may none waiting closed found =
      record { refusal = TooMany; holds = enough }
      ∷ record { refusal = NoRegister; holds = not loaded }
      ∷ record { refusal = NoRight; holds = not may }
      ∷ record { refusal = NoPoll; holds = none }
      ∷ record { refusal = PollNotOpen; holds = waiting }
      ∷ record { refusal = PollClosed; holds = closed }
      ∷ right_cases own (governed_for public.closed (vote_on (last_number meeting) found)) new

  -- where nothing refuses it before, a vote is refused by the rights to vote on its poll
  pub refused_on : (poll : Poll) → poll_on public.polls new.resolution ≡ Some poll → has_cast_enough own new.resolution ≡ false → meeting.loaded ≡ true
      → may_vote_for own new.member new.capacity ≡ true → is_waiting poll ≡ false → is_closed poll ≡ false
      → first_refusal (right_cases own (governed_for public.closed (Vote poll)) new) ≡ first_refusal (cast_range_cases public meeting own new)
  refused_on poll there enough loaded may waiting closed =
      let found : first_refusal (cast_range_cases public meeting own new)
      ≡ first_refusal (cases_by (has_cast_enough own new.resolution) meeting.loaded (may_vote_for own new.member new.capacity) false (is_waiting poll) (is_closed poll) (Some poll)) =
      λ i. first_refusal (cases_by (has_cast_enough own new.resolution) meeting.loaded (may_vote_for own new.member new.capacity)
      (is_none (there i)) (there_is is_waiting (there i)) (there_is is_closed (there i)) (there i)) in
      let passed : first_refusal (cases_by (has_cast_enough own new.resolution) meeting.loaded (may_vote_for own new.member new.capacity) false (is_waiting poll) (is_closed poll) (Some poll))
      ≡ first_refusal (right_cases own (governed_for public.closed (Vote poll)) new) =
      λ i. first_refusal (cases_by (enough i) (loaded i) (may i) false (waiting i) (closed i) (Some poll)) in
      sym (found ∙ passed)
