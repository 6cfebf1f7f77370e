-- How calls are refused: by conditions in the one order, and without a change.
use Rattle.std.specs.Prelude.{◌≡◌, ℕ, nat_lt, Bool, true, ◌&&◌, List, [], ◌∷◌, None}
use Rattle.desk_words.specs.Refusals.{Case, first_refusal, number_of}
use Rattle.desk_words.specs.Rulings.{refusal_in}
use Rattle.desk_words.specs.declared.office.OfficeLists.{OfficeLists}
use Rattle.desk_words.specs.declared.reply.Reply.TheVariants as reply
use Rattle.desk_words.specs.declared.request.Call.{Call}
use Rattle.vocabulary.specs.declared.refusal.Refusal.{Refusal}
use Rattle.meeting_core.specs.Step.{decided, ruling, stepped}

-- all the conditions under which a call is refused: those of the sides, of the meeting, and of what
-- is asked
abbrev pub all_cases : OfficeLists → Call → List Case
all_cases o call = (ruling o call.moment call.caller call.request).cases

-- each condition has a higher number than the one before it, the first one than the number given
abbrev pub ascend_from : ℕ → List Case → Bool
ascend_from n [] = true
ascend_from n (case ∷ cases) =
    nat_lt n (number_of case.refusal) && ascend_from (number_of case.refusal) cases

-- they stand in the one order, so that the first that holds has the lowest number
abbrev pub are_in_order : List Case → Bool
are_in_order cases = ascend_from 0 cases

-- the conditions stand in the order of their numbers
abbrev pub ConditionsStandInOrder : Type 0
ConditionsStandInOrder = (o : OfficeLists) (call : Call) → are_in_order (all_cases o call) ≡ true

-- a call is answered by the first condition that holds, which therefore has the lowest number, and
-- else accepted
abbrev pub TheLowestRefusalIsAnswered : Type 0
TheLowestRefusalIsAnswered =
    (o : OfficeLists) (call : Call)
    → refusal_in (decided o call).reply ≡ first_refusal (all_cases o call)

-- a refused call has no change
abbrev pub RefusedCallsHaveNoChange : Type 0
RefusedCallsHaveNoChange =
    (office : OfficeLists) (call : Call) (refusal : Refusal)
    → (decided office call).reply ≡ reply.Refused refusal
    → (decided office call).change ≡ None

-- and the office after it is the office before it
abbrev pub RefusedCallsLeaveTheOffice : Type 0
RefusedCallsLeaveTheOffice =
    (office : OfficeLists) (call : Call) (refusal : Refusal)
    → (decided office call).reply ≡ reply.Refused refusal
    → stepped office call ≡ office
