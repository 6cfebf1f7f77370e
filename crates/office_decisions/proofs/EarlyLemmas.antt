-- What is refused from what is read first is refused from all of the meeting's lists.
use Rattle.std.proofs.Common.{◌≡◌, ℕ, Bool, true, false, not, ◌&&◌, cond, List, [], ◌∷◌, ◌++◌, Some, None, refl, sym, ap, ◌∙◌}
use Rattle.std.specs.List.{list_any}
use Rattle.desk_words.specs.Refusals.{Case, first_refusal}
use Rattle.desk_words.specs.Rulings.{refused_or}
use Rattle.desk_words.specs.declared.office.MeetingLists.{MeetingLists}
use Rattle.desk_words.specs.declared.request.OfficeRequest.{OfficeRequest}
use Rattle.desk_words.specs.declared.request.OfficeRequest.TheVariants.{LoadRegister, Presence, OpenMeeting, Adjourn, Order, Start, Close, Declare}
use Rattle.vocabulary.specs.declared.refusal.Refusal.{Refusal}
use Rattle.vocabulary.specs.declared.refusal.Refusal.TheVariants.{DemandTooSmall, NoQuorum, PollRunning}
use Rattle.office_decisions.specs.OfficeRulings.{is_some_at_once, office_ruling, ruling_on}
use Rattle.office_decisions.specs.PollRulings.{adjourning_cases, is_running, opening_cases, ordering_cases}
use Rattle.office_decisions.specs.PresenceRulings.{demand_noted, quorum_in}
use Rattle.office_decisions.specs.Early.{EarlyRefusalsStand, early_cases}
use Rattle.office_decisions.proofs.FirstRead.{first-read}

-- a refusal by the first conditions is the refusal by all of them
pub first_of_front : (front rest : List Case) (refusal : Refusal) → first_refusal front ≡ Some refusal → first_refusal (front ++ rest) ≡ Some refusal
first_of_front [] rest refusal h = absurd (cc)
first_of_front (case ∷ front) rest refusal h =
    elim (case.holds) as (λ b. cond b (Some case.refusal) (first_refusal front) ≡ Some refusal → cond b (Some case.refusal) (first_refusal (front ++ rest)) ≡ Some refusal)
    [ true ↦ λ is. is | false ↦ λ is. first_of_front front rest refusal is ] h

-- where none of the first conditions holds, the others decide
pub first_of_rest : (front rest : List Case) → first_refusal front ≡ None → first_refusal (front ++ rest) ≡ first_refusal rest
first_of_rest [] rest h = refl
first_of_rest (case ∷ front) rest h =
    elim (case.holds) as (λ b. cond b (Some case.refusal) (first_refusal front) ≡ None → cond b (Some case.refusal) (first_refusal (front ++ rest)) ≡ first_refusal rest)
    [ true ↦ λ is. absurd (cc) | false ↦ λ is. first_of_rest front rest is ] h

-- a demand that is too small is no refusal at once
pub demand_later : (front : List Case) (small : Bool) → first_refusal front ≡ None → is_some_at_once (first_refusal (front ++ record { refusal = DemandTooSmall; holds = small } ∷ [])) ≡ false
demand_later front small h =
    ap is_some_at_once (first_of_rest front (record { refusal = DemandTooSmall; holds = small } ∷ []) h)
    ∙ elim small as (λ b. is_some_at_once (cond b (Some DemandTooSmall) None) ≡ false) [ true ↦ refl | false ↦ refl ]

-- in a meeting
refused_so : (closed : List ℕ) (now : ℕ) (asked : OfficeRequest) (m : MeetingLists) (refusal : Refusal) → first_refusal (early_cases m now asked) ≡ Some refusal
    → first_refusal (ruling_on closed now asked m).cases ≡ Some refusal
refused_so closed now (LoadRegister new) m refusal h = h
refused_so closed now (Presence party) m refusal h = absurd (cc)
refused_so closed now OpenMeeting m refusal h = first_of_front (opening_cases m.meeting now) (record { refusal = NoQuorum; holds = not (quorum_in m closed now) } ∷ []) refusal h
refused_so closed now (Adjourn appointed) m refusal h = first_of_front (adjourning_cases m.meeting now appointed) (record { refusal = PollRunning; holds = list_any (is_running closed) m.polls } ∷ []) refusal h
refused_so closed now (Order new) m refusal h =
    first_of_front (ordering_cases m now new) (record { refusal = DemandTooSmall; holds = not new.chair && not (demand_noted m closed now new.resolution).reached } ∷ []) refusal h
refused_so closed now (Start resolution) m refusal h = h
refused_so closed now (Close resolution) m refusal h = h
refused_so closed now (Declare resolution) m refusal h = h

pub refusals_stand : EarlyRefusalsStand
refusals_stand closed None now asked refusal h = ap (λ first. refused_or first (office_ruling closed None now asked).accepted) h
refusals_stand closed (Some m) now asked refusal h =
    ap (λ first. refused_or first (ruling_on closed now asked m).accepted) (refused_so closed now asked m refusal (ap first_refusal (sym (first-read asked now m)) ∙ h))
