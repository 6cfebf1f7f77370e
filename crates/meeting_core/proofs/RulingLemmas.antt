-- Laws of rulings, whatever they decide.
use Rattle.std.proofs.Common.{◌≡◌, Bool, true, false, ◌==◌, cond, List, [], ◌∷◌, refl, ap}
use Rattle.std.specs.Prelude.{Option, Some, None, is_some, if◌then◌else◌}
use Rattle.desk_words.specs.Refusals.{Case, first_refusal, number_of}
use Rattle.desk_words.specs.Rulings.{Ruling, in_found, is_refused, loaded, refusal_in, map_ruling_change, ruled_answer, refused_or, map_change}
use Rattle.desk_words.specs.declared.answer.Answer.{Answer}
use Rattle.vocabulary.specs.declared.refusal.Refusal.{Refusal}

-- ---- the answer

-- where nothing is refused, what is accepted is no refusal
pub record IsSound {C : Type 0} (ruling : Ruling C) : Type 0 where
  pub sound : first_refusal ruling.cases ≡ None → refusal_in ruling.accepted.reply ≡ None

quiet_by : {C : Type 0} (refusal : Option Refusal) (accepted : Answer C) → (refusal ≡ None → refusal_in accepted.reply ≡ None)
    → is_refused (refused_or refusal accepted) ≡ true → (refused_or refusal accepted).change ≡ None
quiet_by None accepted sound h = let none = ap is_some (sound refl) in absurd (cc)
quiet_by (Some r) accepted sound h = refl

-- an answer that refuses changes nothing
pub quiet_of : {C : Type 0} (ruling : Ruling C) → IsSound ruling → is_refused (ruled_answer ruling) ≡ true → (ruled_answer ruling).change ≡ None
quiet_of ruling s h = quiet_by (first_refusal ruling.cases) ruling.accepted s.sound h

change_by : {C : Type 0} (P : Option C → Type 0) (refusal : Option Refusal) (accepted : Answer C) → P None → (refusal ≡ None → P accepted.change)
    → P (refused_or refusal accepted).change
change_by P None accepted none k = k refl
change_by P (Some r) accepted none k = none

-- what holds of no change, and of the accepted one where nothing is refused, holds of the answer's
pub change_of : {C : Type 0} (P : Option C → Type 0) (ruling : Ruling C) → P None → (first_refusal ruling.cases ≡ None → P ruling.accepted.change)
    → P (ruled_answer ruling).change
change_of P ruling none k = change_by P (first_refusal ruling.cases) ruling.accepted none k

unless_within : {C D : Type 0} (larger : C → D) (refusal : Option Refusal) (accepted : Answer C)
    → refused_or refusal (map_change larger accepted) ≡ map_change larger (refused_or refusal accepted)
unless_within larger None accepted = refl
unless_within larger (Some r) accepted = refl

-- what is settled in something larger is what is settled, made there
pub settled_within : {C D : Type 0} (larger : C → D) (ruling : Ruling C) → ruled_answer (map_ruling_change larger ruling) ≡ map_change larger (ruled_answer ruling)
settled_within larger ruling = unless_within larger (first_refusal ruling.cases) ruling.accepted

-- ---- the parts of a ruling

-- what is loaded is no refusal
pub loaded_accepted : {C : Type 0} (same : Bool) (change : C) → refusal_in (loaded same change).reply ≡ None
loaded_accepted true change = refl
loaded_accepted false change = refl

pub sound_in_found : {X C : Type 0} (found : Option X) (f : X → Ruling C) → ((x : X) → refusal_in (f x).accepted.reply ≡ None) → IsSound (in_found found f)
sound_in_found None f h = record { sound = λ e. absurd (cc) }
sound_in_found (Some x) f h = record { sound = λ _. h x }

pub sound_within : {C D : Type 0} (larger : C → D) (ruling : Ruling C) → IsSound ruling → IsSound (map_ruling_change larger ruling)
sound_within larger ruling s = record { sound = s.sound }

-- ---- conditions by their names

-- the condition of a refusal
abbrev pub condition : Refusal → List Case → Bool
condition refusal [] = false
condition refusal (case ∷ cases) = if number_of case.refusal == number_of refusal then case.holds else condition refusal cases

none_head : (case : Case) (cases : List Case) → first_refusal (case ∷ cases) ≡ None → (case.holds ≡ false) × (first_refusal cases ≡ None)
none_head case cases =
    elim (case.holds) as (λ b. cond b (Some case.refusal) (first_refusal cases) ≡ None → (b ≡ false) × (first_refusal cases ≡ None))
    [ true ↦ λ h. absurd (cc) | false ↦ λ h. (refl, h) ]

-- where nothing is refused, no condition holds
pub fails : (refusal : Refusal) (cases : List Case) → first_refusal cases ≡ None → condition refusal cases ≡ false
fails refusal [] h = refl
fails refusal (case ∷ cases) h =
    let both = none_head case cases h in
    elim (number_of case.refusal == number_of refusal) as (λ b. cond b case.holds (condition refusal cases) ≡ false)
    [ true ↦ both.0 | false ↦ fails refusal cases both.1 ]
