-- What is made of a count, and the error of one that was refused.
use Rattle.std.proofs.Common.{◌≡◌, refl, subst, sym}
use Rattle.std.specs.Prelude.{Option, Some, None, Result, Ok, Err, IfOk, MatchResult}
use Rattle.desk_words.specs.declared.records.Resolution.{Resolution}
use Rattle.desk_words.specs.declared.records.Tally.{Tally}
use Rattle.office_decisions.specs.PollRulings.{result_on}

-- what holds of what is made of a value holds of what is given, where the error is handed on
pub handed_on : {X Y E : Type 0} (made : Result X E) (given : Result Y E) (P : X → Type 0) (f : X → Y) (Q : Y → Type 0) → ((x : X) → P x → Q (f x))
    → MatchResult made (λ x. given ≡ Ok (f x)) (λ e. given ≡ Err e) → IfOk made P → IfOk given Q
handed_on {X} {Y} {E} (Ok x) given P f Q next is p =
    let R : Result Y E → Type 0 = λ r. IfOk r Q in subst R (sym is) (next x p)
handed_on {X} {Y} {E} (Err e) given P f Q next is p =
    let R : Result Y E → Type 0 = λ r. IfOk r Q in subst R (sym is) tt

-- the result of a poll keeps the count
pub preserved_count : (found : Option Resolution) (tally : Tally) → (result_on found tally).tally ≡ tally
preserved_count None tally = refl
preserved_count (Some resolution) tally = refl
