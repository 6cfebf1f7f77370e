-- Instructions and the places that keep them.
use Rattle.std.proofs.Common.{◌≡◌, ◌≤◌, List, [], ◌∷◌, ◌++◌, length, take, refl, ap}
use Rattle.std.specs.Prelude.{replicate}
use Rattle.vocabulary.specs.InstructionPlaces.{IsFilled, in_instruction_places}
use Rattle.vocabulary.specs.declared.instructions.TheConstants.{MOST_INSTRUCTIONS}
use Rattle.vocabulary.specs.declared.kinds.Instr.{Instr}

pub take_front : (xs ys : List Instr) → take (length xs) (xs ++ ys) ≡ xs
take_front [] ys = refl
take_front (x ∷ xs) ys = ap (λ zs. x ∷ zs) (take_front xs ys)

-- what was put into the places fills them
pub filled : (kinds : List Instr) → length kinds ≤ MOST_INSTRUCTIONS → IsFilled (length kinds) (in_instruction_places MOST_INSTRUCTIONS kinds)
filled kinds few =
    let front = take_front kinds (replicate _ _) in
    record { few = few; used = ap length front; rest = ap (in_instruction_places MOST_INSTRUCTIONS) front }
