-- The instructions of an appointment, which are kept in a fixed number of places.
use Rattle.std.specs.Prelude.{◌≡◌, ℕ, ◌-◌, ◌≤◌, nat_le, List, ◌++◌, length, take, replicate, Option, Some, None, if◌then◌else◌}
use Rattle.vocabulary.specs.declared.instructions.TheConstants.{MOST_INSTRUCTIONS}
use Rattle.vocabulary.specs.declared.kinds.Instr.{Instr}
use Rattle.vocabulary.specs.declared.kinds.Instr.TheVariants.{Free}

-- the instructions, if there are at most `MOST_INSTRUCTIONS`
abbrev pub as_instructions : List Instr → Option (List Instr)
as_instructions kinds = if nat_le (length kinds) MOST_INSTRUCTIONS then Some kinds else None

-- the instructions in a number of places, with `Free` in those after them
abbrev pub in_instruction_places : ℕ → List Instr → List Instr
in_instruction_places places kinds = kinds ++ replicate (places - length kinds) Free

-- places of which the first so many are used, and the others hold `Free`
pub record IsFilled (count : ℕ) (places : List Instr) : Type 0 where
  pub few : count ≤ MOST_INSTRUCTIONS
  pub used : length (take count places) ≡ count
  pub rest : in_instruction_places MOST_INSTRUCTIONS (take count places) ≡ places
