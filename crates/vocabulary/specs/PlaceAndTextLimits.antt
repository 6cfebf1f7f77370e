-- The limits of the terms, by their numbers.
use Rattle.std.specs.Prelude.{◌≡◌}
use Rattle.vocabulary.specs.declared.instructions.TheConstants.{MOST_INSTRUCTIONS}
use Rattle.vocabulary.specs.declared.range.TheConstants.{MOST_PLACES}
use Rattle.vocabulary.specs.declared.text.TheConstants.{LONGEST_TEXT}

-- the highest place, the most bytes of a text, and the most instructions of an appointment
pub record PlaceAndTextLimitsAre : Type 0 where
  pub places : MOST_PLACES ≡ 1000000000000
  pub text : LONGEST_TEXT ≡ 200
  pub instructions : MOST_INSTRUCTIONS ≡ 50
