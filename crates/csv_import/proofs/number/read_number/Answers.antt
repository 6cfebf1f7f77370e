use Rattle.std.proofs.Common.{◌≡◌, ℕ, ◌+◌, ◌-◌, ◌*◌, ◌<◌, ◌≤◌, ◌^◌, true, rules, arith, ◌∙◌, sym, List, length, take, get_or}
use Rattle.std.specs.Char.{digit_value, is_ascii_digit}
use Rattle.std.specs.Int.{IsInRange}
use Rattle.std.specs.List.{list_all}
use Rattle.std.specs.Str.Parse.{digits_value}
use Rattle.std.proofs.lemmas.Bool.{and_from}
use Rattle.std.proofs.lemmas.Bool.Decides.{nat_tests}
use Rattle.std.proofs.lemmas.Int.Digits.{digits_value_more}
use Rattle.std.proofs.lemmas.List.{length-take}
use Rattle.std.proofs.lemmas.List.Folds.{list_all_more}
use Rattle.std.proofs.lemmas.Str.{digit_value_digit}
use Rattle.std.proofs.lemmas.Str.Parse.{IsNumeralModel, numerals_by_value, digits_value_short}
use Rattle.csv_import.proofs.number.read_number.Goals as goal

own : IsNumeralModel (λ ds. list_all is_ascii_digit ds ≡ true) (digits_value 10)
own = numerals_by_value _ (search rules)

digit : (b : ℕ) → is_ascii_digit b ≡ true → IsInRange 48 57 b
digit b h = (grind (arith, nat_tests), grind (arith, nat_tests))

-- one digit more
module _ (bytes : List ℕ) (i number : ℕ) (few : length bytes ≤ 19) (inside : i < length bytes) (digits : list_all is_ascii_digit (take i bytes) ≡ true) (so_far : number ≡ digits_value 10 (take i bytes))
    (next : is_ascii_digit (get_or bytes i 0) ≡ true) where
  digits-more : list_all is_ascii_digit (take (i + 1) bytes) ≡ true
  digits-more = list_all_more is_ascii_digit bytes i 0 inside ∙ and_from _ _ digits next

  value-more : number * 10 + (get_or bytes i 0 - 48) ≡ digits_value 10 (take (i + 1) bytes)
  value-more =
      let value : digit_value (get_or bytes i 0) + 48 ≡ get_or bytes i 0 = digit_value_digit (get_or bytes i 0) (digit (get_or bytes i 0) next) in
      omega (arith, digits_value_more 10 bytes i inside, value, so_far)

  small : number * 10 + (get_or bytes i 0 - 48) < 10 ^ 19
  small =
      let short : length (take (i + 1) bytes) ≤ 19 = omega (arith, length-take (i + 1) bytes) in
      omega (arith, value-more, digits_value_short own (take (i + 1) bytes) 19 digits-more short)

pub overflow_mul-number : goal.overflow_mul-number
overflow_mul-number c =
    let next = sym c.is_ascii_digit.ensures.value ∙ c.if-not-is_ascii_digit.false in
    omega (arith, small c.args.bytes.now c.loop-byte.byte-index c.loop-byte.number c.if-bytes-gt19.false c.loop-byte-test.true c.loop-byte.invariant.0 c.loop-byte.invariant.1 next)

pub overflow_add-number : goal.overflow_add-number
overflow_add-number c =
    let next = sym c.is_ascii_digit.ensures.value ∙ c.if-not-is_ascii_digit.false in
    omega (arith, small c.args.bytes.now c.loop-byte.byte-index c.loop-byte.number c.if-bytes-gt19.false c.loop-byte-test.true c.loop-byte.invariant.0 c.loop-byte.invariant.1 next)

pub loop-byte-preserved : goal.loop-byte-preserved
loop-byte-preserved c =
    let next = sym c.is_ascii_digit.ensures.value ∙ c.if-not-is_ascii_digit.false in (
      digits-more c.args.bytes.now c.loop-byte.byte-index c.loop-byte.number c.if-bytes-gt19.false c.loop-byte-test.true c.loop-byte.invariant.0 c.loop-byte.invariant.1 next,
      value-more c.args.bytes.now c.loop-byte.byte-index c.loop-byte.number c.if-bytes-gt19.false c.loop-byte-test.true c.loop-byte.invariant.0 c.loop-byte.invariant.1 next,
    )
