-- Which number a word spells, by what `parse` reads.
use Rattle.std.proofs.Common.{◌≡◌, ◌&&◌, ℕ, ◌<◌, ◌≤◌, ◌^◌, Bool, true, false, Some, None, refl, sym, ap, ◌∙◌, cond, arith, rules, length}
use Rattle.std.specs.Char.{is_ascii_digit}
use Rattle.std.specs.List.{list_all}
use Rattle.std.specs.Prelude.{nat_le, nat_lt}
use Rattle.std.specs.Str.Parse.{IsNumeral, digits_value, without_leading_plus}
use Rattle.std.proofs.lemmas.Bool.{and_from, and_parts, leb-true, le-leb, lt-ltb, ltb-true}
use Rattle.std.proofs.lemmas.Str.Parse.{IsNumeralModel, numerals_by_value}
use Rattle.cli_args.specs.Plans.{Text, is_number, number_between}

own : IsNumeralModel (λ ds. list_all is_ascii_digit ds ≡ true) (digits_value 10)
own = numerals_by_value _ (search rules)

numeral-number : (text : Text) → IsNumeral 10 text → is_number text ≡ true
numeral-number text is = and_from _ _ (lt-ltb 0 (length text) is.0) (own.from text is.1)

number-numeral : (text : Text) → is_number text ≡ true → IsNumeral 10 text
number-numeral text is =
    let parts = and_parts _ _ is in
    (ltb-true 0 (length text) parts.0, own.to text parts.1)

-- the word is a number within the bounds
abbrev IsBetween : ℕ → ℕ → Text → Type 0
IsBetween least most word =
    let digits = without_leading_plus word in
    IsNumeral 10 digits × (least ≤ digits_value 10 digits) × (digits_value 10 digits ≤ most)

abbrev is_between : ℕ → ℕ → Text → Bool
is_between least most word =
    let digits = without_leading_plus word in
    is_number digits && (nat_le least (digits_value 10 digits) && nat_le (digits_value 10 digits) most)

between-test : (least most : ℕ) (word : Text) → IsBetween least most word → is_between least most word ≡ true
between-test least most word is =
    and_from _ _ (numeral-number (without_leading_plus word) is.0) (and_from _ _ (le-leb _ _ is.1) (le-leb _ _ is.2))

test-between : (least most : ℕ) (word : Text) → is_between least most word ≡ true → IsBetween least most word
test-between least most word is =
    let parts = and_parts _ _ is in
    let bounds = and_parts _ _ parts.1 in
    (number-numeral (without_leading_plus word) parts.0, leb-true _ _ bounds.0, leb-true _ _ bounds.1)

picked : (b : Bool) (n : ℕ) → b ≡ true → cond b (Some n) None ≡ Some n
picked true n is = refl
picked false n is = absurd (grind (arith, is))

dropped : (b : Bool) (n : ℕ) → (b ≡ true → ⊥) → cond b (Some n) None ≡ None
dropped true n not = absurd (not refl)
dropped false n not = refl

number_in-read : (least most : ℕ) (word : Text) → IsBetween least most word → number_between least most word ≡ Some (digits_value 10 (without_leading_plus word))
number_in-read least most word is = picked (is_between least most word) (digits_value 10 (without_leading_plus word)) (between-test least most word is)

number_in-none : (least most : ℕ) (word : Text) → (IsBetween least most word → ⊥) → number_between least most word ≡ None
number_in-none least most word not = dropped (is_between least most word) (digits_value 10 (without_leading_plus word)) (λ is. not (test-between least most word is))

-- a number that `parse` reads at a type of so many bits
abbrev pub Parsed : ℕ → Text → ℕ → Type 0
Parsed bits word n = (IsNumeral 10 (without_leading_plus word) × (digits_value 10 (without_leading_plus word) < 2 ^ bits)) × (n ≡ digits_value 10 (without_leading_plus word))

pub number-parsed : (bits least most n : ℕ) (word : Text) → Parsed bits word n → least ≤ n → n ≤ most → number_between least most word ≡ Some n
number-parsed bits least most n word parsed low high =
    number_in-read least most word
    (parsed.0.0, omega (arith, parsed.1, low), omega (arith, parsed.1, high))
    ∙ ap Some (sym parsed.1)

pub number-below : (bits least most n : ℕ) (word : Text) → Parsed bits word n → n < least → number_between least most word ≡ None
number-below bits least most n word parsed low = number_in-none least most word (λ is. omega (arith, parsed.1, low, is.1))

pub number-above : (bits least most n : ℕ) (word : Text) → Parsed bits word n → most < n → number_between least most word ≡ None
number-above bits least most n word parsed high = number_in-none least most word (λ is. omega (arith, parsed.1, high, is.2))

-- a word that `parse` does not read
pub number-unread : (bits least most : ℕ) (word : Text) → (IsNumeral 10 (without_leading_plus word) × (digits_value 10 (without_leading_plus word) < 2 ^ bits) → ⊥) → most < 2 ^ bits → number_between least most word ≡ None
number-unread bits least most word not fits = number_in-none least most word (λ is. not (is.0, omega (arith, is.2, fits)))
