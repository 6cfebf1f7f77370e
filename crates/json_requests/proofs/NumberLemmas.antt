-- Whole numbers with no sign.
use Rattle.std.proofs.Common.{◌≡◌, ℕ, suc, true≢false, eqb-true, eq-eqb, ne_eqb, le-leb, ◌+◌, ◌*◌, ◌-◌, ◌^◌, ◌<◌, ◌==◌, ℤ, List, [], ◌∷◌, ◌++◌, length, get_or, Bool, true, false, cond, Float, Option, Some, None, option_and_then, refl, sym, ap, subst, ◌∙◌, arith, append-nil, lt-ltb}
use Rattle.std.proofs.lemmas.Str.{digit_value_digit}
use Rattle.std.proofs.lemmas.Str.Parse.{digit_from_value}
use Rattle.std.specs.Char.{digit_value, is_ascii_digit}
use Rattle.std.specs.List.{prefix_len}
use Rattle.std.proofs.lemmas.List.{drop_all}
use Rattle.json.specs.Print.{IsNumber}
use Rattle.json.specs.Word.{after_exponent, after_fraction, after_number}
use Rattle.std.specs.Str.Parse.{AllDigits, digits_value, digits_value_after}
use Rattle.fast_float.specs.Text.{Parts, scan}
use Rattle.fast_float.proofs.Writing.{scan-text_of}
use Rattle.serde_json.specs.Data.{Num, unsigned, negative, float}
use Rattle.serde_json.specs.Find.{as_u64}
use Rattle.serde_json.specs.Read.{float_of, is_integer, number_from, number_of}
use Rattle.std.specs.Prelude.{◌&&◌, nat_lt, not}

no_whole : (b c : Bool) (z : ℤ) (x : Float) → option_and_then as_u64 (cond b (Some (negative z)) (cond c (Some (float x)) None)) ≡ None
no_whole true c z x = refl
no_whole false true z x = refl
no_whole false false z x = refl

no_float : (c : Bool) (x : Float) → option_and_then as_u64 (cond c (Some (float x)) None) ≡ None
no_float true x = refl
no_float false x = refl

-- what has a sign is none
pub signed_whole : (p : Parts) → option_and_then as_u64 (number_from true p) ≡ None
signed_whole p = no_whole _ _ _ _

-- nor is what is read as a float
pub float_whole : (p : Parts) → option_and_then as_u64 (float_of false p) ≡ None
float_whole p = no_float _ _

-- ---- texts of digits alone

-- the parts of such a text
abbrev digits_parts : List ℕ → Parts
digits_parts s = record { whole = s; point = false; fraction = []; exponent_negative = false; exponent = []; len = length s }

digits_scanned : (s : List ℕ) → AllDigits 10 s → scan s ≡ digits_parts s
digits_scanned s all =
    ap scan (sym (append-nil s))
    ∙ scan-text_of (digits_parts s) (record {
      whole_digits = all;
      fraction_digits = tt;
      exponent_digits = tt;
      no_point = λ _. refl;
      no_exponent = λ _. refl;
      len_is = ap length (sym (append-nil s));
    })

no_minus : (s : List ℕ) → AllDigits 10 s → 0 < length s → (get_or s 0 0 == 45) ≡ false
no_minus [] all some = absurd (omega (arith, some))
no_minus (c ∷ s) all some = let k = digit_from_value c all.0 in grind (arith, k)

number_at : (s : List ℕ) (p : Parts) → scan s ≡ p → (get_or s 0 0 == 45) ≡ false → number_of s ≡ number_from false p
unfolding number_of
number_at s p is plain = rw plain (ap (number_from false) is)

whole_one : (a b : Bool) (d n : ℕ) (other : Option Num) → a ≡ true → b ≡ true → d ≡ n → cond (a && b) (Some (unsigned d)) other ≡ Some (unsigned n)
whole_one a b d n other one all is = rw (one, all) (ap (λ k. Some (unsigned k)) is)

whole_at : (s : List ℕ) (n : ℕ) → 0 < length s → digits_value 10 (s ++ []) ≡ n → n < 2 ^ 64 → number_from false (digits_parts s) ≡ Some (unsigned n)
whole_at s n some is short =
    whole_one (is_integer (digits_parts s)) (nat_lt (digits_value 10 (s ++ [])) (2 ^ 64)) (digits_value 10 (s ++ [])) n _
    (ap (λ b. b && not false && (length {A = ℕ} [] == 0)) (lt-ltb 0 (length s) some)) (lt-ltb _ (2 ^ 64) (omega (arith, is, short))) is

-- The digits that were read write the number, and the others follow.
abbrev pub IsReadTo : List ℕ → ℕ → List ℕ → Type 0
IsReadTo s number rest = (AllDigits 10 rest → AllDigits 10 s) × (digits_value_after 10 number rest ≡ digits_value 10 s)

pub read_more : (s rest left : List ℕ) (number more c : ℕ) → IsReadTo s number rest → rest ≡ c ∷ left → digit_value c < 10 → more ≡ number * 10 + (c - 48) → IsReadTo s more left
read_more s rest left number more c read is digit sum =
    let k : c - 48 ≡ digit_value c = omega (arith, digit_value_digit c (digit_from_value c digit)) in
    let all : AllDigits 10 left → AllDigits 10 s = λ later. read.0 (subst (AllDigits 10) (sym is) (digit, later)) in
    (all, ap (λ n. digits_value_after 10 n left) (sum ∙ ap (λ d. number * 10 + d) k) ∙ ap (digits_value_after 10 number) (sym is) ∙ read.1)

pub read_all : (s : List ℕ) (n : ℕ) → IsReadTo s n [] → 0 < length s → n < 2 ^ 64 → number_of s ≡ Some (unsigned n)
read_all s n read some short =
    let all : AllDigits 10 s = read.0 tt in
    number_at s (digits_parts s) (digits_scanned s all) (no_minus s all some) ∙ whole_at s n some (ap (digits_value 10) (append-nil s) ∙ sym read.1) short

-- ---- digits that are a JSON number

is_digit : (c : ℕ) → digit_value c < 10 → is_ascii_digit c ≡ true
is_digit c h = let r = digit_from_value c h in rw (le-leb 48 c (omega (arith, r.0)), le-leb c 57 (omega (arith, r.1)))

digits_len : (s : List ℕ) → AllDigits 10 s → prefix_len is_ascii_digit s ≡ length s
digits_len [] all = refl
digits_len (c ∷ s) all = rw (is_digit c all.0) (omega (arith, digits_len s all.1))

nothing_behind : (rest : List ℕ) → rest ≡ [] → option_and_then after_exponent (option_and_then after_fraction (Some rest)) ≡ Some []
nothing_behind rest is = subst (λ r. option_and_then after_exponent (option_and_then after_fraction (Some r)) ≡ Some []) (sym is) refl

number_from_digits : (b : Bool) (c : ℕ) (s : List ℕ) → (c == 48) ≡ b → AllDigits 10 (c ∷ s) → (c ≡ 48 → s ≡ []) → IsNumber (c ∷ s)
unfolding after_number
number_from_digits true c s is all first =
    let r = digit_from_value c all.0 in
    rw (ne_eqb c 45 (omega (arith, r.0)), is) (nothing_behind s (first (eqb-true c 48 is)))
number_from_digits false c s is all first =
    let r = digit_from_value c all.0 in
    rw (ne_eqb c 45 (omega (arith, r.0)), is, digits_len (c ∷ s) all, ne_eqb (suc (length s)) 0 (omega arith)) (nothing_behind _ (drop_all (suc (length s)) (c ∷ s) (omega arith)))

alone : (c : ℕ) (s : List ℕ) → (nat_lt 1 (length (c ∷ s)) && (c == 48)) ≡ false → c ≡ 48 → s ≡ []
alone c [] padded zero_first = refl
alone c (d ∷ s) padded zero_first =
    absurd (true≢false (sym (ap (λ b. b && (c == 48)) (lt-ltb 1 (suc (suc (length s))) (omega arith)) ∙ eq-eqb c 48 zero_first) ∙ padded))

pub digits_form : (s : List ℕ) → AllDigits 10 s → 0 < length s → (nat_lt 1 (length s) && (get_or s 0 0 == 48)) ≡ false → IsNumber s
digits_form [] all some padded = absurd (omega (arith, some))
digits_form (c ∷ s) all some padded = number_from_digits (c == 48) c s refl all (alone c s padded)
