-- Letters and the places that hold them.
use Rattle.std.proofs.Common.{◌≡◌, ℕ, zero, suc, ◌+◌, ◌-◌, ◌<◌, Bool, true, false, ◌&&◌, ◌==◌, cond, List, [], ◌∷◌, ◌++◌, length, take, get_or, refl, ap, sym, ◌∙◌, arith, add-one}
use Rattle.std.specs.Result.{MatchResult}
use Rattle.std.specs.Prelude.{Result, Ok, Err, IsOk, Option, Some, None, option_map, replicate, IsUtf8, nat_le}
use Rattle.std.specs.List.{list_all, position_from}
use Rattle.std.specs.Cmp.{first_so, second_so}
use Rattle.std.proofs.lemmas.Bool.Decides.{nat_tests}
use Rattle.std.proofs.lemmas.Str.{IsUtf8-from_ascii}
use Rattle.vocabulary.specs.Names.{letters_of, in_places, Holds, is_name_letter, is_key_letter, is_name, is_party, is_key}

-- the list up to a place, or all of it
abbrev pub cut : List ℕ → Option ℕ → List ℕ
cut xs None = xs
cut xs (Some i) = take i xs

position-shift : (p : ℕ → Bool) (n : ℕ) (xs : List ℕ) → position_from p (n + 1) xs ≡ option_map (λ k. k + 1) (position_from p n xs)
position-shift p n [] = refl
position-shift p n (x ∷ xs) =
    elim (p x) as (λ b. cond b (Some (n + 1)) (position_from p (n + 1 + 1) xs) ≡ option_map (λ k. k + 1) (cond b (Some n) (position_from p (n + 1) xs)))
    [ true ↦ refl | false ↦ position-shift p (n + 1) xs ]

cut-cons : (x : ℕ) (xs : List ℕ) (o : Option ℕ) → x ∷ cut xs o ≡ cut (x ∷ xs) (option_map (λ k. k + 1) o)
cut-cons x xs None = refl
cut-cons x xs (Some i) = rw add-one refl

-- the letters are what stands before the first zero
pub letters_of-position : (xs : List ℕ) → letters_of xs ≡ cut xs (position_from (λ b. b == 0) 0 xs)
letters_of-position [] = refl
letters_of-position (x ∷ xs) =
    elim (x == 0) as (λ b. cond b [] (x ∷ letters_of xs) ≡ cut (x ∷ xs) (cond b (Some 0) (position_from (λ b. b == 0) 1 xs))) [
      | true ↦ refl
      | false ↦ ap (λ ys. x ∷ ys) (letters_of-position xs) ∙ cut-cons x xs (position_from (λ b. b == 0) 0 xs) ∙ ap (cut (x ∷ xs)) (sym (position-shift (λ b. b == 0) 0 xs))
    ]

letters_of-zeros : (n : ℕ) → letters_of (replicate n 0) ≡ []
letters_of-zeros zero = refl
letters_of-zeros (suc n) = refl

not_both : (b : Bool) → b ≡ true → b ≡ false → (X : Type 0) → X
not_both true h k X = absurd (cc)
not_both false h k X = absurd (cc)

letters_of-step : (test : ℕ → Bool) (x : ℕ) (xs ys : List ℕ) → test 0 ≡ false → test x ≡ true → letters_of xs ≡ ys → letters_of (x ∷ xs) ≡ x ∷ ys
letters_of-step test zero xs ys z h e = not_both (test 0) h z _
letters_of-step test (suc x) xs ys z h e =
    let no_zero : (suc x == 0) ≡ false = grind (arith, nat_tests) in
    ap (λ b. cond b [] (suc x ∷ letters_of xs)) no_zero ∙ ap (λ zs. suc x ∷ zs) e

-- letters that are no zeros come back from their places
pub letters_of-in_places : (n : ℕ) (test : ℕ → Bool) (xs : List ℕ) → test 0 ≡ false → list_all test xs ≡ true → letters_of (xs ++ replicate n 0) ≡ xs
letters_of-in_places n test [] z h = letters_of-zeros n
letters_of-in_places n test (x ∷ xs) z h =
    letters_of-step test x (xs ++ replicate n 0) xs z (first_so (test x) (list_all test xs) h) (letters_of-in_places n test xs z (second_so (test x) (list_all test xs) h))

-- so places hold the letters that were put there
pub held : (n : ℕ) (form : List ℕ → Bool) (test : ℕ → Bool) (xs : List ℕ) → test 0 ≡ false → list_all test xs ≡ true → form xs ≡ true → Holds n form (in_places n xs)
held n form test xs z h f =
    let back : letters_of (in_places n xs) ≡ xs = letters_of-in_places (n - length xs) test xs z h in
    record { form = ap form back ∙ f; rest = ap (in_places n) back }

-- letters that pass a test are below 128, and what stands behind them is zero
pub ascii_below : (xs : List ℕ) (test : ℕ → Bool) → ((b : ℕ) → test b ≡ true → b < 128) → list_all test xs ≡ true → (i : ℕ) → get_or xs i 0 < 128
ascii_below [] test small h i = omega arith
ascii_below (x ∷ xs) test small h zero = small x (first_so (test x) (list_all test xs) h)
ascii_below (x ∷ xs) test small h (suc i) = ascii_below xs test small (second_so (test x) (list_all test xs) h) i

-- letters that are below 128 are a text
pub text_from_letters : (xs : List ℕ) (test : ℕ → Bool) → ((b : ℕ) → test b ≡ true → b < 128) → list_all test xs ≡ true → IsUtf8 xs
text_from_letters xs test small h = IsUtf8-from_ascii xs (ascii_below xs test small h)

pub name_letters_small : (b : ℕ) → is_name_letter b ≡ true → b < 128
name_letters_small b h = grind (arith, nat_tests)

pub key_letters_small : (b : ℕ) → is_key_letter b ≡ true → b < 128
key_letters_small b h = grind (arith, nat_tests)

-- the letters of a name
pub letters_of_name : (xs : List ℕ) → is_name xs ≡ true → list_all is_name_letter xs ≡ true
letters_of_name xs h = second_so (nat_le 1 (length xs) && nat_le (length xs) 16) (list_all is_name_letter xs) h

-- the letters of a party
pub letters_of_party : (xs : List ℕ) → is_party xs ≡ true → list_all is_name_letter xs ≡ true
letters_of_party xs h = letters_of_name xs (first_so (is_name xs) _ h)

-- the letters of a key
pub letters_of_key : (xs : List ℕ) → is_key xs ≡ true → list_all is_key_letter xs ≡ true
letters_of_key xs h = second_so (nat_le 16 (length xs) && nat_le (length xs) 64) (list_all is_key_letter xs) h

-- a result whose error cannot be is no error
pub ok_unless_err : {T E : Type 0} (P : T → Type 0) (Q : E → Type 0) (r : Result T E) → MatchResult r P Q → ((e : E) → Q e → ⊥) → IsOk r
ok_unless_err P Q (Ok x) h k = refl
ok_unless_err P Q (Err e) h k = absurd (k e h)
