-- The text of a day and that of a moment are ASCII.
use Rattle.std.proofs.Common.{◌≡◌, ℕ, zero, suc, ◌<◌, ◌==◌, Bool, true, false, cond, List, [], ◌∷◌, length, get_or, Option, Some, None, refl, arith}
use Rattle.std.specs.Prelude.{IsUtf8, nat_lt}
use Rattle.std.specs.List.{list_all, zip}
use Rattle.std.specs.Cmp.{first_so, second_so}
use Rattle.std.proofs.lemmas.Bool.Decides.{nat_tests}
use Rattle.std.proofs.lemmas.Str.{IsUtf8-from_ascii}
use Rattle.std.specs.Result.{MatchResult}
use Rattle.std.specs.Prelude.{Result, Ok, Err, IsOk}
use Rattle.calendar.specs.DateTexts.{fits, has_form, day_form, day_of, moment_form, moment_of}

fits_small : (sign byte : ℕ) → nat_lt sign 128 ≡ true → fits sign byte ≡ true → byte < 128
fits_small sign byte small fit = grind (arith, nat_tests)

all_small : (form text : List ℕ) → list_all (λ sign. nat_lt sign 128) form ≡ true → (length form == length text) ≡ true
    → list_all (λ pair. fits pair.0 pair.1) (zip form text) ≡ true → (i : ℕ) → get_or text i 0 < 128
all_small form [] small same fit i = omega arith
all_small [] (b ∷ bs) small same fit i = grind (arith, nat_tests)
all_small (sign ∷ form) (b ∷ bs) small same fit zero = fits_small sign b (first_so (nat_lt sign 128) _ small) (first_so (fits sign b) _ fit)
all_small (sign ∷ form) (b ∷ bs) small same fit (suc i) =
    let shorter : (length form == length bs) ≡ true = grind (arith, nat_tests) in
    all_small form bs (second_so (nat_lt sign 128) _ small) shorter (second_so (fits sign b) _ fit) i

formed : (b : Bool) (o : Option ℕ) (m : ℕ) → cond b o None ≡ Some m → b ≡ true
formed true o m e = refl
formed false o m e = absurd (cc)

-- what spells a day is a text
pub day_is_text : (s : List ℕ) (n : ℕ) → day_of s ≡ Some n → IsUtf8 s
unfolding day_of
day_is_text s n e =
    let form : has_form day_form s ≡ true = formed (has_form day_form s) _ n e in
    IsUtf8-from_ascii s (all_small day_form s refl (first_so (length day_form == length s) _ form) (second_so (length day_form == length s) _ form))

-- what spells a moment is a text
pub moment_is_text : (s : List ℕ) (m : ℕ) → moment_of s ≡ Some m → IsUtf8 s
unfolding moment_of
moment_is_text s m e =
    let form : has_form moment_form s ≡ true = formed (has_form moment_form s) _ m e in
    IsUtf8-from_ascii s (all_small moment_form s refl (first_so (length moment_form == length s) _ form) (second_so (length moment_form == length s) _ form))

-- a result whose error cannot be is no error
pub ok_unless_err : {T E : Type 0} (P : T → Type 0) (Q : E → Type 0) (r : Result T E) → MatchResult r P Q → ((e : E) → Q e → ⊥) → IsOk r
ok_unless_err P Q (Ok x) h k = refl
ok_unless_err P Q (Err e) h k = absurd (k e h)
