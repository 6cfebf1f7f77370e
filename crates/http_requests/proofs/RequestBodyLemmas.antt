-- A body that is announced is within the limit.
use Rattle.std.proofs.Common.{◌≡◌, ℕ, ◌≤◌, Bool, true, false, List, [], ◌∷◌, refl, subst, arith}
use Rattle.std.specs.Prelude.{nat_le, codes, if◌then◌else◌}
use Rattle.std.proofs.lemmas.Bool.Decides.{nat_tests}
use Rattle.http_heads.specs.Length.{body_length, length_given, length_within_limit, is_number, length_with_encoding}
use Rattle.http_heads.specs.Fields.{values_of}
use Rattle.http_heads.specs.declared.length.BodyLength.{BodyLength}
use Rattle.http_heads.specs.declared.length.BodyLength.TheVariants.{Bytes, TooLarge, Unreadable}
use Rattle.http_heads.specs.declared.length.TheConstants.{LONGEST_BODY}

abbrev IsWithin : BodyLength → Type 0
IsWithin (Bytes n) = n ≤ LONGEST_BODY
IsWithin TooLarge = Unit {0}
IsWithin Unreadable = Unit {0}

limited-within : (n : ℕ) (fits : Bool) → nat_le n LONGEST_BODY ≡ fits → IsWithin (if fits then Bytes n else TooLarge)
limited-within n true e = grind (arith, nat_tests)
limited-within n false e = tt

number-within : (n : ℕ) (is : Bool) → IsWithin (if is then length_within_limit n else Unreadable)
number-within n true = limited-within n (nat_le n LONGEST_BODY) refl
number-within n false = tt

given-within : (values : List (List ℕ)) → IsWithin (length_given values)
given-within [] = omega arith
given-within (value ∷ []) = number-within _ (is_number value)
given-within (value ∷ next ∷ more) = tt

beside-within : (encodings : List (List ℕ)) (given : BodyLength) → IsWithin given → IsWithin (length_with_encoding encodings given)
beside-within [] given h = h
beside-within (value ∷ more) (Bytes n) h = tt
beside-within (value ∷ more) TooLarge h = tt
beside-within (value ∷ more) Unreadable h = tt

-- a length in bytes is within the limit
pub length-within : (fields : List (List ℕ × List ℕ)) (n : ℕ) → body_length fields ≡ Bytes n → n ≤ LONGEST_BODY
length-within fields n e =
    subst (λ given. IsWithin given) e (beside-within (values_of (codes "transfer-encoding") fields) (length_given (values_of (codes "content-length") fields)) (given-within (values_of (codes "content-length") fields)))
