use Rattle.std.proofs.Common.{◌≡◌, ℕ, zero, suc, List, [], ◌∷◌, length, Bool, true, false, cond, Option, None, Some, refl, ap, ◌∙◌, arith}
use Rattle.std.specs.Prelude.{◌==◌, codes}
use Rattle.std.proofs.lemmas.Bool.{eqb-true}
use Rattle.std.proofs.lemmas.Bool.Decides.{nat_tests}
use Rattle.std.specs.Str.{IsAscii, IsUtf8, is_utf8}
use Rattle.std.proofs.lemmas.Str.{IsUtf8-from_ascii, IsUtf8-from_is_utf8, IsUtf8-nil, is_utf8-from_IsUtf8}
use Rattle.serde_json.specs.Data.{Data, no_members, object}
use Rattle.serde_json.proofs.OnLiterals.{serde_json_on_literals}
use Rattle.serde_json.specs.Read.{read}
use Rattle.vocabulary.specs.OptionSteps.{◌>>=◌}
use Rattle.json_requests.specs.JsonFields.{Fields}
use Rattle.json_requests.specs.Bodies.{body_of, fields_from, read_by, value_of}

-- bytes of UTF-8 are the value that they read as
pub value_of-utf8 : (bytes : List ℕ) → IsUtf8 bytes → value_of bytes ≡ read bytes
unfolding value_of
value_of-utf8 bytes h = rw (is_utf8-from_IsUtf8 bytes h)

none_either_way : (b : Bool) (o : Option Data) → (b ≡ true → o ≡ None) → cond b o None ≡ None
none_either_way true o h = h refl
none_either_way false o h = refl

-- bytes that read as nothing are no value
pub value_of-unread : (bytes : List ℕ) → (IsUtf8 bytes → read bytes ≡ None) → value_of bytes ≡ None
unfolding value_of
value_of-unread bytes h = none_either_way (is_utf8 bytes) (read bytes) (λ e. h (IsUtf8-from_is_utf8 bytes e))

braces_are_ascii : IsAscii (codes "{}")
braces_are_ascii zero = omega arith
braces_are_ascii (suc zero) = omega arith
braces_are_ascii (suc (suc place)) = omega arith

-- an empty body is an object with no fields
pub body_of-empty : body_of [] ≡ Some (object no_members)
unfolding body_of serde_json_on_literals
body_of-empty = value_of-utf8 (codes "{}") (IsUtf8-from_ascii (codes "{}") braces_are_ascii)

-- and so is a body that has no bytes
pub body_of-nothing : (body : List ℕ) → (length body == 0) ≡ true → body_of body ≡ Some (object no_members)
body_of-nothing [] _ = body_of-empty
body_of-nothing (byte ∷ rest) is = absurd (omega (eqb-true (suc (length rest)) 0 is, arith))

-- any other is the value of its bytes
pub body_of-bytes : (body : List ℕ) → (length body == 0) ≡ false → body_of body ≡ value_of body
unfolding body_of
body_of-bytes body is = ap (λ none. value_of (cond none (codes "{}") body)) is

some_bytes : (n : ℕ) → (suc n == 0) ≡ false
some_bytes n = grind (arith, nat_tests)

-- a body that is no UTF-8 says nothing
pub body_of-no_utf8 : (body : List ℕ) → ¬ IsUtf8 body → body_of body ≡ None
body_of-no_utf8 [] none = absurd (none IsUtf8-nil)
body_of-no_utf8 (byte ∷ rest) none =
    body_of-bytes (byte ∷ rest) (some_bytes (length rest)) ∙ value_of-unread (byte ∷ rest) (λ is. absurd (none is))

-- and so nothing is asked by it
pub read_by-no_utf8 : {A : Type 0} (names : List (List ℕ)) (reading : Fields → Option A) (body : List ℕ) → ¬ IsUtf8 body → read_by names reading body ≡ None
unfolding read_by
read_by-no_utf8 names reading body none = ap (λ value. fields_from names value >>= reading) (body_of-no_utf8 body none)
