-- Names: parties, meetings and secret keys. A name is kept in a fixed number of places, its
-- letters first and zeros after them.
use Rattle.std.specs.Prelude.{◌≡◌, ℕ, Bool, ◌&&◌, ◌||◌, not, ◌==◌, ◌-◌, nat_le, List, [], ◌∷◌, ◌++◌, length, replicate, Option, Some, None, codes, bytes_eq, if◌then◌else◌, IsTrue}
use Rattle.std.specs.List.{list_all}
use Rattle.std.specs.Char.{is_ascii_digit, is_ascii_uppercase, is_ascii_lowercase}
use Rattle.std.specs.declared.cmp.Ordering.{Ordering}
use Rattle.std.specs.Ordering.{nat_cmp}
use Rattle.std.specs.Cmp.Lexicographic.{slice_cmp}
use Rattle.std.specs.Prelude.{nat_eq}
use lib.Pointwise.{pointwise}

-- the letters, which stand before the first zero
abbrev pub letters_of : List ℕ → List ℕ
letters_of [] = []
letters_of (b ∷ bs) = if b == 0 then [] else b ∷ letters_of bs

-- the letters in a number of places, with zeros after them
abbrev pub in_places : ℕ → List ℕ → List ℕ
in_places places letters = letters ++ replicate (places - length letters) 0

-- A to Z and 0 to 9
abbrev pub is_name_letter : ℕ → Bool
is_name_letter b = is_ascii_uppercase b || is_ascii_digit b

-- A to Z, a to z, 0 to 9 and `-`
abbrev pub is_key_letter : ℕ → Bool
is_key_letter b = is_ascii_uppercase b || is_ascii_lowercase b || is_ascii_digit b || (b == 45)

-- 1 to 16 letters of A to Z and 0 to 9
abbrev pub is_name : List ℕ → Bool
is_name bytes = nat_le 1 (length bytes) && nat_le (length bytes) 16 && list_all is_name_letter bytes

-- the office's own name, which is no party's
abbrev pub office_name : List ℕ
office_name = codes "OFFICE"

-- a name that is not the office's
abbrev pub is_party : List ℕ → Bool
is_party bytes = is_name bytes && not (bytes_eq bytes office_name)

-- 16 to 64 letters of A to Z, a to z, 0 to 9 and `-`
abbrev pub is_key : List ℕ → Bool
is_key bytes = nat_le 16 (length bytes) && nat_le (length bytes) 64 && list_all is_key_letter bytes

-- places that hold letters which pass a test, and zeros after them
pub record Holds (places : ℕ) (test : List ℕ → Bool) (bytes : List ℕ) : Type 0 where
  pub form : IsTrue (test (letters_of bytes))
  pub rest : in_places places (letters_of bytes) ≡ bytes

-- the letters in their places, if they pass a test
abbrev pub name_if : ℕ → (List ℕ → Bool) → List ℕ → Option (List ℕ)
name_if places test bytes = if test bytes then Some (in_places places bytes) else None

-- the party that the bytes spell
abbrev pub party_of : List ℕ → Option (List ℕ)
party_of bytes = name_if 16 is_party bytes

-- the meeting that the bytes spell
abbrev pub meeting_of : List ℕ → Option (List ℕ)
meeting_of bytes = name_if 16 is_name bytes

-- the key that the bytes spell
abbrev pub key_of : List ℕ → Option (List ℕ)
key_of bytes = name_if 64 is_key bytes

-- whether both have the same letters
abbrev pub same_name : List ℕ → List ℕ → Bool
same_name a b = pointwise nat_eq a b

-- the order of names: that of their letters
abbrev pub name_cmp : List ℕ → List ℕ → Ordering
name_cmp a b = slice_cmp nat_cmp a b
