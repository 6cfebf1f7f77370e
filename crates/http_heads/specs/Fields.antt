-- What the fields of a head say. A field is its name, and its value without spaces and tabs at its
-- ends.
use Rattle.std.specs.Prelude.{ℕ, Bool, List, [], ◌∷◌, map, filter, Option, Some, None, bytes_eq}
use Rattle.std.specs.Char.{to_ascii_lowercase}

-- whether two names are the same, without regard to ASCII case
abbrev pub same_field : List ℕ → List ℕ → Bool
same_field a b = bytes_eq (map to_ascii_lowercase a) (map to_ascii_lowercase b)

-- the values of the fields of a name, in order
abbrev pub values_of : List ℕ → List (List ℕ × List ℕ) → List (List ℕ)
values_of name fields = map (λ field. field.1) (filter (λ field. same_field field.0 name) fields)

-- the one of a list, or none where there are none or more
abbrev pub the_only : List (List ℕ) → Option (List ℕ)
the_only [] = None
the_only (value ∷ []) = Some value
the_only (value ∷ next ∷ more) = None

-- the value of the one field of a name
abbrev pub only_value : List ℕ → List (List ℕ × List ℕ) → Option (List ℕ)
only_value name fields = the_only (values_of name fields)
