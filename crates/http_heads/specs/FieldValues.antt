-- What a search for the values of a name finds.
use Rattle.std.specs.Prelude.{◌≡◌, ℕ, ◌<◌, List, [], ◌∷◌, length}
use Rattle.http_heads.specs.declared.fields.Values.{Values}
use Rattle.http_heads.specs.declared.fields.Values.TheVariants.{Absent, One, Several}

-- there are no values, or this one, or more
abbrev pub AreValues : Values → List (List ℕ) → Type 0
AreValues Absent values = values ≡ []
AreValues (One value) values = values ≡ value.now ∷ []
AreValues Several values = 1 < length values
