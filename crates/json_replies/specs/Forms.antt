-- The forms that replies share, over the words of `serde_json`.
use Rattle.std.specs.Prelude.{ℕ, suc, Bool, true, false, nat_lt, List, [], ◌∷◌, map, Option, Some, None}
use Rattle.serde_json.specs.Data.{Data, null, number, unsigned, string, array, object, Members, no_members, member}
use Rattle.serde_json.specs.View.{items_of}
use Rattle.calendar.specs.DateTexts.{day_text, moment_text}
use Rattle.vocabulary.specs.Names.{letters_of}

-- a number, in decimal
abbrev pub decimal_data : ℕ → Data
decimal_data n = number (unsigned n)

-- a name, as its letters
abbrev pub name_data : List ℕ → Data
name_data name = string (letters_of name)

-- a day, as YYYY-MM-DD
abbrev pub day_data : ℕ → Data
day_data day = string (day_text day)

-- a moment, as YYYY-MM-DDThh:mm:ss
abbrev pub moment_data : ℕ → Data
moment_data moment = string (moment_text moment)

-- null where there is none
abbrev pub or_null : {A : Type 0} → (A → Data) → Option A → Data
or_null f None = null
or_null f (Some x) = f x

-- the values in their order
abbrev pub array_of : {A : Type 0} → (A → Data) → List A → Data
array_of f xs = array (items_of (map f xs))

-- values in their order, each with its number, counted on from the first
abbrev pub numbered_values : {A : Type 0} → (ℕ → A → Data) → ℕ → List A → List Data
numbered_values f n [] = []
numbered_values f n (x ∷ xs) = f n x ∷ numbered_values f (suc n) xs

-- the values in their order, each with its number from 1
abbrev pub numbered_array : {A : Type 0} → (ℕ → A → Data) → List A → Data
numbered_array f xs = array (items_of (numbered_values f 1 xs))

-- these names and values, in the order in which they stand
abbrev pub members : List (List ℕ × Data) → Members
members [] = no_members
members (m ∷ ms) = member m.0 m.1 (members ms)

-- a member before others, where the test holds; where it does not, the others alone
abbrev pub only_if : Bool → List ℕ × Data → List (List ℕ × Data) → List (List ℕ × Data)
only_if true m ms = m ∷ ms
only_if false m ms = ms

-- a meeting of so many sessions was adjourned; what distinguishes its sessions stands only then
abbrev pub is_adjourned : ℕ → Bool
is_adjourned sessions = nat_lt 1 sessions

-- an object with these members
abbrev pub object_of : List (List ℕ × Data) → Data
object_of ms = object (members ms)
