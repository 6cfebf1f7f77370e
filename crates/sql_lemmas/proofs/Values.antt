-- Values as columns of numbers and of texts take them.
use Rattle.std.proofs.Common.{◌≡◌, ℤ, pos, ℕ, List, Bool, true, false, if◌then◌else◌, Bor, Option, Some, None, refl}
use Rattle.sqlite.specs.declared.types.Value.{Value}
use Rattle.sqlite.specs.declared.types.Value.TheVariants.{Int, Text as Words}
use Rattle.sqlite.specs.Values.{or_null, bound_value}
use Rattle.sqlite.specs.Kind.TheVariants.{Integer, Text}
use Rattle.sqlite.specs.Cast.{cast}
use Rattle.sql_rows.specs.ColumnValues.{natural_value, flag_of}
use Rattle.vocabulary.specs.OptionSteps.{◌>>=◌}
pub use Rattle.sql_rows.specs.StayLemmas.{cast_int, cast_null}

pub cast_some : (n : Option ℤ) → cast Integer (or_null Int n) ≡ or_null Int n
cast_some None = cast_null
cast_some (Some n) = cast_int n

-- a text, or NULL
abbrev pub some_text : Option (Bor (List ℕ)) → Value
some_text t = or_null (λ (s : Bor (List ℕ)). Words s.now) t

pub cast_some_text : (t : Option (Bor (List ℕ))) → cast Text (some_text t) ≡ some_text t
cast_some_text None = refl
cast_some_text (Some t) = refl

-- what is passed is what is bound
pub bound_some : (n : Option ℤ) → bound_value (or_null Int n) ≡ or_null Int n
bound_some None = refl
bound_some (Some n) = refl

pub bound_text : (t : Option (Bor (List ℕ))) → bound_value (some_text t) ≡ some_text t
bound_text None = refl
bound_text (Some t) = refl

-- no or yes as a number
abbrev pub flag : Bool → Value
flag b = Int (if b then pos 1 else pos 0)

pub cast_flag : (b : Bool) → cast Integer (flag b) ≡ flag b
cast_flag b = cast_int (if b then pos 1 else pos 0)

pub flag_reads_back : (b : Bool) → (natural_value (flag b) >>= flag_of) ≡ Some b
flag_reads_back true = refl
flag_reads_back false = refl
