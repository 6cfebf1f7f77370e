-- A value that means something in a column of its kind is kept as it is.
use Rattle.std.specs.Prelude.{◌≡◌, ℕ, ℤ, List, Bool, true, false, Option, Some, None, refl}
use Rattle.std.specs.Option.{is_some}
use Rattle.std.proofs.Common.{ap, cond, sym, true≢false}
use Rattle.vocabulary.specs.OptionSteps.{◌>>=◌}
use Rattle.sqlite.specs.Cast.{cast}
use Rattle.sqlite.specs.Kind.TheVariants.{Integer, Text as Texts}
use Rattle.sqlite.specs.Ops.{unary}
use Rattle.sqlite.specs.declared.types.Value.{Value}
use Rattle.sqlite.specs.declared.types.Value.TheVariants.{Null, Int, Real, Text, Blob}
use Rattle.sql_rows.specs.ColumnValues.{integer_of, natural_of, natural_value, parsed_of}

nothing : {A : Type 0} (x : A) → None ≡ Some x → ⊥
nothing x e = true≢false (sym (ap is_some e))

either : (b : Bool) (x : Value) → cond b x x ≡ x
either true x = refl
either false x = refl

pub cast_null : cast Integer Null ≡ Null
unfolding unary
cast_null = either _ Null

pub cast_int : (n : ℤ) → cast Integer (Int n) ≡ Int n
unfolding unary
cast_int n = either _ (Int n)

pub text_stays : {A : Type 0} (reading : List ℕ → Option A) (v : Value) (x : A)
    → parsed_of reading v ≡ Some x → cast Texts v ≡ v
text_stays reading (Text t) x h = refl
text_stays reading Null x h = absurd (nothing x h)
text_stays reading (Int z) x h = absurd (nothing x h)
text_stays reading (Real y) x h = absurd (nothing x h)
text_stays reading (Blob b) x h = absurd (nothing x h)

pub integer_stays : {A : Type 0} (reading : ℤ → Option A) (v : Value) (x : A)
    → (integer_of v >>= reading) ≡ Some x → cast Integer v ≡ v
integer_stays reading (Int z) x h = cast_int z
integer_stays reading Null x h = absurd (nothing x h)
integer_stays reading (Text t) x h = absurd (nothing x h)
integer_stays reading (Real y) x h = absurd (nothing x h)
integer_stays reading (Blob b) x h = absurd (nothing x h)

pub number_stays : (v : Value) (n : ℕ) → natural_value v ≡ Some n → cast Integer v ≡ v
number_stays = integer_stays natural_of
