-- Texts written one after another, the last one in part.
use Rattle.std.proofs.Common.{◌≡◌, ℕ, ◌+◌, List, ◌++◌, Option, Result, Ok, Err, true, length, take, sym, subst, arith, length-append}
use Rattle.std.proofs.Math.Seq.{take-append-add}
use Rattle.std.proofs.lemmas.List.{take-append-le}
use Rattle.std.specs.Prelude.{OnOk, OnErr, is_ok}
use Rattle.std.specs.Io.KnownBytes.{Appends}
use Rattle.byte_io.specs.Written.{AppendsPrefix}
use Rattle.byte_io.proofs.BytesChained.{Appends-chained}

-- a part of a text is a part of the text with more behind it
pub part_of-first : (a b : Option (List ℕ)) (xs ys : List ℕ) → AppendsPrefix a b xs → AppendsPrefix a b (xs ++ ys)
part_of-first a b xs ys part =
    let n = part.0 in
    let whole : length (xs ++ ys) ≡ length xs + length ys = length-append xs ys in
    (n, omega (arith, whole, part.1), subst (Appends a b) (sym (take-append-le n xs ys (omega (arith, part.1)))) part.2)

-- a text, and then a part of the next one
pub part_of-next : (a b c : Option (List ℕ)) (xs ys : List ℕ) → Appends a b xs → AppendsPrefix b c ys → AppendsPrefix a c (xs ++ ys)
part_of-next a b c xs ys written part =
    let n = part.0 in
    let whole : length (xs ++ ys) ≡ length xs + length ys = length-append xs ys in
    (length xs + n, omega (arith, whole, part.1), subst (Appends a c) (sym (take-append-add xs ys n)) (Appends-chained a b c xs (take n ys) written part.2))

-- what holds, holds where an error is returned
pub on_err : {T E P : Type 0} (r : Result T E) → P → OnErr r P
on_err (Ok value) holds = tt
on_err (Err error) holds = holds

-- a text, and then the next one, where that is all written
pub whole_if : {T E : Type 0} (r : Result T E) (a b c : Option (List ℕ)) (xs ys : List ℕ) → Appends a b xs → OnOk r (Appends b c ys) → OnOk r (Appends a c (xs ++ ys))
whole_if (Ok value) a b c xs ys written next = Appends-chained a b c xs ys written next
whole_if (Err error) a b c xs ys written next = tt

-- a text, and then a part of the next one, where that is not all written
pub part_if : {T E : Type 0} (r : Result T E) (a b c : Option (List ℕ)) (xs ys : List ℕ) → Appends a b xs → OnErr r (AppendsPrefix b c ys) → OnErr r (AppendsPrefix a c (xs ++ ys))
part_if (Ok value) a b c xs ys written next = tt
part_if (Err error) a b c xs ys written next = part_of-next a b c xs ys written next

-- what holds where a value is returned
pub if_ok : {T E P : Type 0} (r : Result T E) → is_ok r ≡ true → OnOk r P → P
if_ok (Ok value) ok holds = holds
if_ok (Err error) ok holds = cc
