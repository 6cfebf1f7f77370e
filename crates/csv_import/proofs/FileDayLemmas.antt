-- The lines of a day file, and its days.
use Rattle.std.proofs.Common.{◌≡◌, ℕ, suc, ◌+◌, ◌<◌, ◌≤◌, Bool, true, false, cond, List, [], ◌∷◌, length, get_or, drop, refl, ap, arith, length-drop}
use Rattle.line_reader.proofs.LineLaws.{lines_of-cons}
use Rattle.desk_words.specs.SortedLists.{day_count}
use Rattle.csv_import.specs.DayFiles.{days_in, with_line}
use Rattle.vocabulary.specs.ResultSteps.{◌>>=◌}
use Rattle.std.specs.Prelude.{nat_eq}
use Rattle.std.proofs.lemmas.Map.Made.{distinct_count-le}
use Rattle.csv.specs.Reading.{is_bom, strip_bom}
use Rattle.line_reader.specs.Lines.{first_line, after_line, lines_of}

-- a text of three bytes at least
pub strip-long : (xs : List ℕ) → 3 ≤ length xs → strip_bom xs ≡ cond (is_bom (get_or xs 0 0) (get_or xs 1 0) (get_or xs 2 0)) (drop 3 xs) xs
unfolding strip_bom
strip-long [] h = absurd (omega (arith, h))
strip-long (a ∷ []) h = absurd (omega (arith, h))
strip-long (a ∷ b ∷ []) h = absurd (omega (arith, h))
strip-long (a ∷ b ∷ c ∷ rest) h = refl

-- a text loses no more than its mark
pub strip-le : (xs : List ℕ) → length (strip_bom xs) ≤ length xs
unfolding strip_bom
strip-le [] = omega arith
strip-le (a ∷ []) = omega arith
strip-le (a ∷ b ∷ []) = omega arith
strip-le (a ∷ b ∷ c ∷ rest) = by (is_bom a b c)
  where
    by : (mark : Bool) → length (cond mark rest (a ∷ b ∷ c ∷ rest)) ≤ length (a ∷ b ∷ c ∷ rest)
    by true = omega arith
    by false = omega arith

-- what stands after the first line is less
pub after_line-less : (xs : List ℕ) → 0 < length xs → length (after_line xs) + 1 ≤ length xs
after_line-less xs some = simp length-drop (omega arith)

-- the first line, and then the others
pub days_in-cons : (line : ℕ) (found rest : List ℕ) → 0 < length rest → days_in line found (lines_of rest) ≡ (with_line line found (first_line rest) >>= λ days. days_in (suc line) days (lines_of (after_line rest)))
days_in-cons line found rest some = ap (days_in line found) (lines_of-cons rest some)

-- there are no more different days than days
pub day_count-le : (days : List ℕ) → day_count days ≤ length days
day_count-le days = distinct_count-le nat_eq days
