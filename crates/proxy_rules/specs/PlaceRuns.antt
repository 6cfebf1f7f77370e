-- Runs of places: places that stand together, from the first of them to the last.
use Rattle.std.specs.Prelude.{ℕ, zero, suc, ◌+◌, ◌==◌, Bool, true, ◌&&◌, nat_le, nat_lt, List, [], ◌∷◌, if◌then◌else◌}
use Rattle.vocabulary.specs.Places.{Places}
use Rattle.desk_words.specs.ViewTypes.{Place}

-- the runs, with one more behind them, which joins the last where that ends just before it
abbrev pub joined : List Places → Places → List Places
joined [] run = run ∷ []
joined (last ∷ []) run =
    if last.to + 1 == run.from
    then record { from = last.from; to = run.to } ∷ []
    else last ∷ run ∷ []
joined (first ∷ second ∷ runs) run = first ∷ joined (second ∷ runs) run

-- the places 1 to n that pass a test, in runs in order, with gaps between them
abbrev pub runs_that : (Place → Bool) → ℕ → List Places
runs_that test zero = []
runs_that test (suc n) =
    if test (suc n)
    then joined (runs_that test n) (record { from = suc n; to = suc n })
    else runs_that test n

-- each run ends no sooner than it begins, and each but the last ends with a gap before the next
abbrev pub are_parted : List Places → Bool
are_parted [] = true
are_parted (run ∷ []) = nat_le run.from run.to
are_parted (first ∷ second ∷ runs) =
    nat_le first.from first.to && nat_lt (first.to + 1) second.from && are_parted (second ∷ runs)
