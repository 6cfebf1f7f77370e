-- The part of a buffer between two places.
use Rattle.std.proofs.Common.{◌≡◌, ℕ, ◌+◌, ◌-◌, ◌≤◌, List, ◌++◌, take, drop, sym, ap, ◌∙◌, arith}
use Rattle.std.proofs.Math.Seq.{take-add}
use Rattle.std.proofs.lemmas.List.{drop-drop, drop-take}

-- what is left of a part, when its first `given` bytes are given
pub part-given : (xs : List ℕ) (start end given : ℕ) → start + given ≤ end → take (end - (start + given)) (drop (start + given) xs) ≡ drop given (take (end - start) (drop start xs))
part-given xs start end given within =
    let count : end - start ≡ given + (end - (start + given)) = omega arith in
    ap (λ z. take (end - (start + given)) z) (sym (drop-drop given start xs)) ∙
    sym (drop-take given (end - (start + given)) (drop start xs)) ∙
    ap (λ n. drop given (take n (drop start xs))) (sym count)

-- a part keeps its bytes, where all bytes before its end are kept
pub part-preserved : (old new : List ℕ) (start count : ℕ) → take (start + count) new ≡ take (start + count) old → take count (drop start new) ≡ take count (drop start old)
part-preserved old new start count preserved = sym (drop-take start count new) ∙ ap (λ z. drop start z) preserved ∙ drop-take start count old

-- a part that is n bytes longer
pub part-more : (xs : List ℕ) (start count n : ℕ) → take (count + n) (drop start xs) ≡ take count (drop start xs) ++ take n (drop (start + count) xs)
part-more xs start count n = take-add count n (drop start xs) ∙ ap (λ z. take count (drop start xs) ++ take n z) (drop-drop count start xs)

-- n bytes that came behind a part, which was moved
pub part-arrived : (old moved new : List ℕ) (start count from to n : ℕ) → to ≡ from + count → take count (drop from moved) ≡ take count (drop start old) → take to new ≡ take to moved
    → take (to + n - from) (drop from new) ≡ take count (drop start old) ++ take n (drop to new)
part-arrived old moved new start count from to n e same preserved =
    let preserved' : take (from + count) new ≡ take (from + count) moved = rw e at preserved in
    let longer : to + n - from ≡ count + n = omega arith in
    ap (λ m. take m (drop from new)) longer ∙ part-more new from count n ∙
    ap (λ z. z ++ take n (drop (from + count) new)) (part-preserved moved new from count preserved' ∙ same) ∙
    ap (λ m. take count (drop start old) ++ take n (drop m new)) (sym e)
