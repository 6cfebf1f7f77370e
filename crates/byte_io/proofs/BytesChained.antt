-- One read or write after another.
use Rattle.std.proofs.Common.{◌≡◌, ℕ, ◌+◌, ◌-◌, ◌≤◌, List, ◌++◌, Option, Some, None, length, take, drop, sym, ap, ◌∙◌, append_assoc, arith, length-take, length-drop}
use Rattle.std.proofs.Math.Seq.{take-append-add, take-add}
use Rattle.std.proofs.lemmas.List.{take-append-le, take_all, take_at, take-append-drop, drop-drop}
use borrow.Rule.Slice.PartMut.{put_mid, post_of}
use Rattle.std.specs.Io.KnownBytes.{Appends, Consumes}

pub Appends-chained : (a b c : Option (List ℕ)) (xs ys : List ℕ) → Appends a b xs → Appends b c ys → Appends a c (xs ++ ys)
Appends-chained None b c xs ys p q = tt
Appends-chained (Some had) None c xs ys p q = absurd p
Appends-chained (Some had) (Some bs) None xs ys p q = absurd q
Appends-chained (Some had) (Some bs) (Some cs) xs ys p q = rw (q, p, append_assoc)

-- a sink that took the first n bytes, and then m bytes of the others
pub Appends-more : (a b c : Option (List ℕ)) (bytes rest : List ℕ) (n m : ℕ) → rest ≡ drop n bytes → Appends a b (take n bytes) → Appends b c (take m rest) → Appends a c (take (n + m) bytes)
Appends-more a b c bytes rest n m e p q =
    let next : Appends b c (take m (drop n bytes)) = rw e at q in
    rw (take-add n m bytes) (Appends-chained a b c (take n bytes) (take m (drop n bytes)) p next)

pub within-more : (bytes rest : List ℕ) (n m : ℕ) → rest ≡ drop n bytes → n ≤ length bytes → m ≤ length rest → n + m ≤ length bytes
within-more bytes rest n m e within taken = omega (arith, ap length e, length-drop n bytes)

-- what is left of the bytes, when m more of them were taken
pub rest-more : (bytes rest : List ℕ) (n m : ℕ) → rest ≡ drop n bytes → take (length rest - m) (drop m rest) ≡ drop (n + m) bytes
rest-more bytes rest n m e =
    take_all (length rest - m) (drop m rest) (simp length-drop (omega arith)) ∙ ap (λ z. drop m z) e ∙ drop-drop m n bytes

pub Consumes-chained : (a b c : Option (List ℕ)) (xs ys : List ℕ) → Consumes a b xs → Consumes b c ys → Consumes a c (xs ++ ys)
Consumes-chained None b c xs ys p q = tt
Consumes-chained (Some had) None c xs ys p q = absurd p
Consumes-chained (Some had) (Some bs) None xs ys p q = absurd q
Consumes-chained (Some had) (Some bs) (Some cs) xs ys p q = rw (p, q, append_assoc)

-- the front of a buffer, when `count` bytes more were read behind the first `filled`
pub take-read_more : (filled room count : ℕ) (old new : List ℕ) → filled ≤ length old → count ≤ length new → take (filled + count) (put_mid filled room old new) ≡ take filled old ++ take count new
take-read_more filled room count old new within read =
    let front : length (take filled old) ≡ filled = simp length-take (omega arith) in
    let joined : take (filled + count) (take filled old ++ (new ++ post_of filled room old)) ≡ take filled old ++ take count (new ++ post_of filled room old) =
    rw front at (take-append-add (take filled old) (new ++ post_of filled room old) count) in
    joined ∙ ap (λ z. take filled old ++ z) (take-append-le count new (post_of filled room old) read)

pub Consumes-more : (a b c : Option (List ℕ)) (filled room count : ℕ) (old new : List ℕ) → filled ≤ length old → count ≤ length new → Consumes a b (take filled old) → Consumes b c (take count new) → Consumes a c (take (filled + count) (put_mid filled room old new))
Consumes-more a b c filled room count old new within read p q =
    rw (take-read_more filled room count old new within read) (Consumes-chained a b c (take filled old) (take count new) p q)

-- the bytes that are left, when the next `count` of them were copied to the front of a buffer
pub drop-copied : (bytes copied other : List ℕ) (next count : ℕ) → copied ≡ take count (drop next bytes) → length copied ≡ count → drop next bytes ≡ take count (copied ++ other) ++ drop (next + count) bytes
drop-copied bytes copied other next count e n =
    sym (take-append-drop count (drop next bytes)) ∙
    ap (λ z. z ++ drop count (drop next bytes)) (sym e) ∙ ap (λ z. copied ++ z) (drop-drop count next bytes) ∙
    ap (λ z. z ++ drop (next + count) bytes) (sym (take_at copied other count n))
