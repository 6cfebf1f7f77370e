-- Lines that are taken from the front of the unread bytes.
use Rattle.std.proofs.Common.{◌≡◌, ℕ, ◌+◌, ◌<◌, ◌≤◌, List, ◌++◌, Option, Some, None, length, drop, sym, ap, ◌∙◌, arith, append_assoc, length-append, length-drop}
use Rattle.std.proofs.Math.Seq.{drop-append-add, drop-append_seam}
use Rattle.std.proofs.lemmas.List.{drop-append-le}
use Rattle.std.specs.Io.KnownBytes.{Keeps}
use Rattle.line_reader.specs.Lines.{feed_place, after_line}
use Rattle.line_reader.specs.NextLine.{unread, SameWhole}
use Rattle.line_reader.specs.FirstLine.{StaysInLine, LosesLine}
use Rattle.line_reader.proofs.Feeds.{feed_place-append_none, feed_place-append_some, feed_place-drop}

pub after_line-append_none : (xs ys : List ℕ) → feed_place xs ≡ length xs → after_line (xs ++ ys) ≡ after_line ys
after_line-append_none xs ys none =
    let place : feed_place (xs ++ ys) + 1 ≡ length xs + (feed_place ys + 1) = omega (arith, feed_place-append_none xs ys none) in
    ap (λ n. drop n (xs ++ ys)) place ∙ drop-append-add xs ys (feed_place ys + 1)

pub after_line-append_some : (xs ys : List ℕ) → feed_place xs < length xs → after_line (xs ++ ys) ≡ after_line xs ++ ys
after_line-append_some xs ys some =
    let within : feed_place xs + 1 ≤ length xs = omega arith in
    ap (λ n. drop (n + 1) (xs ++ ys)) (feed_place-append_some xs ys some) ∙ drop-append-le (feed_place xs + 1) xs ys within

-- there is no line feed in two parts, where there is none in each
unfed-append : (xs ys : List ℕ) → feed_place xs ≡ length xs → feed_place ys ≡ length ys → feed_place (xs ++ ys) ≡ length (xs ++ ys)
unfed-append xs ys p q = omega (arith, feed_place-append_none xs ys p, q, length-append xs ys)

pub stays-chained : (a b c : Option (List ℕ)) → StaysInLine a b → StaysInLine b c → StaysInLine a c
stays-chained None b c p q = tt
stays-chained (Some x) None c p q = absurd p
stays-chained (Some x) (Some y) None p q = absurd q
stays-chained (Some x) (Some y) (Some z) p q = (p.0 ++ q.0, p.1 ∙ ap (λ w. p.0 ++ w) q.1 ∙ sym (append_assoc p.0 q.0 z), unfed-append p.0 q.0 p.2 q.2)

-- behind a front more was read, and no line feed
pub stays-read : (front pending : List ℕ) (a b : Option (List ℕ)) → Keeps (unread front a) (unread pending b) → length front ≤ length pending → feed_place pending ≡ length pending → StaysInLine a b
stays-read front pending None b p more none = tt
stays-read front pending (Some x) None p more none = absurd p
stays-read front pending (Some x) (Some y) p more none =
    let n = length front in
    let came : x ≡ drop n pending ++ y = sym (drop-append_seam front x) ∙ ap (λ z. drop n z) (sym p) ∙ drop-append-le n pending y more in
    (drop n pending, came, omega (arith, none, feed_place-drop n pending (omega (arith, none)), length-drop n pending))

-- behind a line of which some was passed over, its line feed has come
pub loses-line : (a b c : Option (List ℕ)) (front pending rest : List ℕ) (place : ℕ) → StaysInLine a b → Keeps (unread front b) (unread pending c) → feed_place front ≡ length front
    → place ≡ feed_place pending → place < length pending → rest ≡ drop (place + 1) pending → LosesLine a (unread rest c)
loses-line None b c front pending rest place s p none first inside e = tt
loses-line (Some x) None c front pending rest place s p none first inside e = absurd s
loses-line (Some x) (Some y) None front pending rest place s p none first inside e = absurd p
loses-line (Some x) (Some y) (Some z) front pending rest place s p none first inside e =
    let some : feed_place pending < length pending = omega arith in
    let given : rest ≡ after_line pending = e ∙ ap (λ n. drop (n + 1) pending) first in
    let behind : after_line x ≡ after_line y = ap after_line s.1 ∙ after_line-append_none s.0 y s.2 in
    let there : after_line pending ++ z ≡ after_line y = sym (after_line-append_some pending z some) ∙ ap after_line p ∙ after_line-append_none front y none in
    rw given (there ∙ sym behind)

pub SameWhole-chained : (m n k j : ℕ) (a b c : Option (List ℕ)) → SameWhole m a n b → SameWhole n b k c → j ≡ k → SameWhole m a j c
SameWhole-chained m n k j None b c p q e = tt
SameWhole-chained m n k j (Some x) None c p q e = absurd p
SameWhole-chained m n k j (Some x) (Some y) None p q e = absurd q
SameWhole-chained m n k j (Some x) (Some y) (Some z) p q e = omega (arith, p, q, e)
