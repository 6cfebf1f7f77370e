-- Where the first line feed stands.
use Rattle.std.proofs.Common.{◌≡◌, ℕ, zero, suc, ◌+◌, ◌<◌, ◌≤◌, Bool, true, false, not, cond, ltb, List, [], ◌∷◌, ◌++◌, Option, Some, None, MatchOption, length, take, drop, refl, ap, subst, sym, ◌∙◌, arith, ⊎_elim, length-append, length-drop, length-take}
use Rattle.std.specs.List.{position}
use Rattle.std.specs.Prelude.{nat_lt, slice_index}
use Rattle.std.proofs.Math.Seq.{take-add, take-length}
use Rattle.std.proofs.lemmas.List.{take-append-drop}
use Rattle.std.proofs.lemmas.List.Sums.{count_by-le-length, prefix_len-le-length, sum_by-append, sum_by-cons}
use Rattle.std.proofs.lemmas.List.Folds.{prefix_len-append}
use Rattle.std.proofs.lemmas.Bool.Decides.{nat_tests}
use Rattle.std.proofs.lemmas.Bool.{cases_lt}
use borrow.Author.Tests.{ltb-true, ltb-false}
use Rattle.memchr.specs.Find.{IsFirstByte, is_byte}
use Rattle.line_reader.specs.Lines.{is_feed, feed_place, feeds_in}

pub feed_place-le : (bytes : List ℕ) → feed_place bytes ≤ length bytes
feed_place-le bytes = prefix_len-le-length (λ b. not (is_feed b)) bytes

past-one : (b : Bool) (n m k : ℕ) → suc n ≤ cond (not b) (1 + m) 0 → (n ≤ m → m ≡ n + k) → cond (not b) (1 + m) 0 ≡ suc n + k
past-one true n m k h f = absurd (omega (arith, h))
past-one false n m k h f = omega (arith, f (omega (arith, h)))

-- the bytes before the first line feed can be left out
pub feed_place-drop : (n : ℕ) (bytes : List ℕ) → n ≤ feed_place bytes → feed_place bytes ≡ n + feed_place (drop n bytes)
feed_place-drop zero bytes h = omega arith
feed_place-drop (suc n) [] h = absurd (omega (arith, h))
feed_place-drop (suc n) (x ∷ xs) h = past-one (is_feed x) n (feed_place xs) (feed_place (drop n xs)) h (feed_place-drop n xs)

-- behind bytes with no line feed
pub feed_place-append_none : (xs ys : List ℕ) → feed_place xs ≡ length xs → feed_place (xs ++ ys) ≡ length xs + feed_place ys
feed_place-append_none xs ys none = prefix_len-append (λ b. not (is_feed b)) xs ys ∙ grind (arith, nat_tests)

-- behind bytes with one
pub feed_place-append_some : (xs ys : List ℕ) → feed_place xs < length xs → feed_place (xs ++ ys) ≡ feed_place xs
feed_place-append_some xs ys some = prefix_len-append (λ b. not (is_feed b)) xs ys ∙ grind (arith, nat_tests)

-- bytes that come later move no line feed to the front
pub feed_place-append_le : (xs ys : List ℕ) → feed_place xs ≤ feed_place (xs ++ ys)
feed_place-append_le xs ys =
    ⊎_elim (λ (more : feed_place xs < length xs). omega (arith, feed_place-append_some xs ys more))
    (λ (none : length xs ≤ feed_place xs). let same : feed_place xs ≡ length xs = omega (arith, feed_place-le xs) in omega (arith, feed_place-append_none xs ys same))
    (cases_lt (feed_place xs) (length xs))

-- behind a front with no line feed
pub feed_place-front : (front bytes : List ℕ) → take (length front) bytes ≡ front → feed_place front ≡ length front → length front ≤ feed_place bytes
feed_place-front front bytes e none =
    let parts : bytes ≡ front ++ drop (length front) bytes = sym (take-append-drop (length front) bytes) ∙ ap (λ x. x ++ drop (length front) bytes) e in
    omega (arith, ap feed_place parts, feed_place-append_none front (drop (length front) bytes) none)

-- the front of bytes with no line feed
pub feed_place-take : (n : ℕ) (bytes : List ℕ) → feed_place bytes ≡ length bytes → feed_place (take n bytes) ≡ length (take n bytes)
feed_place-take n bytes none =
    let front = take n bytes in
    let back = drop n bytes in
    let whole : feed_place (front ++ back) ≡ length front + length back = ap feed_place (take-append-drop n bytes) ∙ none ∙ ap length (sym (take-append-drop n bytes)) ∙ length-append front back in
    ⊎_elim (λ (some : feed_place front < length front). absurd (omega (arith, whole, feed_place-append_some front back some)))
    (λ (all : length front ≤ feed_place front). omega (arith, all, feed_place-le front))
    (cases_lt (feed_place front) (length front))

pub still-searched : (searched : ℕ) (old new bytes : List ℕ) → searched ≤ feed_place old → new ≡ old ++ bytes → searched ≤ feed_place new
still-searched searched old new bytes h e = rw e (omega (arith, feed_place-append_le old bytes))

placed : (b : Bool) (n m : ℕ) (found : Option ℕ) → found ≡ cond b (Some n) None → (b ≡ true → n < m) → (b ≡ false → m ≤ n) → MatchOption found (m ≤ n) (λ place. (place ≡ n) × (n < m))
placed true n m None e below above = absurd (cc)
placed true n m (Some place) e below above = (cc, below refl)
placed false n m None e below above = above refl
placed false n m (Some place) e below above = absurd (cc)

-- the answer of a search behind the first `searched` bytes
pub found-behind : (searched : ℕ) (bytes : List ℕ) (found : Option ℕ) → searched ≤ feed_place bytes → found ≡ position is_feed (drop searched bytes) →
    MatchOption found (feed_place bytes ≡ length bytes) (λ place. (searched + place ≡ feed_place bytes) × (searched + place < length bytes))
found-behind searched bytes None h e =
    let behind : List ℕ = drop searched bytes in
    let none : length behind ≤ feed_place behind = placed (ltb (feed_place behind) (length behind)) (feed_place behind) (length behind) None e (ltb-true _ _) (ltb-false _ _) in
    omega (arith, none, feed_place-drop searched bytes h, length-drop searched bytes, feed_place-le bytes)
found-behind searched bytes (Some place) h e =
    let behind : List ℕ = drop searched bytes in
    let some : (place ≡ feed_place behind) × (feed_place behind < length behind) =
    placed (ltb (feed_place behind) (length behind)) (feed_place behind) (length behind) (Some place) e (ltb-true _ _) (ltb-false _ _) in (
      omega (arith, some.0, feed_place-drop searched bytes h),
      omega (arith, some.0, some.1, length-drop searched bytes),
    )

-- bytes that are no line feed stand before the first
feed_place-past : (n : ℕ) (bytes : List ℕ) → n ≤ length bytes → ((k : ℕ) → k < n → ¬ is_feed (slice_index bytes k) ≡ true) → n ≤ feed_place bytes
feed_place-past zero bytes h none = omega arith
feed_place-past (suc n) [] h none = absurd (omega (arith, h))
feed_place-past (suc n) (x ∷ xs) h none =
    past (is_feed x) n (feed_place xs) (none 0 (omega arith)) (feed_place-past n xs (omega (arith, h)) (λ k less. none (suc k) (omega (arith, less))))
  where
    past : (b : Bool) (n m : ℕ) → ¬ b ≡ true → n ≤ m → suc n ≤ cond (not b) (1 + m) 0
    past true n m other up = absurd (other refl)
    past false n m other up = omega (arith, up)

-- a line feed stands no sooner than the first
feed_place-upto : (k : ℕ) (bytes : List ℕ) → k < length bytes → is_feed (slice_index bytes k) ≡ true → feed_place bytes ≤ k
feed_place-upto k [] h is = absurd (omega (arith, h))
feed_place-upto zero (x ∷ xs) h is = let none : feed_place (x ∷ xs) ≡ 0 = ap (λ b. cond (not b) (1 + feed_place xs) 0) is in omega (arith, none)
feed_place-upto (suc k) (x ∷ xs) h is = next (is_feed x) (feed_place xs) k (feed_place-upto k xs (omega (arith, h)) is)
  where
    next : (b : Bool) (m k : ℕ) → m ≤ k → cond (not b) (1 + m) 0 ≤ suc k
    next true m k up = omega arith
    next false m k up = omega (arith, up)

-- the first place of a line feed is where one is found
pub found-first : (bytes : List ℕ) (found : Option ℕ) → IsFirstByte (is_byte 10) bytes found → found ≡ position is_feed bytes
found-first bytes None none =
    let past = feed_place-past (length bytes) bytes (omega arith) (λ k less. none k (omega arith) less) in
    let behind : nat_lt (feed_place bytes) (length bytes) ≡ false = grind (arith, nat_tests) in
    sym (ap (λ b. cond b (Some (feed_place bytes)) None) behind)
found-first bytes (Some k) is =
    let low = feed_place-past k bytes (omega (arith, is.0.high)) (λ i less. is.0.before i (omega arith) less) in
    let same : feed_place bytes ≡ k = omega (arith, low, feed_place-upto k bytes is.0.high is.1) in
    let within : nat_lt (feed_place bytes) (length bytes) ≡ true = grind (arith, nat_tests, is.0.high) in
    ap Some (sym same) ∙ sym (ap (λ b. cond b (Some (feed_place bytes)) None) within)

-- ---- how many line feeds there are

pub feeds_in-append : (xs ys : List ℕ) → feeds_in (xs ++ ys) ≡ feeds_in xs + feeds_in ys
feeds_in-append xs ys = sum_by-append (λ b. cond (is_feed b) 1 0) xs ys

before-one : (b : Bool) (n m k : ℕ) → suc n ≤ cond (not b) (1 + m) 0 → (n ≤ m → k ≡ 0) → cond b 1 0 + k ≡ 0
before-one true n m k h f = absurd (omega (arith, h))
before-one false n m k h f = omega (arith, f (omega (arith, h)))

-- none before the first
feeds_in-before : (n : ℕ) (xs : List ℕ) → n ≤ feed_place xs → feeds_in (take n xs) ≡ 0
feeds_in-before zero xs h = refl
feeds_in-before (suc n) [] h = refl
feeds_in-before (suc n) (x ∷ xs) h =
    sum_by-cons (λ b. cond (is_feed b) 1 0) x (take n xs) ∙ before-one (is_feed x) n (feed_place xs) (feeds_in (take n xs)) h (feeds_in-before n xs)

pub feeds_in-none : (xs : List ℕ) → feed_place xs ≡ length xs → feeds_in xs ≡ 0
feeds_in-none xs none = subst (λ (ys : List ℕ). feeds_in ys ≡ 0) (take-length xs) (feeds_in-before (length xs) xs (omega (arith, none)))

-- a line has one at most
pub feeds_in-line : (xs : List ℕ) → feeds_in (take (feed_place xs + 1) xs) ≤ 1
feeds_in-line xs =
    let n = feed_place xs in
    let parts = ap feeds_in (take-add n 1 xs) ∙ feeds_in-append (take n xs) (take 1 (drop n xs)) in
    omega (arith, parts, feeds_in-before n xs (omega arith), count_by-le-length is_feed (take 1 (drop n xs)), length-take 1 (drop n xs))
