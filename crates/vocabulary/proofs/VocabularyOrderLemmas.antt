-- Parties are ordered as the numbers that their letters spell in their places.
use Rattle.std.proofs.Common.{◌≡◌, ℕ, zero, suc, ◌+◌, ◌-◌, ◌*◌, ◌<◌, ◌≤◌, true, ◌&&◌, List, [], ◌∷◌, ◌++◌, length, get_or, refl, ap, sym, ◌∙◌, subst, arith, length-append}
use Rattle.std.proofs.lemmas.Bool.Decides.{nat_tests}
use Rattle.std.specs.Prelude.{nat_le, replicate}
use Rattle.std.specs.List.{list_all}
use Rattle.std.specs.Int.{w128, from_be_bytes}
use Rattle.std.specs.declared.cmp.Ordering.{Ordering}
use Rattle.std.specs.declared.cmp.Ordering.TheVariants.{Less, Equal, Greater}
use Rattle.std.specs.Ordering.{nat_cmp, ordering_then, MatchOrdering}
use Rattle.std.specs.Cmp.{ranks, first_so, second_so}
use Rattle.std.specs.Cmp.Lexicographic.{slice_cmp}
use Rattle.vocabulary.specs.Names.{letters_of, in_places, Holds, is_name_letter, is_name, is_party}
use Rattle.vocabulary.proofs.VocabularyNameLemmas.{ascii_below, letters_of_party, name_letters_small}

abbrev AreBytes : List ℕ → Type 0
AreBytes xs = (i : ℕ) → get_or xs i 0 < 256

-- the number that bytes spell behind another, the greatest first
abbrev spelt : ℕ → List ℕ → ℕ
spelt n [] = n
spelt n (b ∷ bs) = spelt (n * 256 + b) bs

-- ---- `nat_cmp`, by how its arguments lie

is_Less : (x y : ℕ) (r : Ordering) → MatchOrdering r (x < y) (x ≡ y) (y < x) → x < y → r ≡ Less
is_Less x y Less h l = refl
is_Less x y Equal h l = let e : x ≡ y = h in absurd (omega arith)
is_Less x y Greater h l = let e : y < x = h in absurd (omega arith)

is_Equal : (x y : ℕ) (r : Ordering) → MatchOrdering r (x < y) (x ≡ y) (y < x) → x ≡ y → r ≡ Equal
is_Equal x y Less h l = let e : x < y = h in absurd (omega arith)
is_Equal x y Equal h l = refl
is_Equal x y Greater h l = let e : y < x = h in absurd (omega arith)

is_Greater : (x y : ℕ) (r : Ordering) → MatchOrdering r (x < y) (x ≡ y) (y < x) → y < x → r ≡ Greater
is_Greater x y Less h l = let e : x < y = h in absurd (omega arith)
is_Greater x y Equal h l = let e : x ≡ y = h in absurd (omega arith)
is_Greater x y Greater h l = refl

-- ---- bytes as numbers

rises : (a b : ℕ) (xs ys : List ℕ) → length xs ≡ length ys → AreBytes xs → a < b → spelt a xs < spelt b ys
rises a b [] [] e h l = l
rises a b [] (y ∷ ys) e h l = absurd (omega arith)
rises a b (x ∷ xs) [] e h l = absurd (omega arith)
rises a b (x ∷ xs) (y ∷ ys) e h l =
    let small : x < 256 = h 0 in
    rises (a * 256 + x) (b * 256 + y) xs ys (omega arith) (λ i. h (suc i)) (omega arith)

order_spelt : (a : ℕ) (xs ys : List ℕ) → length xs ≡ length ys → AreBytes xs → AreBytes ys → nat_cmp (spelt a xs) (spelt a ys) ≡ slice_cmp nat_cmp xs ys
order_spelt a [] [] e g h = is_Equal a a _ (ranks a a) refl
order_spelt a [] (y ∷ ys) e g h = absurd (omega arith)
order_spelt a (x ∷ xs) [] e g h = absurd (omega arith)
order_spelt a (x ∷ xs) (y ∷ ys) e g h = by (order_spelt (a * 256 + x) xs ys (omega arith) (λ i. g (suc i)) (λ i. h (suc i))) (nat_cmp x y) refl (ranks x y)
  where
    by : nat_cmp (spelt (a * 256 + x) xs) (spelt (a * 256 + x) ys) ≡ slice_cmp nat_cmp xs ys
        → (r : Ordering) → nat_cmp x y ≡ r → MatchOrdering r (x < y) (x ≡ y) (y < x)
        → nat_cmp (spelt (a * 256 + x) xs) (spelt (a * 256 + y) ys) ≡ ordering_then (nat_cmp x y) (slice_cmp nat_cmp xs ys)
    by rest Less q l =
        let under : x < y = l in
        let t = rises (a * 256 + x) (a * 256 + y) xs ys (omega arith) (λ i. g (suc i)) (omega arith) in
        is_Less _ _ _ (ranks (spelt (a * 256 + x) xs) (spelt (a * 256 + y) ys)) t ∙ sym (ap (λ r. ordering_then r (slice_cmp nat_cmp xs ys)) q)
    by rest Greater q l =
        let over : y < x = l in
        let t = rises (a * 256 + y) (a * 256 + x) ys xs (omega arith) (λ i. h (suc i)) (omega arith) in
        is_Greater _ _ _ (ranks (spelt (a * 256 + x) xs) (spelt (a * 256 + y) ys)) t ∙ sym (ap (λ r. ordering_then r (slice_cmp nat_cmp xs ys)) q)
    by rest Equal q l =
        let level : x ≡ y = l in
        ap (λ z. nat_cmp (spelt (a * 256 + x) xs) (spelt (a * 256 + z) ys)) (sym level) ∙ rest ∙ sym (ap (λ r. ordering_then r (slice_cmp nat_cmp xs ys)) q)

spelt_sixteen : (a b c d e f g h i j k l m n o p : ℕ) → let xs = a ∷ b ∷ c ∷ d ∷ e ∷ f ∷ g ∷ h ∷ i ∷ j ∷ k ∷ l ∷ m ∷ n ∷ o ∷ p ∷ [] in from_be_bytes w128 xs ≡ spelt 0 xs
spelt_sixteen a b c d e f g h i j k l m n o p = omega arith

all_sixteen : (xs : List ℕ) → length xs ≡ 16 → from_be_bytes w128 xs ≡ spelt 0 xs
all_sixteen (a ∷ b ∷ c ∷ d ∷ e ∷ f ∷ g ∷ h ∷ i ∷ j ∷ k ∷ l ∷ m ∷ n ∷ o ∷ p ∷ []) q = spelt_sixteen a b c d e f g h i j k l m n o p
all_sixteen xs q = absurd (omega arith)

-- ---- parties

zeros_small : (n i : ℕ) → get_or (replicate n 0) i 0 < 256
zeros_small zero i = omega arith
zeros_small (suc n) zero = omega arith
zeros_small (suc n) (suc i) = zeros_small n i

padded_small : (xs : List ℕ) (n : ℕ) → ((i : ℕ) → get_or xs i 0 < 128) → (i : ℕ) → get_or (xs ++ replicate n 0) i 0 < 256
padded_small [] n h i = zeros_small n i
padded_small (x ∷ xs) n h zero = let small : x < 128 = h 0 in omega arith
padded_small (x ∷ xs) n h (suc i) = padded_small xs n (λ k. h (suc k)) i

short : (xs : List ℕ) → is_party xs ≡ true → length xs ≤ 16
short xs h =
    let named = first_so (is_name xs) _ h in
    let sized = first_so (nat_le 1 (length xs) && nat_le (length xs) 16) (list_all is_name_letter xs) named in
    let few : nat_le (length xs) 16 ≡ true = second_so (nat_le 1 (length xs)) (nat_le (length xs) 16) sized in
    grind (arith, nat_tests)

length-zeros : (n : ℕ) → length {A = ℕ} (replicate n 0) ≡ n
length-zeros zero = refl
length-zeros (suc n) = ap suc (length-zeros n)

places : (xs : List ℕ) → Holds 16 is_party xs → length xs ≡ 16
places xs h =
    let few = short (letters_of xs) h.form in
    let long : length (in_places 16 (letters_of xs)) ≡ 16 =
    length-append {A = ℕ} (letters_of xs) (replicate (16 - length (letters_of xs)) 0) ∙ ap (λ n. length (letters_of xs) + n) (length-zeros (16 - length (letters_of xs))) ∙ omega arith in
    ap length (sym h.rest) ∙ long

bytes : (xs : List ℕ) → Holds 16 is_party xs → AreBytes xs
bytes xs h =
    let small = ascii_below (letters_of xs) is_name_letter name_letters_small (letters_of_party (letters_of xs) h.form) in
    subst AreBytes h.rest (padded_small (letters_of xs) (16 - length (letters_of xs)) small)

pub order_of_parties : (xs ys : List ℕ) → Holds 16 is_party xs → Holds 16 is_party ys → nat_cmp (from_be_bytes w128 xs) (from_be_bytes w128 ys) ≡ slice_cmp nat_cmp xs ys
order_of_parties xs ys g h =
    let m = places xs g in
    let n = places ys h in
    ap (λ z. nat_cmp z (from_be_bytes w128 ys)) (all_sixteen xs m) ∙ ap (nat_cmp (spelt 0 xs)) (all_sixteen ys n) ∙ order_spelt 0 xs ys (m ∙ sym n) (bytes xs g) (bytes ys h)
