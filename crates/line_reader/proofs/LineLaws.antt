-- The lines of an input, one after another.
use Rattle.std.proofs.Common.{◌≡◌, ℕ, suc, ◌+◌, ◌<◌, ◌≤◌, Bool, true, false, not, cond, eqb, ltb, List, [], ◌∷◌, length, take, refl, sym, ap, ◌∙◌, arith, ⊎_elim}
use Rattle.std.specs.List.{slice_split, onto_first, before_first}
use Rattle.std.specs.Str.Lines.{lines_of_parts}
use Rattle.std.proofs.lemmas.List.Splits.{slice_split_first, length-slice_split}
use Rattle.std.proofs.lemmas.Bool.Decides.{nat_tests}
use Rattle.std.proofs.lemmas.Bool.{cases_lt}
use Rattle.std.proofs.Math.ListN.{drop_of_length-le}
use Rattle.line_reader.specs.Lines.{is_feed, feed_place, without_return, first_line, after_line, lines_of, TakesLinesFromFront}
use Rattle.line_reader.proofs.Giving.{first_line-fed}

parts-first : (x : List ℕ) (parts : List (List ℕ)) → 0 < length parts → lines_of_parts (x ∷ parts) ≡ without_return x ∷ lines_of_parts parts
parts-first x [] h = absurd (omega (arith, h))
parts-first x (y ∷ more) h = refl

one-part : (b : Bool) (x : ℕ) (xs : List ℕ) (parts : List (List ℕ)) (n : ℕ) → suc (length xs) ≤ cond (not b) (1 + n) 0 → (length xs ≤ n → parts ≡ xs ∷ []) →
    cond b ([] ∷ parts) (onto_first x parts) ≡ (x ∷ xs) ∷ []
one-part true x xs parts n h f = absurd (omega (arith, h))
one-part false x xs parts n h f = let whole : parts ≡ xs ∷ [] = f (omega (arith, h)) in rw whole

split-none : (xs : List ℕ) → length xs ≤ feed_place xs → slice_split is_feed xs ≡ xs ∷ []
split-none [] h = refl
split-none (x ∷ xs) h = one-part (is_feed x) x xs (slice_split is_feed xs) (feed_place xs) h (split-none xs)

lines-fed : (xs : List ℕ) → feed_place xs < length xs → lines_of xs ≡ first_line xs ∷ lines_of (after_line xs)
lines-fed xs some =
    let parts : 0 < length (slice_split is_feed (after_line xs)) = omega (arith, length-slice_split is_feed (after_line xs)) in
    ap lines_of_parts (slice_split_first is_feed xs 0 some) ∙ parts-first (before_first is_feed xs) (slice_split is_feed (after_line xs)) parts ∙
    ap (λ l. l ∷ lines_of (after_line xs)) (sym (first_line-fed xs some))

lines-last : (xs : List ℕ) → 0 < length xs → length xs ≤ feed_place xs → lines_of xs ≡ first_line xs ∷ lines_of (after_line xs)
lines-last xs more none =
    let some : eqb (length xs) 0 ≡ false = grind (arith, nat_tests) in
    let unfed : ltb (feed_place xs) (length xs) ≡ false = grind (arith, nat_tests) in
    let whole : lines_of xs ≡ xs ∷ [] = ap lines_of_parts (split-none xs none) ∙ ap (λ b. cond b [] (xs ∷ [])) some in
    let first : first_line xs ≡ xs = ap (λ b. cond b (without_return (take (feed_place xs) xs)) xs) unfed in
    let past : length xs ≤ feed_place xs + 1 = omega arith in
    let after : after_line xs ≡ [] = drop_of_length-le xs past in
    whole ∙ ap (λ l. l ∷ []) (sym first) ∙ ap (λ l. first_line xs ∷ lines_of l) (sym after)

pub lines_of-cons : (xs : List ℕ) → 0 < length xs → lines_of xs ≡ first_line xs ∷ lines_of (after_line xs)
lines_of-cons xs more = ⊎_elim (lines-fed xs) (lines-last xs more) (cases_lt (feed_place xs) (length xs))

pub lines_law : TakesLinesFromFront
lines_law = (refl, lines_of-cons)
