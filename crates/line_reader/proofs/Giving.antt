-- What a line taken from the pending bytes says of all unread bytes.
use Rattle.std.proofs.Common.{◌≡◌, ℕ, ◌+◌, ◌-◌, ◌<◌, ◌≤◌, Bool, true, false, cond, eqb, ltb, get_or, List, [], ◌++◌, Option, Some, None, Ok, Err, length, take, refl, sym, ap, subst, ◌∙◌, arith, length-append, length-take, inr}
use Rattle.std.specs.Prelude.{Result, OnErr}
use Rattle.std.proofs.lemmas.List.{take-append-le}
use Rattle.std.proofs.lemmas.Bool.Decides.{nat_tests}
use Rattle.std.specs.Io.KnownBytes.{Keeps}
use Rattle.line_reader.specs.Lines.{feed_place, first_line, after_line, without_return}
use Rattle.line_reader.specs.NextLine.{unread, NextIs, TakesLine, longest_line}
use Rattle.line_reader.specs.declared.outcome.NextLine.{NextLine}
use Rattle.line_reader.specs.declared.outcome.NextLine.TheVariants.{Whole, TooLong, End}
use Rattle.line_reader.specs.FirstLine.{GivesFirst, SameLines, StaysInLine, LosesLine}
use Rattle.line_reader.proofs.Feeds.{feed_place-le, feed_place-append_none, feed_place-append_some}
use Rattle.line_reader.proofs.Taking.{after_line-append_none, after_line-append_some}

without-long : (b : Bool) (xs : List ℕ) → length xs ≤ length (cond b (take (length xs - 1) xs) xs) + 1
without-long true xs = omega (arith, length-take (length xs - 1) xs)
without-long false xs = omega arith

-- a carriage return is one byte
pub length-without_return : (xs : List ℕ) → length xs ≤ length (without_return xs) + 1
length-without_return xs = without-long (eqb (get_or xs (length xs - 1) 0) 13) xs

first-long : (b : Bool) (xs : List ℕ) (n : ℕ) → n ≤ length xs → n ≤ length (cond b (without_return (take n xs)) xs) + 1
first-long true xs n h = let whole : length (take n xs) ≡ n = rw length-take (omega arith) in omega (arith, whole, length-without_return (take n xs))
first-long false xs n h = omega arith

-- the first line has the bytes before the line feed, or all but one of them
pub length-first_line : (xs : List ℕ) → feed_place xs ≤ length (first_line xs) + 1
length-first_line xs = first-long (ltb (feed_place xs) (length xs)) xs (feed_place xs) (feed_place-le xs)

pub first_line-fed : (xs : List ℕ) → feed_place xs < length xs → first_line xs ≡ without_return (take (feed_place xs) xs)
first_line-fed xs some = let test : ltb (feed_place xs) (length xs) ≡ true = grind (arith, nat_tests) in rw test

pub first_line-append_some : (xs ys : List ℕ) → feed_place xs < length xs → first_line (xs ++ ys) ≡ first_line xs
first_line-append_some xs ys some =
    let place : feed_place (xs ++ ys) ≡ feed_place xs = feed_place-append_some xs ys some in
    let longer : feed_place (xs ++ ys) < length (xs ++ ys) = omega (arith, place, length-append xs ys) in
    let within : feed_place xs ≤ length xs = omega arith in
    first_line-fed (xs ++ ys) longer ∙
    ap without_return (ap (λ n. take n (xs ++ ys)) place ∙ take-append-le (feed_place xs) xs ys within) ∙
    sym (first_line-fed xs some)

-- what was taken from pending bytes with a line feed was taken from all unread bytes
taken-fed : (bytes mid new rest : List ℕ) (IsGiven : List ℕ → Type 0) → mid ++ rest ≡ bytes → feed_place mid < length mid → new ≡ after_line mid → IsGiven (first_line mid) →
    TakesLine (Some bytes) (Some (new ++ rest)) IsGiven
taken-fed bytes mid new rest IsGiven same some e given =
    let first : first_line bytes ≡ first_line mid = ap first_line (sym same) ∙ first_line-append_some mid rest some in (
      omega (arith, ap length same, length-append mid rest),
      ap (λ z. z ++ rest) e ∙ sym (after_line-append_some mid rest some) ∙ ap after_line same,
      subst IsGiven (sym first) given,
    )

pub gives-fed : (next : NextLine) (a : Option (List ℕ)) (mid new line : List ℕ) (remaining : Option (List ℕ)) → Keeps a (unread mid remaining) → feed_place mid < length mid →
    GivesFirst next mid new line → NextIs next a (unread new remaining) line
gives-fed End a mid new line remaining same some given = absurd given
gives-fed Whole None mid new line remaining same some given = (given.0, tt)
gives-fed Whole (Some bytes) mid new line None same some given = absurd same
gives-fed Whole (Some bytes) mid new line (Some rest) same some given = (given.0, taken-fed bytes mid new rest (λ first. line ≡ first) same some given.2 given.1)
gives-fed TooLong None mid new line remaining same some given = (given.0, tt)
gives-fed TooLong (Some bytes) mid new line None same some given = absurd same
gives-fed TooLong (Some bytes) mid new line (Some rest) same some given = (given.0, taken-fed bytes mid new rest (λ first. longest_line < length first) same some given.2 given.1)

-- so many bytes with no line feed are the front of a line that is too long
long-front : (front rest : List ℕ) → feed_place front ≡ length front → 65538 ≤ length front → longest_line < length (first_line (front ++ rest))
long-front front rest none long = omega (arith, feed_place-append_none front rest none, length-first_line (front ++ rest))

pub gives-skipped : (a : Option (List ℕ)) (mid line : List ℕ) (remaining b : Option (List ℕ)) → Keeps a (unread mid remaining) → feed_place mid ≡ length mid → 65538 ≤ length mid →
    LosesLine (unread mid remaining) b → line ≡ [] → NextIs TooLong a b line
gives-skipped None mid line remaining b same none full lost e = (e, tt)
gives-skipped (Some bytes) mid line None b same none full lost e = absurd same
gives-skipped (Some bytes) mid line (Some rest) None same none full lost e = absurd lost
gives-skipped (Some bytes) mid line (Some rest) (Some left) same none full lost e =
    let place : feed_place bytes ≡ length mid + feed_place rest = ap feed_place (sym same) ∙ feed_place-append_none mid rest none in (
      e,
      (
        omega (arith, ap length same, length-append mid rest),
        lost ∙ ap after_line same,
        omega (arith, place, length-first_line bytes),
      ),
    )

-- behind two fronts of lines that are too long the same lines are to come
pub same-long : (old new : List ℕ) (a b : Option (List ℕ)) → feed_place old ≡ length old → 65538 ≤ length old → feed_place new ≡ length new → 65538 ≤ length new
    → StaysInLine (unread old a) b → SameLines (unread old a) (unread new b)
same-long old new None b p long q longer s = tt
same-long old new (Some x) None p long q longer s = absurd s
same-long old new (Some x) (Some y) p long q longer s = inr (record {
  long_before = long-front old x p long;
  long_after = long-front new y q longer;
  same_behind = after_line-append_none new y q ∙ sym (after_line-append_none s.0 y s.2) ∙ ap after_line (sym s.1);
})

pub Keeps-same : (a : Option (List ℕ)) → Keeps a a
Keeps-same None = tt
Keeps-same (Some x) = refl

pub on_err : {T E X : Type 0} (r : Result T E) → X → OnErr r X
on_err (Ok t) x = tt
on_err (Err e) x = x
