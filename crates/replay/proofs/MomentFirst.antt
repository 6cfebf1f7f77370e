-- The moment at which a line begins: its text has 19 letters, and no space.
use Rattle.std.proofs.Common.{true≢false, ◌≡◌, ◌+◌, ◌<◌, ℕ, Bool, true, false, cond, List, length, get_or, take, drop, Option, Some, None, refl, sym, ap, subst, ◌∙◌, arith}
use Rattle.std.specs.Prelude.{not, nat_lt, option_and_then, option_map}
use Rattle.std.specs.List.{list_all, position_or_len}
use Rattle.std.proofs.lemmas.Bool.{and_parts, eqb-true, false_from_ne_true, lt-ltb, ltb-true}
use Rattle.std.proofs.lemmas.List.{get_or-take, length-take-le}
use Rattle.std.proofs.lemmas.List.Folds.{list_all_at}
use Rattle.std.proofs.lemmas.List.Sums.{passes_at_first, position_or_len_is}
use Rattle.calendar.specs.DateTexts.{fits, has_form, moment_form, moment_of}
use Rattle.calendar.proofs.Unique.{fits_at}
use Rattle.replay.specs.ReplayLines.{is_space, moment_first}

-- what has not the form of a moment is none
formless : (text : List ℕ) → has_form moment_form text ≡ false → moment_of text ≡ None
unfolding moment_of
formless text e = rw e

formed_length : (text : List ℕ) → has_form moment_form text ≡ true → length text ≡ 19
formed_length text e = sym (eqb-true _ _ (and_parts _ _ e).0)

-- a space fits the form nowhere
abbrev unfit : ℕ → Bool
unfit sign = not (fits sign 32)

space_fits : (k : ℕ) → k < 19 → fits (get_or moment_form k 0) 32 ≡ true → list_all unfit moment_form ≡ false
space_fits k low e = list_all_at unfit moment_form k 0 low (ap not e)

all_unfit : list_all unfit moment_form ≡ true
all_unfit = refl

spaceless : (text : List ℕ) → has_form moment_form text ≡ true → (k : ℕ) → k < 19 → is_space (get_or text k 0) ≡ false
spaceless text e k low =
    false_from_ne_true (is_space (get_or text k 0)) (λ is.
    true≢false (sym all_unfit ∙ space_fits k low (ap (fits (get_or moment_form k 0)) (sym (eqb-true (get_or text k 0) 32 is)) ∙ fits_at moment_form text k e low)))

-- the first space of a line that begins with such a text, and has a space behind it
first_space : (line : List ℕ) → 19 < length line → get_or line 19 0 ≡ 32 → has_form moment_form (take 19 line) ≡ true → position_or_len is_space line ≡ 19
first_space line long space e =
    position_or_len_is is_space line 19 0 (omega (arith, long))
    (λ k low. ap is_space (sym (get_or-take 19 line k 0 low)) ∙ spaceless (take 19 line) e k low)
    (λ _. ap is_space space)

-- the moment that the first part of a line spells, and its other part
abbrev spelled : List ℕ × List ℕ → Option (ℕ × List ℕ)
spelled parts = option_map (λ (moment : ℕ). (moment, parts.1)) (moment_of parts.0)

-- a line has its first space elsewhere, or none
elsewhere : (line : List ℕ) → ((position_or_len is_space line ≡ 19) → position_or_len is_space line < length line → has_form moment_form (take 19 line) ≡ false)
    → moment_first line ≡ None
elsewhere line other =
    (elim (nat_lt (position_or_len is_space line) (length line)) as (λ b. nat_lt (position_or_len is_space line) (length line) ≡ b
    → option_and_then spelled
    (cond b (Some (take (position_or_len is_space line) line, drop (position_or_len is_space line + 1) line)) None) ≡ None) [
      | false ↦ λ past. refl
      | true ↦ λ there.
          let place = position_or_len is_space line in
          let low : place < length line = ltb-true _ _ there in
          let none : moment_of (take place line) ≡ None =
          formless (take place line) (false_from_ne_true (has_form moment_form (take place line)) (λ e.
          let many : place ≡ 19 = sym (length-take-le place line (omega (arith, low))) ∙ formed_length (take place line) e in
          true≢false (sym e ∙ ap (λ n. has_form moment_form (take n line)) many ∙ other many low))) in
          ap (option_map (λ (moment : ℕ). (moment, drop (place + 1) line))) none
    ]) refl

-- no line begins with a moment that is too short, or has no space behind the letters of one
pub no_moment_first : (line : List ℕ) → (19 < length line → get_or line 19 0 ≡ 32 → has_form moment_form (take 19 line) ≡ false) → moment_first line ≡ None
no_moment_first line other =
    elsewhere line (λ many low.
    other (subst (λ n. n < length line) many low) (ap (λ n. get_or line n 0) (sym many) ∙ eqb-true _ 32 (passes_at_first is_space line 0 low)))

-- where a space stands behind the letters of one, the line begins with what they spell
pub moment_first-spelled : (line : List ℕ) → 19 < length line → get_or line 19 0 ≡ 32
    → option_map (λ (moment : ℕ). (moment, drop 20 line)) (moment_of (take 19 line)) ≡ moment_first line
moment_first-spelled line long space =
    (elim (has_form moment_form (take 19 line)) as (λ b. has_form moment_form (take 19 line) ≡ b → option_map (λ (moment : ℕ). (moment, drop 20 line)) (moment_of (take 19 line)) ≡ moment_first line) [
      | false ↦ λ e. ap (option_map (λ (moment : ℕ). (moment, drop 20 line))) (formless (take 19 line) e) ∙ sym (no_moment_first line (λ _ _. e))
      | true ↦ λ e.
          let place : position_or_len is_space line ≡ 19 = first_space line long space e in
          let low : nat_lt 19 (length line) ≡ true = lt-ltb 19 (length line) long in
          sym (ap (λ n. option_and_then spelled (cond (nat_lt n (length line)) (Some (take n line, drop (n + 1) line)) None)) place
          ∙ ap (λ b. option_and_then spelled (cond b (Some (take 19 line, drop 20 line)) None)) low)
    ]) refl
