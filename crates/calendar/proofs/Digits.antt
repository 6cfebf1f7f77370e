-- What texts of computed digits spell.
use Rattle.std.proofs.Common.{◌≡◌, ℕ, zero, suc, ◌+◌, ◌-◌, ◌*◌, ◌/◌, ◌%◌, ◌<◌, ◌≤◌, Bool, true, false, List, [], ◌∷◌, length, get_or, cond, Option, Some, None, refl, sym, ap, ◌∙◌, arith}
use Rattle.std.proofs.lemmas.Bool.{and_from, and_parts, eqb-true}
use Rattle.std.proofs.lemmas.Option.{none-some}
use Rattle.std.proofs.lemmas.Bool.Decides.{nat_tests}
use Rattle.std.proofs.lemmas.List.Folds.{list_all-append}
use Rattle.std.specs.List.{list_all, zip}
use Rattle.std.specs.Prelude.{codes}
use Rattle.calendar.specs.Calendar.{civil_day}
use Rattle.calendar.specs.DateTexts.{is_digit, fits, has_form, day_form, moment_form, date_of, time_of, day_of, moment_of}

-- a digit's byte
is_digit-byte : (n : ℕ) → n < 10 → is_digit (48 + n) ≡ true
is_digit-byte n h = grind (arith, nat_tests)

-- the two bytes of a number below 100 spell it
two_bytes : (n : ℕ) → 10 * (48 + n / 10 - 48) + (48 + n % 10 - 48) ≡ n
two_bytes n = omega arith

-- a date written in digits
abbrev pub date_bytes : ℕ → ℕ → ℕ → List ℕ → List ℕ
date_bytes y m d rest =
    (48 + y / 100 / 10) ∷ (48 + y / 100 % 10) ∷ (48 + y % 100 / 10) ∷ (48 + y % 100 % 10) ∷ 45 ∷ (48 + m / 10) ∷ (48 + m % 10) ∷ 45 ∷ (48 + d / 10) ∷ (48 + d % 10) ∷ rest

-- a date written in digits spells the date
pub date_of-bytes : (y m d : ℕ) (rest : List ℕ) → date_of (date_bytes y m d rest) ≡ civil_day y m d
date_of-bytes y m d rest =
    let year : 100 * (10 * (48 + y / 100 / 10 - 48) + (48 + y / 100 % 10 - 48)) + (10 * (48 + y % 100 / 10 - 48) + (48 + y % 100 % 10 - 48)) ≡ y = omega arith in
    let month = two_bytes m in
    let day = two_bytes d in
    ap (λ n. civil_day n (10 * (48 + m / 10 - 48) + (48 + m % 10 - 48)) (10 * (48 + d / 10 - 48) + (48 + d % 10 - 48))) year
    ∙ ap (λ n. civil_day y n (10 * (48 + d / 10 - 48) + (48 + d % 10 - 48))) month
    ∙ ap (λ n. civil_day y m n) day

pub has_form-date : (y m d : ℕ) → y < 10000 → m < 100 → d < 100 → has_form day_form (date_bytes y m d []) ≡ true
has_form-date y m d h k l =
    rw (is_digit-byte (y / 100 / 10) (omega arith), is_digit-byte (y / 100 % 10) (omega arith), is_digit-byte (y % 100 / 10) (omega arith), is_digit-byte (y % 100 % 10) (omega arith), is_digit-byte (m / 10) (omega arith), is_digit-byte (m % 10) (omega arith), is_digit-byte (d / 10) (omega arith), is_digit-byte (d % 10) (omega arith)) refl

-- a date of the calendar is written in four, two and two digits
pub civil_day-parts : (y m d n : ℕ) → civil_day y m d ≡ Some n → (y ≤ 2999) × (m ≤ 12) × (d ≤ 31)
civil_day-parts y m d n e = grind (arith, nat_tests)

pub day_of-bytes : (y m d n : ℕ) → civil_day y m d ≡ Some n → day_of (date_bytes y m d []) ≡ Some n
unfolding day_of
day_of-bytes y m d n e =
    let parts = civil_day-parts y m d n e in
    rw (has_form-date y m d (omega arith) (omega arith) (omega arith)) (date_of-bytes y m d [] ∙ e)

-- what gives a value under a test passes the test
pub cond-Some : (b : Bool) (o : Option ℕ) (n : ℕ) → cond b o None ≡ Some n → (b ≡ true) × (o ≡ Some n)
cond-Some true o n e = (refl, e)
cond-Some false o n e = absurd (none-some n e)

-- a text that spells a day has the form of one, and spells it by its date
pub day_of-Some : (text : List ℕ) (n : ℕ) → day_of text ≡ Some n → (has_form day_form text ≡ true) × (date_of text ≡ Some n)
unfolding day_of
day_of-Some text n e = cond-Some (has_form day_form text) (date_of text) n e

-- a time of day written in digits
abbrev pub time_bytes : ℕ → ℕ → ℕ → List ℕ
time_bytes hour minute second =
    84 ∷ (48 + hour / 10) ∷ (48 + hour % 10) ∷ 58 ∷ (48 + minute / 10) ∷ (48 + minute % 10) ∷ 58 ∷ (48 + second / 10) ∷ (48 + second % 10) ∷ []

-- the form of a moment's text past its date
abbrev pub time_form : List ℕ
time_form = codes "T00:00:00"

abbrev pub fit : ℕ × ℕ → Bool
fit pair = fits pair.0 pair.1

list_all-time : (hour minute second : ℕ) → hour < 100 → minute < 100 → second < 100 → list_all fit (zip time_form (time_bytes hour minute second)) ≡ true
list_all-time hour minute second h k l =
    rw (is_digit-byte (hour / 10) (omega arith), is_digit-byte (hour % 10) (omega arith), is_digit-byte (minute / 10) (omega arith), is_digit-byte (minute % 10) (omega arith), is_digit-byte (second / 10) (omega arith), is_digit-byte (second % 10) (omega arith)) refl

-- a day's text and a time of day, one after the other
abbrev pub with_time : ℕ → ℕ → ℕ → ℕ → ℕ → ℕ → ℕ → ℕ → ℕ → ℕ → List ℕ → List ℕ
with_time a b c d e f g h i j rest = a ∷ b ∷ c ∷ d ∷ e ∷ f ∷ g ∷ h ∷ i ∷ j ∷ rest

has_form-moment : (a b c d e f g h i j hour minute second : ℕ) → has_form day_form (with_time a b c d e f g h i j []) ≡ true → hour < 24 → minute < 60 → second < 60 → has_form moment_form (with_time a b c d e f g h i j (time_bytes hour minute second)) ≡ true
has_form-moment a b c d e f g h i j hour minute second is k l m =
    list_all-append fit (zip day_form (with_time a b c d e f g h i j [])) (zip time_form (time_bytes hour minute second))
    ∙ and_from _ _ is (list_all-time hour minute second (omega arith) (omega arith) (omega arith))

time_of-bytes : (a b c d e f g h i j hour minute second : ℕ) → hour < 24 → minute < 60 → second < 60 → time_of (with_time a b c d e f g h i j (time_bytes hour minute second)) ≡ Some (3600 * hour + 60 * minute + second)
time_of-bytes a b c d e f g h i j hour minute second k l m =
    rw (two_bytes hour, two_bytes minute, two_bytes second) (grind (arith, nat_tests))

pub moment_of-bytes : (a b c d e f g h i j hour minute second n : ℕ) → day_of (with_time a b c d e f g h i j []) ≡ Some n → hour < 24 → minute < 60 → second < 60 → moment_of (with_time a b c d e f g h i j (time_bytes hour minute second)) ≡ Some (86400 * n + (3600 * hour + 60 * minute + second))
unfolding moment_of
moment_of-bytes a b c d e f g h i j hour minute second n is k l m =
    let parts = day_of-Some (with_time a b c d e f g h i j []) n is in
    let form = has_form-moment a b c d e f g h i j hour minute second parts.0 k l m in
    let date : date_of (with_time a b c d e f g h i j (time_bytes hour minute second)) ≡ Some n = parts.1 in
    let time = time_of-bytes a b c d e f g h i j hour minute second k l m in
    rw (form, date, time) refl

-- the first n values of a function
abbrev pub table : ℕ → (ℕ → ℕ) → List ℕ
table zero f = []
table (suc n) f = f 0 ∷ table n (λ k. f (suc k))

-- a list of n numbers is the table of its elements
pub list_is_table : (n : ℕ) (xs : List ℕ) → length xs ≡ n → xs ≡ table n (λ k. get_or xs k 0)
list_is_table zero [] e = refl
list_is_table zero (x ∷ xs) e = absurd (omega arith)
list_is_table (suc n) [] e = absurd (omega arith)
list_is_table (suc n) (x ∷ xs) e = ap (λ rest. x ∷ rest) (list_is_table n xs (omega arith))

pub length_of_day : (text : List ℕ) (n : ℕ) → day_of text ≡ Some n → length text ≡ 10
length_of_day text n e = sym (eqb-true _ _ (and_parts _ _ (day_of-Some text n e).0).0)

pub ten_bytes : (text : List ℕ) (n : ℕ) → day_of text ≡ Some n → text ≡ table 10 (λ k. get_or text k 0)
ten_bytes text n e = list_is_table 10 text (length_of_day text n e)

-- a day's text with a time of day after it spells the moment
pub moment_of-day_text : (text : List ℕ) (hour minute second n : ℕ) → day_of text ≡ Some n → hour < 24 → minute < 60 → second < 60 → moment_of (with_time (get_or text 0 0) (get_or text 1 0) (get_or text 2 0) (get_or text 3 0) (get_or text 4 0) (get_or text 5 0) (get_or text 6 0) (get_or text 7 0) (get_or text 8 0) (get_or text 9 0) (time_bytes hour minute second)) ≡ Some (86400 * n + (3600 * hour + 60 * minute + second))
moment_of-day_text text hour minute second n e k l m =
    let at : ℕ → ℕ = λ place. get_or text place 0 in
    let same : day_of (table 10 (λ place. get_or text place 0)) ≡ Some n = ap day_of (sym (ten_bytes text n e)) ∙ e in
    moment_of-bytes (at 0) (at 1) (at 2) (at 3) (at 4) (at 5) (at 6) (at 7) (at 8) (at 9) hour minute second n same k l m
