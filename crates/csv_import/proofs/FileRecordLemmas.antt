-- The records that were reached, one after the other, are those of the text.
use Rattle.std.proofs.Common.{◌≡◌, ◌<◌, ◌≤◌, ◌+◌, ◌-◌, ℕ, zero, suc, Bool, true, false, cond, List, [], ◌∷◌, ◌++◌, length, Option, Some, None, refl, sym, ap, subst, ◌∙◌, arith, append-nil}
use Rattle.std.specs.Option.{unwrap_or}
use Rattle.std.specs.Prelude.{◌==◌, ◌&&◌}
use Rattle.std.proofs.lemmas.Bool.{false≢true}
use Rattle.csv.specs.Machine.{Read, next_record, step, in_field, start_field, start_record, after_end, ends_with, ends_at_end, is_end, is_byte, fields_after, field_after}
use Rattle.csv.specs.Reading.{ReadRecord, Reached, records, records_from, records_next, source_of}
use Rattle.csv.specs.declared.parser.Action.{Action}
use Rattle.csv.specs.declared.parser.Action.TheVariants as act
use Rattle.csv.specs.declared.parser.Config.{Config}
use Rattle.csv.specs.declared.parser.State.{State}
use Rattle.csv.specs.declared.parser.State.TheVariants as st
use Rattle.csv.specs.declared.parser.Terminator.{Terminator}
use Rattle.csv.specs.declared.parser.Terminator.TheVariants as term
use Rattle.csv.specs.declared.reader.Reader.{Reader}
use Rattle.csv.proofs.ReadFacts.{rows-more}

-- ---- after a record the end of the text ends no further one

abbrev Quiet : State × Action → Type 0
Quiet p = is_end p.1 ≡ true → ends_at_end p.0 ≡ false

quiet-cond : (b : Bool) (p q : State × Action) → Quiet p → Quiet q → Quiet (cond b p q)
quiet-cond true p q h k = h
quiet-cond false p q h k = k

goes-on : (s : State) (a : Action) → is_end a ≡ false → Quiet (s, a)
goes-on s a going h = absurd (false≢true (sym going ∙ h))

state-cond : (b : Bool) → ends_at_end (cond b st.AfterCr st.StartRecord) ≡ false
state-cond true = refl
state-cond false = refl

after_end-quiet : (t : Terminator) (c : ℕ) → ends_at_end (after_end t c) ≡ false
after_end-quiet term.CRLF c = state-cond (c == 13)
after_end-quiet (term.Any t) c = refl

in_field-quiet : (cfg : Config) (c : ℕ) → Quiet (in_field cfg c)
in_field-quiet cfg c =
    quiet-cond (c == cfg.delimiter) (st.StartField, act.EndField) (cond (ends_with cfg.terminator c) (after_end cfg.terminator c, act.EndRecord) (st.InField, act.Copy))
    (goes-on st.StartField act.EndField refl)
    (quiet-cond (ends_with cfg.terminator c) (after_end cfg.terminator c, act.EndRecord) (st.InField, act.Copy)
    (λ h. after_end-quiet cfg.terminator c) (goes-on st.InField act.Copy refl))

start_field-quiet : (cfg : Config) (c : ℕ) → Quiet (start_field cfg c)
start_field-quiet cfg c = quiet-cond (cfg.quoting && (c == cfg.quote)) (st.InQuoted, act.Skip) (in_field cfg c) (goes-on st.InQuoted act.Skip refl) (in_field-quiet cfg c)

start_record-quiet : (cfg : Config) (c : ℕ) → Quiet (start_record cfg c)
start_record-quiet cfg c =
    quiet-cond (ends_with cfg.terminator c) (st.StartRecord, act.Skip) (cond (is_byte cfg.comment c) (st.InComment, act.Skip) (start_field cfg c))
    (goes-on st.StartRecord act.Skip refl)
    (quiet-cond (is_byte cfg.comment c) (st.InComment, act.Skip) (start_field cfg c) (goes-on st.InComment act.Skip refl) (start_field-quiet cfg c))

step-quiet : (cfg : Config) (s : State) (c : ℕ) → Quiet (step cfg s c)
step-quiet cfg st.StartRecord c = start_record-quiet cfg c
step-quiet cfg st.StartField c = start_field-quiet cfg c
step-quiet cfg st.InField c = in_field-quiet cfg c
step-quiet cfg st.InQuoted c =
    quiet-cond (cfg.quoting && (c == cfg.quote)) (st.AfterQuote, act.Skip) (cond (cfg.quoting && is_byte cfg.escape c) (st.InEscape, act.Skip) (st.InQuoted, act.Copy))
    (goes-on st.AfterQuote act.Skip refl)
    (quiet-cond (cfg.quoting && is_byte cfg.escape c) (st.InEscape, act.Skip) (st.InQuoted, act.Copy) (goes-on st.InEscape act.Skip refl) (goes-on st.InQuoted act.Copy refl))
step-quiet cfg st.InEscape c = goes-on st.InQuoted act.Copy refl
step-quiet cfg st.AfterQuote c =
    quiet-cond (cfg.quoting && cfg.double_quote && (c == cfg.quote)) (st.InQuoted, act.Copy) (in_field cfg c) (goes-on st.InQuoted act.Copy refl) (in_field-quiet cfg c)
step-quiet cfg st.InComment c =
    quiet-cond (c == 10) (st.StartRecord, act.Skip) (st.InComment, act.Skip) (goes-on st.StartRecord act.Skip refl) (goes-on st.InComment act.Skip refl)
step-quiet cfg st.AfterCr c = quiet-cond (c == 10) (st.StartRecord, act.Skip) (start_record cfg c) (goes-on st.StartRecord act.Skip refl) (start_record-quiet cfg c)

-- ---- each record takes a byte, or the end of the text

-- how many records the bytes that are left may still give
abbrev pub left_after : State → List ℕ → ℕ
left_after s xs = length xs + cond (ends_at_end s) 1 0

last-shorter : (b : Bool) (fields : List (List ℕ)) (p : Read) → cond b (Some (fields, st.StartRecord, [])) None ≡ Some p → left_after p.1 p.2 + 1 ≤ 0 + cond b 1 0
last-shorter true fields p h = let is : (fields, st.StartRecord, []) ≡ p = cc in let P : Read → Type 0 = λ q. left_after q.1 q.2 + 1 ≤ 0 + 1 in subst P is (omega arith)
last-shorter false fields p h = absurd (cc)

first-shorter : (b : Bool) (fields : List (List ℕ)) (s : State) (rest : List ℕ) (then : Option Read) (p : Read) (n : ℕ)
    → (b ≡ true → left_after s rest + 1 ≤ n) → (then ≡ Some p → left_after p.1 p.2 + 1 ≤ n)
    → cond b (Some (fields, s, rest)) then ≡ Some p → left_after p.1 p.2 + 1 ≤ n
first-shorter true fields s rest then p n now later h =
    let is : (fields, s, rest) ≡ p = cc in let P : Read → Type 0 = λ q. left_after q.1 q.2 + 1 ≤ n in subst P is (now refl)
first-shorter false fields s rest then p n now later h = later h

quiet-left : (s s' : State) (xs : List ℕ) → ends_at_end s' ≡ false → left_after s' xs + 1 ≤ suc (length xs) + cond (ends_at_end s) 1 0
quiet-left s s' xs quiet = rw quiet (omega arith)

at_most_one : (b : Bool) → cond b 1 0 ≤ 1
at_most_one true = omega arith
at_most_one false = omega arith

next-shorter : (cfg : Config) (s : State) (fields : List (List ℕ)) (field xs : List ℕ) (p : Read) → next_record cfg s fields field xs ≡ Some p → left_after p.1 p.2 + 1 ≤ left_after s xs
unfolding next_record
next-shorter cfg s fields field [] p h = last-shorter (ends_at_end s) (fields ++ (field ∷ [])) p h
next-shorter cfg s fields field (c ∷ rest) p h =
    let next = step cfg s c in
    first-shorter (is_end next.1) (fields_after next.1 fields field) next.0 rest _ p (left_after s (c ∷ rest))
    (λ ended. quiet-left s next.0 rest (step-quiet cfg s c ended))
    (λ later. let more : left_after p.1 p.2 + 1 ≤ left_after next.0 rest = next-shorter cfg next.0 (fields_after next.1 fields field) (field_after next.1 c field) rest p later in
    omega (arith, more, at_most_one (ends_at_end next.0)))
    h

-- as many records as were reached, and what the bytes that are left may still give, are no more than the bytes could give
reached-length : (cfg : Config) (s : State) (xs : List ℕ) (rs : List (List (List ℕ))) (s2 : State) (ys : List ℕ) → Reached cfg s xs rs s2 ys → length rs + left_after s2 ys ≤ left_after s xs
unfolding Reached
reached-length cfg s xs [] s2 ys h = rw (h.0, h.1) (omega arith)
reached-length cfg s xs (r ∷ rs) s2 ys h =
    let later = reached-length cfg h.0.1 h.0.2 rs s2 ys h.3 in
    let now = next-shorter cfg s [] [] xs h.0 h.1 in
    omega (arith, later, now)

fewer-known : (s s2 : State) (known known2 : Option (List ℕ)) (y z : List ℕ) → known ≡ Some y → known2 ≡ Some z → left_after s2 z < left_after s y
    → left_after s2 (unwrap_or known2 []) < left_after s (unwrap_or known [])
fewer-known s s2 known known2 y z is is2 h = rw (is, is2) h

-- where a reader has read a record, fewer may still come
pub fewer-left : {R : Type 0} (rem : R → Option (List ℕ)) (a b : Reader R) (fields : List (List ℕ)) (cfg : Config) (y : List ℕ) → a.config ≡ cfg → source_of rem a ≡ Some y → ReadRecord rem a b true fields
    → left_after b.state (unwrap_or (source_of rem b) []) < left_after a.state (unwrap_or (source_of rem a) [])
unfolding Reached
fewer-left rem a b fields cfg y config known read =
    let m = rows-more rem a b fields cfg a.state y y [] config known (refl, refl) read in
    let taken : 1 + left_after b.state m.0 ≤ left_after a.state y = reached-length cfg a.state y (fields ∷ []) b.state m.0 m.2 in
    fewer-known a.state b.state (source_of rem a) (source_of rem b) y m.0 known m.1 (omega (arith, taken))

-- ---- the records of the text

-- a number, and as many more as there are records
abbrev counted_on : List (List (List ℕ)) → ℕ → ℕ
counted_on [] n = n
counted_on (r ∷ rs) n = suc (counted_on rs n)

counted_on-is : (rs : List (List (List ℕ))) (n : ℕ) → counted_on rs n ≡ length rs + n
counted_on-is [] n = omega arith
counted_on-is (r ∷ rs) n = omega (arith, counted_on-is rs n)

records_from-reached : (cfg : Config) (s : State) (xs : List ℕ) (rs : List (List (List ℕ))) (s2 : State) (ys : List ℕ) (n : ℕ) → Reached cfg s xs rs s2 ys
    → records_from cfg (counted_on rs n) s xs ≡ rs ++ records_from cfg n s2 ys
unfolding Reached records_from
records_from-reached cfg s xs [] s2 ys n h = rw (h.0, h.1)
records_from-reached cfg s xs (r ∷ rs) s2 ys n h =
    ap (records_next (records_from cfg (counted_on rs n))) h.1
    ∙ ap (λ first. first ∷ records_from cfg (counted_on rs n) h.0.1 h.0.2) (sym h.2)
    ∙ ap (λ rest. r ∷ rest) (records_from-reached cfg h.0.1 h.0.2 rs s2 ys n h.3)

-- the records that were reached are the first of the text
pub records-begin : (cfg : Config) (xs : List ℕ) (rs : List (List (List ℕ))) (s2 : State) (ys : List ℕ) → Reached cfg st.StartRecord xs rs s2 ys
    → records cfg xs ≡ rs ++ records_from cfg (length xs + 1 - length rs) s2 ys
records-begin cfg xs rs s2 ys h =
    let few : length rs + left_after s2 ys ≤ length xs + 0 = reached-length cfg st.StartRecord xs rs s2 ys h in
    let count : length xs + 1 ≡ counted_on rs (length xs + 1 - length rs) = omega (arith, few, counted_on-is rs (length xs + 1 - length rs)) in
    ap (λ n. records_from cfg n st.StartRecord xs) count ∙ records_from-reached cfg st.StartRecord xs rs s2 ys (length xs + 1 - length rs) h

records_from-none : (cfg : Config) (n : ℕ) (s : State) (xs : List ℕ) → next_record cfg s [] [] xs ≡ None → records_from cfg n s xs ≡ []
unfolding records_from
records_from-none cfg zero s xs h = refl
records_from-none cfg (suc n) s xs h = ap (records_next (records_from cfg n)) h

-- where no further one is found, they are all the records of the text
pub records-are : (cfg : Config) (xs : List ℕ) (rs : List (List (List ℕ))) (s2 : State) (ys : List ℕ) → Reached cfg st.StartRecord xs rs s2 ys → next_record cfg s2 [] [] ys ≡ None
    → records cfg xs ≡ rs
records-are cfg xs rs s2 ys h ends =
    records-begin cfg xs rs s2 ys h ∙ ap (λ rest. rs ++ rest) (records_from-none cfg (length xs + 1 - length rs) s2 ys ends) ∙ append-nil rs
