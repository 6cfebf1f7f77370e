-- The lists of a meeting, tested one after another.
use Rattle.std.proofs.Common.{◌≡◌, ℕ, zero, suc, ◌+◌, ◌<◌, ◌≤◌, arith, Bool, true, false, ◌&&◌, cond, List, [], ◌∷◌, length, get_or, take, set, map, refl, ap, sym, ◌∙◌}
use Rattle.std.specs.Prelude.{Some, None}
use Rattle.std.specs.List.{list_all}
use Rattle.std.proofs.lemmas.List.{take_all}
use Rattle.std.proofs.lemmas.List.Folds.{list_all-map, list_all_at, list_all_more}
use Rattle.std.specs.Cmp.Derive.{both_true}
use Rattle.desk_words.specs.Sessions.{is_opened}
use Rattle.desk_words.specs.Office.{implies, is_loaded_right, is_meeting, no_rows}
use Rattle.desk_words.specs.Registers.{is_register}
use Rattle.desk_words.specs.declared.office.MeetingLists.{MeetingLists}
use Rattle.desk_words.specs.declared.records.RegisterRow.{RegisterRow}
use Rattle.office_validation.specs.Validation.{in_order, rows_checked}

-- what is given under a condition
pub given-some : {X : Type 0} (b : Bool) (x y : X) → cond b (Some x) None ≡ Some y → (b ≡ true) × (x ≡ y)
given-some true x y h = (refl, cc)
given-some false x y h = absurd (cc)

pub given-none : {X : Type 0} (b : Bool) (x : X) → cond b (Some x) None ≡ None → b ≡ false
given-none true x h = absurd (cc)
given-none false x h = refl

and_false : (a : Bool) → (a && false) ≡ false
and_false true = refl
and_false false = refl

-- a meeting that is opened without a register is not loaded as it should be
pub loaded-opened : (m : MeetingLists) → implies (is_opened m.meeting.first) m.meeting.loaded ≡ false → is_loaded_right (in_order m) ≡ false
loaded-opened m early =
    let rows = cond m.meeting.loaded (is_register (in_order m).register) (no_rows (in_order m).register) in ap (λ b. rows && b) early ∙ and_false rows

pub loaded-none : (m : MeetingLists) → rows_checked m.meeting.loaded m.register ≡ None → is_loaded_right (in_order m) ≡ false
loaded-none m none =
    ap (λ b. b && implies (is_opened m.meeting.first) m.meeting.loaded)
    (given-none (cond m.meeting.loaded (is_register (in_order m).register) (no_rows (in_order m).register)) (in_order m).register none)

-- rows that are loaded as they should be, and stand in order
pub loaded-some : (m : MeetingLists) (rows : List RegisterRow) → implies (is_opened m.meeting.first) m.meeting.loaded ≡ true → rows_checked m.meeting.loaded m.register ≡ Some rows
    → (is_loaded_right (in_order m) ≡ true) × (record m { register = rows } ≡ in_order m)
loaded-some m rows right some =
    let both = given-some (cond m.meeting.loaded (is_register (in_order m).register) (no_rows (in_order m).register)) (in_order m).register rows some in
    (both_true both.0 right, ap (λ r. record m { register = r }) (sym both.1))

-- each of the lists is that of a meeting, once its register is in order
abbrev pub are_each : List MeetingLists → Bool
are_each ms = list_all (λ m. is_meeting (in_order m)) ms

-- the lists, the first so many of them in order
abbrev pub ordered_first : ℕ → List MeetingLists → List MeetingLists
ordered_first zero ms = ms
ordered_first (suc i) [] = []
ordered_first (suc i) (m ∷ ms) = in_order m ∷ ordered_first i ms

-- the next stand as they were
pub ordered-next : (i : ℕ) (ms : List MeetingLists) (d : MeetingLists) → get_or (ordered_first i ms) i d ≡ get_or ms i d
ordered-next zero ms d = refl
ordered-next (suc i) [] d = refl
ordered-next (suc i) (m ∷ ms) d = ordered-next i ms d

ordered-set : (i : ℕ) (ms : List MeetingLists) (d : MeetingLists) → i < length ms → set (ordered_first i ms) i (in_order (get_or ms i d)) ≡ ordered_first (suc i) ms
ordered-set zero [] d h = absurd (omega arith)
ordered-set zero (m ∷ ms) d h = refl
ordered-set (suc i) [] d h = absurd (omega arith)
ordered-set (suc i) (m ∷ ms) d h = ap (λ l. in_order m ∷ l) (ordered-set i ms d (omega arith))

pub ordered-all : (i : ℕ) (ms : List MeetingLists) → length ms ≤ i → ordered_first i ms ≡ map in_order ms
ordered-all zero [] h = refl
ordered-all zero (m ∷ ms) h = absurd (omega arith)
ordered-all (suc i) [] h = refl
ordered-all (suc i) (m ∷ ms) h = ap (λ l. in_order m ∷ l) (ordered-all i ms (omega arith))

-- the next of them is put in order
pub ordered-step : (init now : List MeetingLists) (i : ℕ) (m n : MeetingLists) → now ≡ ordered_first i init → i < length init → m ≡ get_or now i m → n ≡ in_order m → are_each (take i init) ≡ true → is_meeting (in_order m) ≡ true
    → (set now i n ≡ ordered_first (i + 1) init) × (are_each (take (i + 1) init) ≡ true)
ordered-step init now i m n is within there made each right =
    let next : m ≡ get_or init i m = there ∙ ap (λ l. get_or l i m) is ∙ ordered-next i init m in
    let one : suc i ≡ i + 1 = omega arith in (
      ap (λ l. set l i n) is ∙ ap (set (ordered_first i init) i) (made ∙ ap in_order next) ∙ ordered-set i init m within ∙ ap (λ k. ordered_first k init) one,
      list_all_more (λ x. is_meeting (in_order x)) init i m within ∙ both_true each (ap (λ x. is_meeting (in_order x)) (sym next) ∙ right),
    )

-- and where it is no meeting's, not each are
pub ordered-wrong : (init now : List MeetingLists) (i : ℕ) (m : MeetingLists) → now ≡ ordered_first i init → i < length init → m ≡ get_or now i m → is_meeting (in_order m) ≡ false → list_all is_meeting (map in_order init) ≡ false
ordered-wrong init now i m is within there wrong =
    let next : m ≡ get_or init i m = there ∙ ap (λ l. get_or l i m) is ∙ ordered-next i init m in
    list_all-map is_meeting in_order init ∙ list_all_at (λ x. is_meeting (in_order x)) init i m within (ap (λ x. is_meeting (in_order x)) (sym next) ∙ wrong)

pub ordered-end : (init now : List MeetingLists) (i : ℕ) → now ≡ ordered_first i init → length init ≤ i → are_each (take i init) ≡ true → (now ≡ map in_order init) × (list_all is_meeting (map in_order init) ≡ true)
ordered-end init now i is end each =
    (is ∙ ordered-all i init end, list_all-map is_meeting in_order init ∙ ap are_each (sym (take_all i init end)) ∙ each)
