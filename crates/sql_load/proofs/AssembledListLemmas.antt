-- The lists of an office that rows are, and rows that are none.
use Rattle.std.proofs.Common.{◌≡◌, ℕ, suc, ◌==◌, Bool, true, false, ◌&&◌, ◌||◌, if◌then◌else◌, nat_eq, ◌<◌, IsTrue, map, List, [], ◌∷◌, length, take, Option, Some, None, inl, inr, refl, sym, ap, subst, ◌∙◌, true≢false, arith}
use Rattle.std.specs.Prelude.{◌↔◌, Contains, IsPermutation, Result, Ok, Err, nat_le, nat_lt}
use Rattle.desk_words.specs.declared.list_types.ListFault.{ListFault}
use Rattle.desk_words.specs.declared.list_types.ListFault.TheVariants.{Limit, Memory}
use Rattle.std.specs.Cmp.{first_so, second_so}
use Rattle.std.specs.Cmp.Derive.{both_true}
use Rattle.std.specs.Cmp.Lexicographic.{nat_list_cmp_total, options_total}
use Rattle.std.specs.List.{list_all}
use Rattle.std.proofs.lemmas.Bool.{cases_Bool}
use Rattle.std.proofs.lemmas.Bool.Decides.{nat_tests}
use Rattle.std.proofs.lemmas.Cmp.{nat_cmp_total}
use Rattle.std.proofs.lemmas.List.{length-map}
use Rattle.std.proofs.lemmas.List.Sorted.{length_permutation, IsPermutation-sym}
use Rattle.std.proofs.lemmas.Map.Made.{distinct_count-le}
use Rattle.seq.specs.Ordered.{ascends_by, differ_by}
use Rattle.seq.specs.Sorting.{insert_by, sort_by}
use Rattle.seq.proofs.Ascending.{differ_by_key-IsPermutation, differs-from_ascends_by, same_list-from_Contains}
use Rattle.seq.proofs.SortingLemmas.{IsPermutation-sort_by}
use Rattle.desk_words.specs.Callers.{party_in}
use Rattle.desk_words.specs.declared.caller.KeyRow.{KeyRow}
use Rattle.desk_words.specs.declared.office.MeetingLists.{MeetingLists}
use Rattle.desk_words.specs.declared.records.RegisterRow.{RegisterRow}
use Rattle.desk_words.specs.declared.records.Resolution.{Resolution}
use Rattle.desk_words.specs.declared.records.Session.{Session}
use Rattle.desk_words.specs.SortedLists.{are_keys, are_resolutions, caller_before, day_before, day_count, is_day_list, is_key_list, keep_keys, key_list_of, same_caller, same_secret}
use Rattle.desk_words.specs.Office.{implies, is_loaded_right, is_meeting, is_poll, no_rows, poll_before, are_rows}
use Rattle.desk_words.specs.Registers.{are_holdings, is_register, keep_limits, member_before, register_of, same_member}
use Rattle.desk_words.specs.Sessions.{is_opened}
use Rattle.desk_words.proofs.OfficeFacts.{meeting_facts}
use Rattle.desk_words.proofs.RegisterLimits.{keep_limits-permutation}
use Rattle.vocabulary.specs.OptionSteps.{◌>>=◌, guard}
use Rattle.sql_rows.specs.declared.stored_records.Numbered.{Numbered}
use Rattle.sql_model.specs.OfficeRecords.{number_before, numbered_from}
use Rattle.std.proofs.lemmas.Bool.{and_parts}
use Rattle.sql_load.specs.declared.fault.LoadError.{LoadError}
use Rattle.sql_load.specs.declared.fault.LoadError.TheVariants as fault
use Rattle.sql_load.specs.declared.fault.LoadError.TheVariants.{NoOffice}
use Rattle.sql_load.specs.LoadResults.{ReadErrAgrees, ReadAgrees}
use Rattle.sql_load.specs.OwnLists.{are_few, at_most, unnumbered, number_from, numbered_own}

pub second_false : (a b : Bool) → b ≡ false → (a && b) ≡ false
second_false true b h = h
second_false false b h = refl

none_so : {X : Type 0} (b : Bool) (x : X) → ◌≡◌ {A = Option X} (if b then Some x else None) None → b ≡ false
none_so true x h = absurd cc
none_so false x h = refl

-- ---- keys

keep_keys-permutation : (xs ys : List KeyRow) → IsPermutation xs ys → keep_keys xs ≡ true → keep_keys ys ≡ true
keep_keys-permutation xs ys moved h =
    both_true (ap (λ n. nat_le n 40000) (length_permutation xs ys moved) ∙ first_so (nat_le (length xs) 40000) (differ_by same_secret xs) h)
    (differ_by_key-IsPermutation nat_list_cmp_total (λ (row : KeyRow). row.secret) xs ys moved ∙ second_so (nat_le (length xs) 40000) (differ_by same_secret xs) h)

pub keys_refused : (rows : List KeyRow) → key_list_of rows ≡ None → is_key_list (sort_by caller_before rows) ≡ false
keys_refused rows none =
    let sorted = sort_by caller_before rows in
    let moved = IsPermutation-sort_by caller_before rows in
    elim (cases_Bool (is_key_list sorted)) [
      | inl is ↦
          let preserved = keep_keys-permutation sorted rows (IsPermutation-sym rows sorted moved) (first_so (keep_keys sorted) (ascends_by caller_before sorted) is) in
          let up = second_so (keep_keys sorted) (ascends_by caller_before sorted) is in
          let total = options_total nat_list_cmp_total in
          let callers : differ_by same_caller rows ≡ true =
          sym (differ_by_key-IsPermutation total (λ (row : KeyRow). party_in row.caller) rows sorted moved) ∙ differs-from_ascends_by total (λ (row : KeyRow). party_in row.caller) sorted up in
          absurd (true≢false (sym (both_true preserved callers) ∙ none_so (are_keys rows) sorted none))
      | inr other ↦ other
    ]

-- ---- registers

sorted_some : (x : RegisterRow) (xs : List RegisterRow) → no_rows (insert_by member_before x xs) ≡ false
sorted_some x [] = refl
sorted_some x (y ∷ ys) = go (member_before x y)
  where
    go : (b : Bool) → no_rows (if b then x ∷ y ∷ ys else y ∷ insert_by member_before x ys) ≡ false
    go true = refl
    go false = refl

some_rows : (rows : List RegisterRow) → (length rows == 0) ≡ false → no_rows (sort_by member_before rows) ≡ false
some_rows [] h = absurd (true≢false h)
some_rows (x ∷ xs) h = sorted_some x (sort_by member_before xs)

pub register_refused : (rows : List RegisterRow) → (length rows == 0) ≡ false → register_of rows ≡ None → are_rows (sort_by member_before rows) ≡ false
register_refused rows some none =
    let sorted = sort_by member_before rows in
    let moved = IsPermutation-sort_by member_before rows in
    let no_register : is_register sorted ≡ false =
    elim (cases_Bool (is_register sorted)) [
      | inl is ↦
          let preserved = keep_limits-permutation sorted rows (IsPermutation-sym rows sorted moved) (first_so (keep_limits sorted) (ascends_by member_before sorted) is) in
          let up = second_so (keep_limits sorted) (ascends_by member_before sorted) is in
          let members : differ_by same_member rows ≡ true =
          sym (differ_by_key-IsPermutation nat_list_cmp_total (λ (row : RegisterRow). row.member) rows sorted moved) ∙ differs-from_ascends_by nat_list_cmp_total (λ (row : RegisterRow). row.member) sorted up in
          absurd (true≢false (sym (both_true preserved members) ∙ none_so (are_holdings rows) sorted none))
      | inr other ↦ other
    ] in
    ap (λ b. b || is_register sorted) (some_rows rows some) ∙ no_register

-- ---- numbered things

numbered_is : {A : Type 0} (n : ℕ) (rows : List (Numbered A)) → numbered_from n rows ≡ (if number_from n rows then Some (map unnumbered rows) else None)
numbered_is n [] = refl
numbered_is {A} n (r ∷ rest) = go (r.number == n) (number_from (suc n) rest) (numbered_from (suc n) rest) (numbered_is (suc n) rest)
  where
    go : (b c : Bool) (o : Option (List A)) → o ≡ (if c then Some (map unnumbered rest) else None)
        → (guard b >>= λ _. o >>= λ later. Some (r.item ∷ later)) ≡ (if b && c then Some (map unnumbered (r ∷ rest)) else None)
    go true true o e = rw e refl
    go true false o e = rw e refl
    go false c o e = refl

less_next : (a b n : ℕ) → (a == n) ≡ true → (b == suc n) ≡ true → nat_lt a b ≡ true
less_next a b n h k = grind (arith, nat_tests)

ascending : {A : Type 0} (n : ℕ) (rows : List (Numbered A)) → number_from n rows ≡ true → ascends_by number_before rows ≡ true
ascending n [] h = refl
ascending n (r ∷ []) h = refl
ascending n (r ∷ s ∷ rest) h =
    let first = and_parts (r.number == n) (number_from (suc n) (s ∷ rest)) h in
    let next = and_parts (s.number == suc n) (number_from (suc (suc n)) rest) first.1 in
    both_true (less_next r.number s.number n first.0 next.0) (ascending (suc n) (s ∷ rest) first.1)

some_so : {X : Type 0} (b : Bool) (x y : X) → ◌≡◌ {A = Option X} (if b then Some x else None) (Some y) → (b ≡ true) × (y ≡ x)
some_so true x y h = let same : x ≡ y = cc in (refl, sym same)
some_so false x y h = absurd cc

module _ {A : Type 0} (n : ℕ) (rows : List (Numbered A)) where
  -- what is found of rows in order
  found_so : (found : List A) → numbered_own n rows ≡ Some found → (number_from n (sort_by number_before rows) ≡ true) × (found ≡ map unnumbered (sort_by number_before rows))
  found_so found h = some_so (number_from n (sort_by number_before rows)) (map unnumbered (sort_by number_before rows)) found (sym (numbered_is n (sort_by number_before rows)) ∙ h)

  -- where a number stands twice, they do not go on from a number
  pub numbers_refused : (right : List A → Bool) → ascends_by number_before (sort_by number_before rows) ≡ false → (found : List A) → numbered_own n rows ≡ Some found → right found ≡ false
  numbers_refused right falls found h = absurd (true≢false (sym (ascending n (sort_by number_before rows) (found_so found h).0) ∙ falls))

  module _ (sorted : List (Numbered A)) (is : sorted ≡ sort_by number_before rows) where
    pub wrong_numbers : (right : List A → Bool) → number_from n sorted ≡ false → (found : List A) → numbered_own n rows ≡ Some found → right found ≡ false
    wrong_numbers right wrong found h = absurd (true≢false (sym (found_so found h).0 ∙ ap (number_from n) (sym is) ∙ wrong))

    pub too_many : (most : ℕ) → nat_le (length sorted) most ≡ false → (found : List A) → numbered_own n rows ≡ Some found → at_most most found ≡ false
    too_many most many found h =
        let count : length found ≡ length sorted = ap length (found_so found h).1 ∙ length-map (sort_by number_before rows) unnumbered ∙ ap length (sym is) in
        ap (λ k. nat_le k most) count ∙ many

    pub list_made : (made : List A) → number_from n sorted ≡ true → made ≡ map unnumbered sorted → numbered_own n rows ≡ Some made
    list_made made numbered same =
        ap (numbered_from n) (sym is) ∙ numbered_is n sorted ∙ ap (λ b. if b then Some (map unnumbered sorted) else None) numbered ∙ ap (λ l. Some l) (sym same)

-- further sessions are too many where they are more than those but the first
pub not_few : (later : List Session) → at_most 9 later ≡ false → are_few later ≡ false
not_few later many = grind (arith, nat_tests, many)

pub not_resolutions : (found : List Resolution) → at_most 50 found ≡ false → are_resolutions found ≡ false
not_resolutions found many = second_false (nat_le 1 (length found)) (nat_le (length found) 50) many

-- ---- days

pub days_refused : (days : List ℕ) → 2000 < day_count days → is_day_list days ≡ false
days_refused days many =
    let le = distinct_count-le nat_eq days in
    let wrong : nat_le (length days) 2000 ≡ false = grind (arith, nat_tests, le) in
    ap (λ b. b && ascends_by day_before days) wrong

pub days_made : (list days : List ℕ) → IsTrue (is_day_list list) → ascends_by day_before days ≡ true → ((day : ℕ) → Contains list day ↔ Contains days day) → list ≡ days
days_made list days preserved up same =
    same_list-from_Contains nat_cmp_total (λ (day : ℕ). day) list days (second_so (nat_le (length list) 2000) (ascends_by day_before list) preserved) up (λ z. (same z).0) (λ z. (same z).1)

-- ---- the lists of a meeting

loaded_rows : (m : MeetingLists) → is_loaded_right m ≡ true → are_rows m.register ≡ true
loaded_rows m right = go m.meeting.loaded (no_rows m.register) (is_register m.register) right
  where
    go : (loaded none_there register : Bool) → ((if loaded then register else none_there) && implies (is_opened m.meeting.first) m.meeting.loaded) ≡ true → (none_there || register) ≡ true
    go loaded true register h = refl
    go loaded false true h = refl
    go true false false h = absurd (true≢false (sym h))
    go false false false h = absurd (true≢false (sym h))

-- a meeting's lists have few enough sessions, resolutions and a register
pub called_right : (m : MeetingLists) → is_meeting m ≡ true → (are_few m.meeting.later && are_resolutions m.meeting.resolutions && are_rows m.register) ≡ true
called_right m good =
    let facts = meeting_facts m good in
    both_true (both_true (first_so (are_few m.meeting.later) (list_all is_opened (take (length m.meeting.later) (m.meeting.first ∷ m.meeting.later))) facts.sessions) facts.resolutions) (loaded_rows m facts.loaded)

-- and no two polls on one resolution
pub polls_right : (m : MeetingLists) → is_meeting m ≡ true → ascends_by poll_before m.polls ≡ true
polls_right m good = second_so (list_all (is_poll m.meeting) m.polls) (ascends_by poll_before m.polls) (meeting_facts m good).polls

pub wrong_meeting : (m : MeetingLists) → (is_meeting m ≡ true → ⊥) → is_meeting m ≡ false
wrong_meeting m none = elim (cases_Bool (is_meeting m)) [ inl good ↦ absurd (none good) | inr wrong ↦ wrong ]

-- ---- what a list is refused for

pub limit_so : {X : Type 0} {P : Type 0} (e : ListFault) → (◌≡◌ {A = Result X ListFault} (Err e) (Err Limit) ↔ P) → (◌≡◌ {A = Result X ListFault} (Err e) (Err Memory) → ⊥) → P
limit_so Limit h other = h.0 refl
limit_so Memory h other = absurd (other refl)

pub wrong_for : {X : Type 0} (right : X → Bool) (y x : X) → Some y ≡ Some x → right y ≡ false → right x ≡ false
wrong_for right y x h wrong = let same : y ≡ x = cc in subst (λ z. right z ≡ false) same wrong

-- where a part is refused for a cause, the whole is
pub cause_by : {X Y : Type 0} (part : X → Bool) (whole : Y → Bool) (e : LoadError) (a : Option X) (b : Option Y)
    → (((x : X) → a ≡ Some x → part x ≡ false) → (y : Y) → b ≡ Some y → whole y ≡ false) → ReadErrAgrees part e a → ReadErrAgrees whole e b
cause_by part whole NoOffice a b leads h = leads h
cause_by part whole fault.Store a b leads h = tt
cause_by part whole fault.Memory a b leads h = tt

-- the same of a result, where what is not right for the part is not for the whole
pub yields_by : {X : Type 0} (part whole : X → Bool) (r : Result X LoadError) (said : Option X) → ((x : X) → part x ≡ false → whole x ≡ false) → ReadAgrees part r said → ReadAgrees whole r said
yields_by part whole (Ok x) said leads h = h
yields_by part whole (Err e) said leads h = cause_by part whole e said said (λ wrong x is. leads x (wrong x is)) h
