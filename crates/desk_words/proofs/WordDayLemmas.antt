-- The list of days is the one list in order that has the same days.
use Rattle.std.proofs.Common.{◌≡◌, ℕ, ◌≤◌, Bool, true, false, not, ◌||◌, cond, List, [], ◌∷◌, Some, refl, sym, ap, ◌∙◌}
use Rattle.std.specs.Prelude.{Contains, ◌↔◌, nat_eq}
use Rattle.std.specs.Set.{is_member, unique_keys}
use Rattle.std.proofs.lemmas.Bool.{and_from, and_parts, le-leb}
use Rattle.std.proofs.lemmas.Bool.Decides.{Decides-eqb}
use Rattle.std.proofs.lemmas.Cmp.{nat_cmp_total}
use Rattle.std.proofs.lemmas.List.Sorted.{Contains-permutation, IsPermutation-sym}
use Rattle.std.proofs.lemmas.Map.Made.{is_member-Decides}
use Rattle.seq.specs.Ordered.{ascends_by, differ_by}
use Rattle.seq.proofs.Ascending.{same_list-from_Contains}
use Rattle.seq.proofs.Numbers.{differ_by-numbers}
use Rattle.seq.proofs.SortingLemmas.{IsPermutation-sort_by, ascends-sort_by}
use Rattle.desk_words.specs.SortedLists.{day_before, day_count, day_list_of, each_once, is_day_list}
use Rattle.desk_words.specs.ViewTypes.{Day}
use Rattle.desk_words.specs.declared.limits.TheConstants.{MOST_CLOSED_DAYS}

-- ---- the different days

is_member-unique_keys : (xs : List ℕ) (q : ℕ) → is_member nat_eq (unique_keys nat_eq xs) q ≡ is_member nat_eq xs q
is_member-unique_keys [] q = refl
is_member-unique_keys (x ∷ xs) q = by (is_member nat_eq xs x) (nat_eq q x) refl refl (is_member-unique_keys xs q)
  where
    by : (b c : Bool) → is_member nat_eq xs x ≡ b → nat_eq q x ≡ c → is_member nat_eq (unique_keys nat_eq xs) q ≡ is_member nat_eq xs q
        → is_member nat_eq (cond b (unique_keys nat_eq xs) (x ∷ unique_keys nat_eq xs)) q ≡ (c || is_member nat_eq xs q)
    by true true m t r = r ∙ ap (is_member nat_eq xs) ((Decides-eqb q x).0 t) ∙ m
    by true false m t r = r
    by false c m t r = rw t (ap (λ v. c || v) r)

differ_by-unique_keys : (xs : List ℕ) → differ_by nat_eq (unique_keys nat_eq xs) ≡ true
differ_by-unique_keys [] = refl
differ_by-unique_keys (x ∷ xs) = by (is_member nat_eq xs x) refl (differ_by-unique_keys xs)
  where
    by : (b : Bool) → is_member nat_eq xs x ≡ b → differ_by nat_eq (unique_keys nat_eq xs) ≡ true → differ_by nat_eq (cond b (unique_keys nat_eq xs) (x ∷ unique_keys nat_eq xs)) ≡ true
    by true m r = r
    by false m r = and_from _ _ (ap not (is_member-unique_keys xs x ∙ m)) r

member_decides : (xs : List ℕ) (x : ℕ) → (is_member nat_eq xs x ≡ true) ↔ Contains xs x
member_decides xs x = is_member-Decides Decides-eqb xs x

-- ---- each once and in order

ascends-each_once : (days : List Day) → ascends_by day_before (each_once days) ≡ true
unfolding each_once
ascends-each_once days =
    ascends-sort_by nat_cmp_total (λ (day : Day). day) (unique_keys nat_eq days)
    (differ_by-numbers (λ (day : Day). day) (unique_keys nat_eq days) ∙ differ_by-unique_keys days)

Contains-each_once : (days : List Day) (day : Day) → Contains (each_once days) day ↔ Contains days day
unfolding each_once
Contains-each_once days day =
    let moved = IsPermutation-sort_by day_before (unique_keys nat_eq days) in (
      λ has. (member_decides days day).0 (sym (is_member-unique_keys days day) ∙ (member_decides (unique_keys nat_eq days) day).1 (Contains-permutation _ _ day (IsPermutation-sym _ _ moved) has)),
      λ has. Contains-permutation _ _ day moved ((member_decides (unique_keys nat_eq days) day).0 (is_member-unique_keys days day ∙ (member_decides days day).1 has)),
    )

-- a list in order that has the same days is the list of the days
pub each_once-is : (days listed : List Day) → ascends_by day_before listed ≡ true → ((day : Day) → Contains listed day ↔ Contains days day) → each_once days ≡ listed
each_once-is days listed up same =
    same_list-from_Contains nat_cmp_total (λ (day : Day). day) (each_once days) listed (ascends-each_once days) up
    (λ day has. (same day).1 ((Contains-each_once days day).0 has))
    (λ day has. (Contains-each_once days day).1 ((same day).0 has))

-- so it is, if there are at most `MOST_CLOSED_DAYS` different ones
pub day_list_of-is : (days listed : List Day) → is_day_list listed ≡ true → ((day : Day) → Contains listed day ↔ Contains days day) → day_count days ≤ MOST_CLOSED_DAYS → day_list_of days ≡ Some listed
day_list_of-is days listed is same few =
    rw (le-leb (day_count days) MOST_CLOSED_DAYS few) (ap (λ l. Some l) (each_once-is days listed (and_parts _ _ is).1 same))
