-- What the order of keys tells of them.
use Rattle.std.proofs.Common.{◌≡◌, true, false, ◌&&◌, cond, List, length, ap, sym, ◌∙◌}
use Rattle.std.specs.Prelude.{IsPermutation, nat_le, Some, None}
use Rattle.std.specs.Cmp.{first_so, second_so}
use Rattle.std.specs.Cmp.Derive.{both_true}
use Rattle.std.specs.Cmp.Lexicographic.{nat_list_cmp_total, options_total}
use Rattle.std.proofs.lemmas.List.Sorted.{length_permutation}
use Rattle.seq.specs.Ordered.{ascends_by, differ_by}
use Rattle.seq.specs.Sorting.{sort_by}
use Rattle.seq.proofs.Ascending.{differ_by_key-IsPermutation, differs-from_ascends_by}
use Rattle.seq.proofs.SortingLemmas.{sort_by-ascending}
use Rattle.desk_words.specs.Callers.{party_in}
use Rattle.desk_words.specs.declared.limits.TheConstants.{MOST_KEYS}
use Rattle.desk_words.specs.declared.caller.KeyRow.{KeyRow}
use Rattle.desk_words.specs.SortedLists.{keep_keys, same_secret, same_caller, caller_before, are_keys, is_key_list, key_list_of}

-- the limits of keys do not depend on their order
keep_keys-permutation : (xs ys : List KeyRow) → IsPermutation xs ys → keep_keys xs ≡ true → keep_keys ys ≡ true
keep_keys-permutation xs ys moved h =
    both_true (ap (λ n. nat_le n MOST_KEYS) (length_permutation xs ys moved) ∙ first_so (nat_le (length xs) MOST_KEYS) (differ_by same_secret xs) h)
    (differ_by_key-IsPermutation nat_list_cmp_total (λ (row : KeyRow). row.secret) xs ys moved ∙ second_so (nat_le (length xs) MOST_KEYS) (differ_by same_secret xs) h)

-- whether each key is of another caller does not depend on the order
callers-permutation : (xs ys : List KeyRow) → IsPermutation xs ys → differ_by same_caller ys ≡ differ_by same_caller xs
callers-permutation = differ_by_key-IsPermutation (options_total nat_list_cmp_total) (λ (row : KeyRow). party_in row.caller)

-- keys that are kept are a key list once they stand in the order of callers
pub is_key_list-sorted : (rows sorted : List KeyRow) → IsPermutation rows sorted → keep_keys rows ≡ true → ascends_by caller_before sorted ≡ true → is_key_list sorted ≡ true
is_key_list-sorted rows sorted moved preserved up = both_true (keep_keys-permutation rows sorted moved preserved) up

-- and they are the list of these keys
pub key_list_of-sorted : (rows sorted : List KeyRow) → IsPermutation rows sorted → keep_keys rows ≡ true → ascends_by caller_before sorted ≡ true → key_list_of rows ≡ Some sorted
key_list_of-sorted rows sorted moved preserved up =
    let callers : differ_by same_caller rows ≡ true =
    sym (callers-permutation rows sorted moved) ∙ differs-from_ascends_by (options_total nat_list_cmp_total) (λ (row : KeyRow). party_in row.caller) sorted up in
    let keys : are_keys rows ≡ true = both_true preserved callers in
    ap (λ b. cond b (Some (sort_by caller_before rows)) None) keys
    ∙ ap (λ r. Some r) (sym (sort_by-ascending (options_total nat_list_cmp_total) (λ (row : KeyRow). party_in row.caller) rows sorted moved up))

-- where the order shows that a caller stands twice, there is no list of these keys
pub key_list_of-repeated : (rows moved sorted : List KeyRow) → IsPermutation rows moved → keep_keys rows ≡ true → ascends_by caller_before sorted ≡ differ_by same_caller moved → ascends_by caller_before sorted ≡ false → key_list_of rows ≡ None
key_list_of-repeated rows moved sorted same preserved decides falls =
    let callers : differ_by same_caller rows ≡ false = sym (callers-permutation rows moved same) ∙ sym decides ∙ falls in
    ap (λ b. cond b (Some (sort_by caller_before rows)) None) (ap (λ b. b && differ_by same_caller rows) preserved ∙ callers)
