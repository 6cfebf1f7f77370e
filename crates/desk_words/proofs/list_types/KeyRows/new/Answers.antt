use Rattle.std.proofs.Common.{◌≡◌, true, false, refl, ap, sym, ◌∙◌, arith, length}
use Rattle.std.specs.Prelude.{nat_le, Some, IsPermutation}
use Rattle.std.specs.Cmp.Derive.{both_true}
use Rattle.std.proofs.lemmas.Bool.Decides.{nat_tests}
use Rattle.std.proofs.lemmas.List.Sorted.{IsPermutation-trans}
use Rattle.seq.specs.Ordered.{ascends_by}
use Rattle.desk_words.specs.SortedLists.{caller_before, keep_keys, is_key_list, key_list_of}
use Rattle.desk_words.proofs.KeyLimits.{is_key_list-sorted, key_list_of-sorted, key_list_of-repeated}
use Rattle.desk_words.specs.declared.limits.TheConstants.{MOST_KEYS}
use Rattle.desk_words.proofs.list_types.KeyRows.new.Goals as goal

module _ (c : goal.Else-not-ascend) where
  limits : keep_keys c.args.rows.items ≡ true
  limits =
      let few : nat_le (length c.args.rows.items) MOST_KEYS ≡ true = grind (arith, nat_tests) in
      both_true few (sym c.secrets_differ.ensures.differ ∙ c.if-not-secrets_differ.false)

  moved : IsPermutation c.args.rows.items c.into_order.new.values.items
  moved = IsPermutation-trans c.args.rows.items c.secrets_differ.new.rows.items c.into_order.new.values.items c.secrets_differ.ensures.rows c.into_order.ensures.permutation

  up : ascends_by caller_before c.into_order.new.values.items ≡ true
  up = ap (ascends_by caller_before) (sym c.deref.ensures.value) ∙ sym c.ascend.ensures ∙ c.if-not-ascend.false

  key_list : is_key_list c.into_order.new.values.items ≡ true
  key_list = is_key_list-sorted c.args.rows.items c.into_order.new.values.items moved limits up

  made : key_list_of c.args.rows.items ≡ Some c.into_order.new.values.items
  made = key_list_of-sorted c.args.rows.items c.into_order.new.values.items moved limits up

pub returns-then-not-ascend-clause-limit : goal.returns-then-not-ascend-clause-limit
returns-then-not-ascend-clause-limit c =
    let few : nat_le (length c.args.rows.items) MOST_KEYS ≡ true = grind (arith, nat_tests) in
    let preserved = both_true few (sym c.secrets_differ.ensures.differ ∙ c.if-not-secrets_differ.false) in
    let falls : ascends_by caller_before c.into_order.new.values.items ≡ false =
    ap (ascends_by caller_before) (sym c.deref.ensures.value) ∙ sym c.ascend.ensures ∙ c.if-not-ascend.true in
    let none = key_list_of-repeated c.args.rows.items c.secrets_differ.new.rows.items c.into_order.new.values.items c.secrets_differ.ensures.rows preserved c.into_order.ensures.ascending falls in
    (λ limit. none, λ none. refl)

pub invariant_of-result : goal.invariant_of-result
invariant_of-result c = key_list c

pub returns-clause-value : goal.returns-clause-value
returns-clause-value c = made c

pub returns-clause-rows : goal.returns-clause-rows
returns-clause-rows c = moved c

pub returns-clause-valid : goal.returns-clause-valid
returns-clause-valid c = key_list c

pub returns-clause-limit : goal.returns-clause-limit
returns-clause-limit c = let some = made c in (λ never. absurd (cc), λ none. absurd (cc))
