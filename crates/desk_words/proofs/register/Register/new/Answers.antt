use Rattle.std.proofs.Common.{◌≡◌, true, cond, ap, sym, ◌∙◌}
use Rattle.std.specs.Prelude.{Some, None}
use Rattle.std.specs.Cmp.Lexicographic.{nat_list_cmp_total}
use Rattle.seq.specs.Sorting.{sort_by}
use Rattle.seq.proofs.SortingLemmas.{sort_by-ascending}
use Rattle.desk_words.specs.declared.records.RegisterRow.{RegisterRow}
use Rattle.seq.specs.Ordered.{ascends_by}
use Rattle.std.specs.Cmp.Derive.{both_true}
use Rattle.desk_words.specs.Registers.{keep_limits, member_before, is_register, are_holdings, register_of}
use Rattle.desk_words.proofs.RegisterLimits.{keep_limits-permutation}
use Rattle.desk_words.proofs.register.Register.new.Goals as goal

module _ (c : goal.Else-not-ascend) where
  limits : keep_limits c.args.rows.items ≡ true
  limits = ap keep_limits (sym c.deref.ensures.value) ∙ sym c.keep_limits.ensures ∙ c.if-not-keep_limits.false

  up : ascends_by member_before c.into_order.new.values.items ≡ true
  up = ap (ascends_by member_before) (sym c.deref-2.ensures.value) ∙ sym c.ascend.ensures ∙ c.if-not-ascend.false

  register : is_register c.into_order.new.values.items ≡ true
  register = both_true (keep_limits-permutation c.args.rows.items c.into_order.new.values.items c.into_order.ensures.permutation limits) up

  made : register_of c.args.rows.items ≡ Some c.into_order.new.values.items
  made =
      let rows = c.args.rows.items in
      let holdings : are_holdings rows ≡ true = both_true limits (sym c.into_order.ensures.ascending ∙ up) in
      ap (λ b. cond b (Some (sort_by member_before rows)) None) holdings
      ∙ ap (λ r. Some r) (sym (sort_by-ascending nat_list_cmp_total (λ (row : RegisterRow). row.member) rows c.into_order.new.values.items c.into_order.ensures.permutation up))

pub returns-clause-value : goal.returns-clause-value
returns-clause-value c = made c

pub returns-clause-valid : goal.returns-clause-valid
returns-clause-valid c = register c

pub invariant_of-result : goal.invariant_of-result
invariant_of-result c = register c
