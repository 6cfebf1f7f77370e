use Rattle.std.proofs.Common.{Bool, ap, ◌∙◌, rules}
use Rattle.std.specs.Cmp.Lexicographic.{nat_list_cmp_total}
use Rattle.std.proofs.lemmas.List.Sorted.{answers_always}
use Rattle.vocabulary.specs.Names.{name_cmp}
use Rattle.seq.specs.Ordered.{ascends_by, key_before}
use Rattle.seq.proofs.Ascending.{ascends-from_answer, ascends_by-sorted}
use Rattle.desk_words.specs.declared.caller.KeyRow.{KeyRow}
use Rattle.desk_words.proofs.list_types.secrets_differ.Goals as goal

abbrev secret_before : KeyRow → KeyRow → Bool
secret_before = key_before (λ (row : KeyRow). row.secret) name_cmp

pub returns-clause-differ : goal.returns-clause-differ
returns-clause-differ c =
    ascends-from_answer secret_before c.deref.result.now c.is_sorted_by.result (c.is_sorted_by.ensures.cases secret_before (answers_always _ _ _ (λ f a r next called. search rules)))
    ∙ ap (ascends_by secret_before) c.deref.ensures.value
    ∙ ascends_by-sorted nat_list_cmp_total (λ (row : KeyRow). row.secret) c.args.rows.now.items c.sort_unstable_by_key.new.self.items c.sort_unstable_by_key.ensures.permutation
    (c.sort_unstable_by_key.ensures.sorted (λ (row : KeyRow). row.secret) (answers_always _ _ _ (λ f a r next called. search rules)))
