use Rattle.std.proofs.Common.{◌≡◌, None, subst}
use Rattle.seq.specs.Sorting.{sort_by}
use Rattle.desk_words.specs.SortedLists.{caller_before, is_key_list, key_list_of}
use Rattle.sql_load.proofs.AssembledListLemmas.{keys_refused, limit_so, wrong_for}
use Rattle.sql_load.proofs.ordered_lists.key_rows.Goals as goal

pub returns-in-Err : goal.returns-in-Err
returns-in-Err c = λ x h.
    let none : key_list_of c.args.rows ≡ None = subst (λ l. key_list_of l ≡ None) c.into_vec.ensures (limit_so c.in-Err.field-0 c.in-Err.ensures.limit c.in-Err.ensures.no_memory) in
    wrong_for is_key_list (sort_by caller_before c.args.rows) x h (keys_refused c.args.rows none)
