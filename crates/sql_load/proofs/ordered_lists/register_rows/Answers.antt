use Rattle.std.proofs.Common.{◌≡◌, None, subst, sym, ◌∙◌}
use Rattle.seq.specs.Sorting.{sort_by}
use Rattle.desk_words.specs.Registers.{member_before, register_of}
use Rattle.desk_words.specs.Office.{are_rows}
use Rattle.sql_load.proofs.AssembledListLemmas.{limit_so, register_refused, wrong_for}
use Rattle.sql_load.proofs.ordered_lists.register_rows.Goals as goal

pub returns-in-Err : goal.returns-in-Err
returns-in-Err c = λ x h.
    let none : register_of c.args.rows ≡ None = subst (λ l. register_of l ≡ None) c.into_vec.ensures (limit_so c.in-Err.field-0 c.in-Err.ensures.limit c.in-Err.ensures.no_memory) in
    wrong_for are_rows (sort_by member_before c.args.rows) x h (register_refused c.args.rows (sym c.is_empty.ensures ∙ c.if-is_empty.false) none)
