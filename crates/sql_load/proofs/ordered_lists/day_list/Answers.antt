use Rattle.std.proofs.Common.{◌≡◌, Some, ap, sym, ◌∙◌}
use Rattle.seq.specs.Sorting.{sort_by}
use Rattle.desk_words.specs.SortedLists.{day_before, is_day_list}
use Rattle.sql_load.proofs.AssembledListLemmas.{days_made, days_refused, limit_so, wrong_for}
use Rattle.sql_load.proofs.ordered_lists.day_list.Goals as goal

pub returns-in-Ok : goal.returns-in-Ok
returns-in-Ok c =
    let made = days_made c.in-Ok.days c.in-Some.days.items c.in-Ok.ensures.valid c.in-Some.ensures.ascending c.in-Ok.ensures.days in
    ap (λ l. Some l) (sym (made ∙ c.in-Some.ensures.some ∙ ap (sort_by day_before) c.into_vec.ensures))

pub returns-in-Err : goal.returns-in-Err
returns-in-Err c = λ x h.
    let many = limit_so c.in-Err.field-0 c.in-Err.ensures.limit c.in-Err.ensures.no_memory in
    let is : c.in-Some.days.items ≡ sort_by day_before c.args.days = c.in-Some.ensures.some ∙ ap (sort_by day_before) c.into_vec.ensures in
    wrong_for is_day_list (sort_by day_before c.args.days) x h (ap is_day_list (sym is) ∙ days_refused c.in-Some.days.items many)
