use Rattle.std.proofs.Common.{◌≡◌, Some, Err, ap, sym, subst, ◌∙◌, rules}
use Rattle.desk_words.specs.SortedLists.{are_resolutions}
use Rattle.sql_load.specs.OwnLists.{at_most, resolutions_own}
use Rattle.sql_load.specs.LoadResults.{ReadAgrees}
use Rattle.sql_load.proofs.AssembledListLemmas.{cause_by, limit_so, not_resolutions, wrong_for}
use Rattle.sql_load.proofs.ordered_lists.resolution_list.Goals as goal

pub returns-in_err-resolutions : goal.returns-in_err-resolutions
returns-in_err-resolutions c =
    let is : c.from_residual.result ≡ Err c.in_err-resolutions.field-0.0 = search rules in
    let said = resolutions_own c.args.rows in
    subst (λ r. ReadAgrees are_resolutions r said) (sym is)
    (cause_by (at_most 50) are_resolutions c.in_err-resolutions.field-0.0 said said (λ wrong found h. not_resolutions found (wrong found h)) c.in_err-resolutions.ensures)

pub returns-in-Ok : goal.returns-in-Ok
returns-in-Ok c = c.in_ok-resolutions.ensures ∙ ap (λ l. Some l) (sym (c.in-Ok.ensures.value ∙ c.into_vec.ensures))

pub returns-in-Err : goal.returns-in-Err
returns-in-Err c = λ found h.
    wrong_for are_resolutions c.into_vec.result.items found (ap (λ l. Some l) c.into_vec.ensures ∙ sym c.in_ok-resolutions.ensures ∙ h)
    (limit_so c.in-Err.field-0 c.in-Err.ensures.limit c.in-Err.ensures.no_memory)
