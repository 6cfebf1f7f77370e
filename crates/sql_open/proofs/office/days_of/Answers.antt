use Rattle.std.proofs.Common.{◌≡◌, Err, Some, rules}
use Rattle.seq.specs.Sorting.{sort_by}
use Rattle.desk_words.specs.SortedLists.{day_before}
use Rattle.sql_load.proofs.ReadingLemmas.{last, stop}
use Rattle.sql_open.proofs.office.days_of.Goals as goal

pub returns-in_err-days-clause-read : goal.returns-in_err-days-clause-read
returns-in_err-days-clause-read g c =
    let is : c.from_residual.result ≡ Err c.in_err-days.field-0.0 = search rules in
    stop g.S.Store _ _ _ _ (λ days _. Some (sort_by day_before days)) c.in_err-days.field-0.0 c.from_residual.result is c.in_err-days.ensures.read

pub returns-clause-read : goal.returns-clause-read
returns-clause-read g c = last g.S.Store _ _ _ _ _ _ (λ days. Some (sort_by day_before days)) c.in_ok-days.ensures.read c.day_list.ensures
