use Rattle.std.proofs.Common.{◌≡◌, Err, rules}
use Rattle.sql_load.specs.OwnLists.{resolutions_own}
use Rattle.sql_load.proofs.ReadingLemmas.{last, stop}
use Rattle.sql_open.proofs.meeting_lists.read_resolutions.Goals as goal

pub returns-in_err-rows-clause-read : goal.returns-in_err-rows-clause-read
returns-in_err-rows-clause-read g c =
    let is : c.from_residual.result ≡ Err c.in_err-rows.field-0.0 = search rules in
    stop g.S.Store _ _ _ _ (λ rows _. resolutions_own rows) c.in_err-rows.field-0.0 c.from_residual.result is c.in_err-rows.ensures.read

pub returns-clause-read : goal.returns-clause-read
returns-clause-read g c = last g.S.Store _ _ _ _ _ _ resolutions_own c.in_ok-rows.ensures.read c.resolution_list.ensures
