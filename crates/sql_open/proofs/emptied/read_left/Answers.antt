use Rattle.std.proofs.Common.{◌≡◌, rules, Err, Option, Result, subst}
use Rattle.sqlite.specs.Held.{Held}
use Rattle.sqlite.specs.Tree.{Trees}
use Rattle.sqlite_trees.specs.declared.store.Store as store
use Rattle.sql_model.specs.OfficeRecords.{are_left_empty, has_no_row}
use Rattle.sql_schema.specs.Contents.{demands_before_sessions, polls_before_sessions, presences_before_sessions}
use Rattle.vocabulary.specs.OptionSteps.{◌>>=◌, guard}
use Rattle.sql_load.specs.WholeReading.{IsReading}
use Rattle.sql_load.proofs.ReadingLemmas.{left_is, stop, then}
use Rattle.sql_open.proofs.emptied.read_left.Goals as goal
use Rattle.sql_load.specs.LoadResults.{any_at_all}
use Rattle.sql_load.specs.declared.fault.LoadError.{LoadError}

-- what is read of one table after another is what is read of them all
as_one : {S : Type 0} (g : store.Ghosts S) (a b : Held S) (r : Result (Unit {0}) LoadError)
    → IsReading g a b any_at_all r (λ trees. guard (has_no_row presences_before_sessions trees) >>= λ _. guard (has_no_row demands_before_sessions trees) >>= λ _. guard (has_no_row polls_before_sessions trees))
    → IsReading g a b any_at_all r (λ trees. guard (are_left_empty trees))
as_one g a b r h = subst (λ (said : Trees → Option (Unit {0})). IsReading g a b any_at_all r said) left_is h

pub returns-in_err-no_rows-clause-read : goal.returns-in_err-no_rows-clause-read
returns-in_err-no_rows-clause-read g c =
    let is : c.from_residual.result ≡ Err c.in_err-no_rows.field-0.0 = search rules in
    as_one g.S.Store _ _ c.from_residual.result (stop g.S.Store _ _ _ _ _ _ c.from_residual.result is c.in_err-no_rows.ensures.read)

pub returns-in_err-no_rows-2-clause-read : goal.returns-in_err-no_rows-2-clause-read
returns-in_err-no_rows-2-clause-read g c =
    let is : c.from_residual-in_err-no_rows-2.result ≡ Err c.in_err-no_rows-2.field-0.0 = search rules in
    as_one g.S.Store _ _ c.from_residual-in_err-no_rows-2.result
    (then g.S.Store _ _ _ _ _ _ _ _ c.in_ok-no_rows.ensures.read (stop g.S.Store _ _ _ _ _ _ c.from_residual-in_err-no_rows-2.result is c.in_err-no_rows-2.ensures.read))

pub returns-clause-read : goal.returns-clause-read
returns-clause-read g c =
    as_one g.S.Store _ _ c.no_rows-3.result
    (then g.S.Store _ _ _ _ _ _ _ _ c.in_ok-no_rows.ensures.read (then g.S.Store _ _ _ _ _ _ _ _ c.in_ok-no_rows-2.ensures.read c.no_rows-3.ensures.read))
