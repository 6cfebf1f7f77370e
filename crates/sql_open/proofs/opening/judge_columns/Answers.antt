use Rattle.std.proofs.Common.{◌≡◌, Err, ap}
use Rattle.std.proofs.lemmas.Result.{err_from_is_err_and}
use Rattle.sql_desk_tables.specs.ColumnChecks.{HasColumnsOf}
use Rattle.sql_desk_tables.specs.declared.columns.ColumnError.{ColumnError}
use Rattle.sql_desk_tables.specs.declared.columns.ColumnError.TheVariants.{Missing}
use Rattle.sql_open.specs.Opening.{fault_of_columns}
use Rattle.sql_open.specs.declared.fault.OpenFault.TheVariants.{NotADesk, NewerVersion}
use Rattle.sql_open.proofs.FaultLemmas.{missing_alone, never_newer}
use Rattle.sql_open.proofs.opening.judge_columns.Goals as goal

pub returns-in_err-ask_columns_one-in-One-clause-missing : goal.returns-in_err-ask_columns_one-in-One-clause-missing
unfolding HasColumnsOf
returns-in_err-ask_columns_one-in-One-clause-missing g c = rw c.in-One.is λ clean reported.
    let p = err_from_is_err_and c.from_residual.result c.from_residual.ensures.1 in
    let is : fault_of_columns c.in_err-ask_columns_one-in-One.field-0.0 ≡ NotADesk = cc in
    let same : c.in_err-ask_columns_one-in-One.field-0.0 ≡ Missing = missing_alone c.in_err-ask_columns_one-in-One.field-0.0 is in
    c.in_err-ask_columns_one-in-One.ensures.asked.missed clean (ap (λ (f : ColumnError). Err f) same)

pub returns-in_err-ask_columns_one-in-One-clause-other : goal.returns-in_err-ask_columns_one-in-One-clause-other
returns-in_err-ask_columns_one-in-One-clause-other g c = λ reported.
    let p = err_from_is_err_and c.from_residual.result c.from_residual.ensures.1 in
    let is : fault_of_columns c.in_err-ask_columns_one-in-One.field-0.0 ≡ NewerVersion = cc in
    never_newer c.in_err-ask_columns_one-in-One.field-0.0 is

pub returns-in_err-ask_columns-in-Two-clause-missing : goal.returns-in_err-ask_columns-in-Two-clause-missing
unfolding HasColumnsOf
returns-in_err-ask_columns-in-Two-clause-missing g c = rw c.in-Two.is λ clean reported.
    let p = err_from_is_err_and c.from_residual-in_err-ask_columns-in-Two.result c.from_residual-in_err-ask_columns-in-Two.ensures.1 in
    let is : fault_of_columns c.in_err-ask_columns-in-Two.field-0.0 ≡ NotADesk = cc in
    let same : c.in_err-ask_columns-in-Two.field-0.0 ≡ Missing = missing_alone c.in_err-ask_columns-in-Two.field-0.0 is in
    c.in_err-ask_columns-in-Two.ensures.asked.missed clean (ap (λ (f : ColumnError). Err f) same)

pub returns-in_err-ask_columns-in-Two-clause-other : goal.returns-in_err-ask_columns-in-Two-clause-other
returns-in_err-ask_columns-in-Two-clause-other g c = λ reported.
    let p = err_from_is_err_and c.from_residual-in_err-ask_columns-in-Two.result c.from_residual-in_err-ask_columns-in-Two.ensures.1 in
    let is : fault_of_columns c.in_err-ask_columns-in-Two.field-0.0 ≡ NewerVersion = cc in
    never_newer c.in_err-ask_columns-in-Two.field-0.0 is

pub returns-in_ok-ask_columns_one-in-One-clause-columns : goal.returns-in_ok-ask_columns_one-in-One-clause-columns
unfolding HasColumnsOf
returns-in_ok-ask_columns_one-in-One-clause-columns g c = rw c.in-One.is λ clean. let is = c.in_ok-ask_columns_one-in-One.ensures.asked.stand clean in (is.1, is.2)

pub returns-in_ok-ask_columns-in-Two-clause-columns : goal.returns-in_ok-ask_columns-in-Two-clause-columns
unfolding HasColumnsOf
returns-in_ok-ask_columns-in-Two-clause-columns g c = rw c.in-Two.is λ clean. let is = c.in_ok-ask_columns-in-Two.ensures.asked.stand clean in (is.1, is.2)
