use Rattle.std.proofs.Common.{true, ap, sym, ◌∙◌}
use Rattle.std.specs.Prelude.{Some}
use Rattle.desk_words.specs.Registers.{register_of}
use Rattle.office_validation.specs.Validation.{rows_checked}
use Rattle.office_validation.proofs.ValidRegisterLemmas.{rows_checked-loaded, rows_checked-some, rows_checked-fault}
use Rattle.office_validation.proofs.meetings.rows_checked.Goals as goal

pub returns-else-is_empty : goal.returns-else-is_empty
returns-else-is_empty c =
    sym (ap (λ b. rows_checked b c.args.rows) c.if-not-loaded.true ∙ rows_checked-some c.args.rows (sym c.is_empty.ensures ∙ c.if-is_empty.false))

pub returns-in-Ok : goal.returns-in-Ok
returns-in-Ok c =
    sym (ap (λ b. rows_checked b c.args.rows) c.if-not-loaded.false
    ∙ rows_checked-loaded c.args.rows
    ∙ ap register_of (sym c.into_vec.ensures)
    ∙ c.in-Ok.ensures.value
    ∙ ap (λ r. Some r) (sym c.into_listing.ensures.value))

pub returns-in-Err : goal.returns-in-Err
returns-in-Err c =
    sym (ap (λ b. rows_checked b c.args.rows) c.if-not-loaded.false
    ∙ ap (rows_checked true) (sym c.into_vec.ensures)
    ∙ rows_checked-fault c.into_vec.result.items c.in-Err.field-0 c.in-Err.ensures.limit.0 c.in-Err.ensures.no_memory)
