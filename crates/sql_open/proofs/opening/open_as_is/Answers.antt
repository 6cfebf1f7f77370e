use Rattle.std.proofs.Common.{◌≡◌, Some, Err, ap, sym, subst, ◌∙◌, arith, inr}
use Rattle.std.proofs.lemmas.Result.{err_from_is_err_and}
use Rattle.sqlite.specs.Effect.{Database}
use Rattle.sqlite.specs.Held.{state}
use Rattle.sqlite.specs.State.{HasCleanDisk}
use Rattle.sql_model.specs.OfficeRecords.{office_in}
use Rattle.sql_model.specs.Standing.{HasNoOffice, Stands}
use Rattle.sql_open.specs.declared.fault.OpenFault.{OpenFault}
use Rattle.sql_open.specs.declared.fault.OpenFault.TheVariants.{NotADesk}
use Rattle.sql_open.specs.declared.version.KnownVersion.TheVariants.{Two}
use Rattle.sql_open.proofs.OpenedPreservedLemmas.{version_same}
use Rattle.sql_open.proofs.OpeningLemmas.{desk_same, same_database}
use Rattle.sql_open.proofs.RisingLemmas.{are_a_desk}
use Rattle.sql_open.proofs.WholeLemmas.{leaves_whole}
use Rattle.sql_open.proofs.opening.open_as_is.Goals as goal

pub returns-in_err-examine-clause-cause : goal.returns-in_err-examine-clause-cause
returns-in_err-examine-clause-cause g c = λ clean reported.
    let old = state g.S.Store c.args.conn.now in
    let judged = state g.S.Store c.judge_columns.new.conn in
    let late : HasCleanDisk judged = omega (arith, c.examine.ensures.crash.clean, clean) in
    let columns = c.in_ok-judge_columns.ensures.columns late in
    let same = c.judge_columns.ensures.same late columns.0 in
    let rise = c.requires.rising (omega (arith, c.judge_columns.ensures.crash.clean, late)) same.0 in
    let p = err_from_is_err_and c.from_residual-in_err-examine.result c.from_residual-in_err-examine.ensures.1 in
    let is : c.in_err-examine.field-0.0 ≡ NotADesk = cc in (
      same.0,
      inr λ has.
          subst (λ (d : Database). HasNoOffice (record judged { now = d })) same.1
          (c.in_err-examine.ensures.none clean (desk_same old judged (sym same.1) (are_a_desk old has rise)) (ap (λ (x : OpenFault). Err x) is)),
    )

pub returns-clause-stands : goal.returns-clause-stands
returns-clause-stands g c = λ clean has version.
    let old = state g.S.Store c.args.conn.now in
    let judged = state g.S.Store c.judge_columns.new.conn in
    let read = state g.S.Store c.examine.new.conn in
    let end = state g.S.Store c.ask_open.new.conn in
    let last : HasCleanDisk read = omega (arith, c.ask_open.ensures.asked.crash.clean, clean) in
    let late : HasCleanDisk judged = omega (arith, c.examine.ensures.crash.clean, last) in
    let columns = c.in_ok-judge_columns.ensures.columns late in
    let same = c.judge_columns.ensures.same late columns.0 in
    let rise = c.requires.rising (omega (arith, c.judge_columns.ensures.crash.clean, late)) same.0 in
    let still = c.in_ok-ask_open.ensures.asked.still clean in
    let is_open = still.0.0.is_open in
    let asked = c.ask_open.ensures.asked.same clean is_open in
    let rows = ap (λ (d : Database). d.trees) asked.1 ∙ c.examine.ensures.preserved last columns.0 asked.0 ∙ ap (λ (d : Database). d.trees) same.1 in
    let all : end.now ≡ old.now = same_database old end rows (c.schema.ensures.live same.0).0 (c.schema-2.ensures.live is_open).0 in
    let desk = are_a_desk old has rise in
    let holds = c.in_ok-examine.ensures.holds last (desk_same old judged (sym same.1) desk) in
    let office = holds.0 in
    let held = subst (λ (d : Database). office_in d.trees ≡ Some office) same.1 holds.1 in
    let stands : Stands end office = record {
      desk = desk_same old end (sym all) desk;
      version = version_same Two old end (sym all) version;
      holds = subst (λ (d : Database). office_in d.trees ≡ Some office) (sym all) held;
      preserved = holds.2;
    } in
    (office, held, stands, leaves_whole end office stands still.1 (c.in_ok-ask_open.ensures.settled clean))

pub returns-clause-opened : goal.returns-clause-opened
returns-clause-opened g c = λ clean.
    let old = state g.S.Store c.args.conn.now in
    let judged = state g.S.Store c.judge_columns.new.conn in
    let read = state g.S.Store c.examine.new.conn in
    let end = state g.S.Store c.ask_open.new.conn in
    let last : HasCleanDisk read = omega (arith, c.ask_open.ensures.asked.crash.clean, clean) in
    let late : HasCleanDisk judged = omega (arith, c.examine.ensures.crash.clean, last) in
    let columns = c.in_ok-judge_columns.ensures.columns late in
    let same = c.judge_columns.ensures.same late columns.0 in
    let is_open = (c.in_ok-ask_open.ensures.asked.still clean).0.0.is_open in
    let asked = c.ask_open.ensures.asked.same clean is_open in
    let rows = ap (λ (d : Database). d.trees) asked.1 ∙ c.examine.ensures.preserved last columns.0 asked.0 ∙ ap (λ (d : Database). d.trees) same.1 in
    (same.0, columns.1, same_database old end rows (c.schema.ensures.live same.0).0 (c.schema-2.ensures.live is_open).0)
