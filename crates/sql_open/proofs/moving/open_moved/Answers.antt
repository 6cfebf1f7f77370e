use Rattle.std.proofs.Common.{◌≡◌, Err, ap, arith, inr}
use Rattle.std.proofs.lemmas.Result.{err_from_is_err_and}
use Rattle.sqlite.specs.Held.{state}
use Rattle.sqlite.specs.State.{HasCleanDisk}
use Rattle.sqlite.proofs.StateLemmas.{survives_then}
use Rattle.sql_open.specs.OpeningByMigration.{MayMove, MovesWhole}
use Rattle.sql_open.specs.declared.fault.OpenFault.{OpenFault}
use Rattle.sql_open.specs.declared.fault.OpenFault.TheVariants.{NotADesk}
use Rattle.sql_open.proofs.OpenedMoveLemmas.{first_from, made_from, may_move, moved_from, no_office_from, stands_moved}
use Rattle.sql_open.proofs.moving.open_moved.Goals as goal

pub returns-in_err-move_desk-clause-cause : goal.returns-in_err-move_desk-clause-cause
returns-in_err-move_desk-clause-cause g c = λ clean reported.
    let old = state g.S.Store c.args.conn.now in
    let judged = state g.S.Store c.judge_columns.new.conn in
    let late : HasCleanDisk judged = omega (arith, c.move_desk.ensures.crash.clean, clean) in
    let columns = c.in_ok-judge_columns.ensures.columns late in
    let same = c.judge_columns.ensures.same late columns.0 in
    let rise = c.requires.rising (omega (arith, c.judge_columns.ensures.crash.clean, late)) same.0 in
    let p = err_from_is_err_and c.from_residual-in_err-move_desk.result c.from_residual-in_err-move_desk.ensures.1 in
    let is : c.in_err-move_desk.field-0.0 ≡ NotADesk = cc in (
      same.0,
      λ version. inr λ _.
          let first = first_from old judged judged same.1 c.in_ok-judge_declared.ensures.made version rise (c.schema.ensures.live same.0).0 in
          no_office_from old judged judged same.1 (c.in_err-move_desk.ensures.none clean first (ap (λ (x : OpenFault). Err x) is)),
    )

pub returns-in_err-move_desk-clause-crash : goal.returns-in_err-move_desk-clause-crash
returns-in_err-move_desk-clause-crash g c =
    let old = state g.S.Store c.args.conn.now in
    let judged = state g.S.Store c.judge_columns.new.conn in
    let end = state g.S.Store c.move_desk.new.conn in
    survives_then old judged end (λ _. ⊥) (MovesWhole judged) (MayMove old) (λ _ _ none. absurd none)
    (λ clean db whole.
    let late : HasCleanDisk judged = omega (arith, c.move_desk.ensures.crash.clean, clean) in
    let columns = c.in_ok-judge_columns.ensures.columns late in
    let same = c.judge_columns.ensures.same late columns.0 in
    let rise = c.requires.rising (omega (arith, c.judge_columns.ensures.crash.clean, late)) same.0 in
    may_move old judged end same.1 db same.0 columns.1 c.in_ok-judge_declared.ensures.made rise (c.schema.ensures.live same.0).0 whole)
    c.judge_columns.ensures.crash c.move_desk.ensures.crash

pub returns-clause-stands : goal.returns-clause-stands
returns-clause-stands g c = λ clean version.
    let old = state g.S.Store c.args.conn.now in
    let judged = state g.S.Store c.judge_columns.new.conn in
    let end = state g.S.Store c.move_desk.new.conn in
    let late : HasCleanDisk judged = omega (arith, c.move_desk.ensures.crash.clean, clean) in
    let columns = c.in_ok-judge_columns.ensures.columns late in
    let same = c.judge_columns.ensures.same late columns.0 in
    let rise = c.requires.rising (omega (arith, c.judge_columns.ensures.crash.clean, late)) same.0 in
    let first = first_from old judged end same.1 c.in_ok-judge_declared.ensures.made version rise (c.schema.ensures.live same.0).0 in
    stands_moved old judged end same.1 (c.in_ok-move_desk.ensures.moved clean first) (c.rests.ensures.settled (c.in_ok-move_desk.ensures.is_open clean).1)

pub returns-clause-opened : goal.returns-clause-opened
returns-clause-opened g c = λ clean.
    let old = state g.S.Store c.args.conn.now in
    let judged = state g.S.Store c.judge_columns.new.conn in
    let end = state g.S.Store c.move_desk.new.conn in
    let late : HasCleanDisk judged = omega (arith, c.move_desk.ensures.crash.clean, clean) in
    let columns = c.in_ok-judge_columns.ensures.columns late in
    let same = c.judge_columns.ensures.same late columns.0 in
    let rise = c.requires.rising (omega (arith, c.judge_columns.ensures.crash.clean, late)) same.0 in
    let made = made_from old judged end same.1 c.in_ok-judge_declared.ensures.made in (
      same.0,
      columns.1,
      (
        made,
        λ version.
            let first = first_from old judged end same.1 c.in_ok-judge_declared.ensures.made version rise (c.schema.ensures.live same.0).0 in
            (made, moved_from old judged end same.1 (c.in_ok-move_desk.ensures.moved clean first)),
      ),
    )

pub returns-clause-crash : goal.returns-clause-crash
returns-clause-crash g c =
    let old = state g.S.Store c.args.conn.now in
    let judged = state g.S.Store c.judge_columns.new.conn in
    let end = state g.S.Store c.move_desk.new.conn in
    survives_then old judged end (λ _. ⊥) (MovesWhole judged) (MayMove old) (λ _ _ none. absurd none)
    (λ clean db whole.
    let late : HasCleanDisk judged = omega (arith, c.move_desk.ensures.crash.clean, clean) in
    let columns = c.in_ok-judge_columns.ensures.columns late in
    let same = c.judge_columns.ensures.same late columns.0 in
    let rise = c.requires.rising (omega (arith, c.judge_columns.ensures.crash.clean, late)) same.0 in
    may_move old judged end same.1 db same.0 columns.1 c.in_ok-judge_declared.ensures.made rise (c.schema.ensures.live same.0).0 whole)
    c.judge_columns.ensures.crash c.move_desk.ensures.crash
