use Rattle.std.proofs.Common.{Err, arith, ap, sym, subst}
use Rattle.std.proofs.lemmas.Result.{err_from_is_err_and}
use Rattle.sqlite.specs.Effect.{Database}
use Rattle.sqlite.specs.Held.{state}
use Rattle.sql_open.specs.Rising.{Rise}
use Rattle.sql_open.specs.declared.fault.OpenFault.{OpenFault}
use Rattle.sql_open.specs.declared.version.KnownVersion.TheVariants.{One, Two}
use Rattle.sql_open.proofs.OpenedPreservedLemmas.{are_as_reported, are_if_made, preserved_cause, preserved_known, preserved_rows, preserved_stands, preserved_whole, survives_as_is, survives_moved, version_cause}
use Rattle.sql_open.proofs.RisingLemmas.{are_noted}
use Rattle.sql_open.proofs.opening.open_stored.Goals as goal

pub returns-in_err-judge_version-clause-cause : goal.returns-in_err-judge_version-clause-cause
returns-in_err-judge_version-clause-cause g c =
    let fault = c.in_err-judge_version.field-0.0 in
    let p = err_from_is_err_and c.from_residual.result c.from_residual.ensures.1 in
    rw (p.1, p.2)
    (version_cause g.S.Store c.args.conn.now c.judge_version.new.conn fault c.schema.ensures.live (λ clean. c.requires.rising (omega (arith, c.judge_version.ensures.crash.clean, clean))) c.in_err-judge_version.ensures.cause
    (λ clean e. c.in_err-judge_version.ensures.newer clean (ap (λ (x : OpenFault). Err x) e)) c.in_err-judge_version.ensures.was_open)

pub open_moved-requires-clause-rising : goal.open_moved-requires-clause-rising
open_moved-requires-clause-rising g c = λ clean is_open.
    let same = c.judge_version.ensures.same clean is_open in
    subst (λ (d : Database). Rise d.schema d.trees) (sym same.1) (c.requires.rising (omega (arith, c.judge_version.ensures.crash.clean, clean)))

pub open_as_is-requires-clause-rising : goal.open_as_is-requires-clause-rising
open_as_is-requires-clause-rising g c = λ clean is_open.
    let same = c.judge_version.ensures.same clean is_open in
    subst (λ (d : Database). Rise d.schema d.trees) (sym same.1) (c.requires.rising (omega (arith, c.judge_version.ensures.crash.clean, clean)))

pub returns-in-One-clause-stands : goal.returns-in-One-clause-stands
returns-in-One-clause-stands g c =
    preserved_stands g.S.Store One c.args.conn.now c.judge_version.new.conn c.open_moved.new.conn c.schema.ensures.live c.judge_version.ensures.same (λ clean. omega (arith, c.open_moved.ensures.crash.clean, clean))
    (λ clean notes. (rw c.in-One.is at c.in_ok-judge_version.ensures.noted) clean (are_noted (state g.S.Store c.args.conn.now) notes (c.requires.rising (omega (arith, c.judge_version.ensures.crash.clean, clean))))) (rw c.in-One.is at c.in_ok-judge_version.ensures.shown)
    c.open_moved.result _ (λ clean _. c.open_moved.ensures.stands clean) c.open_moved.ensures.opened

pub returns-in-One-clause-whole : goal.returns-in-One-clause-whole
returns-in-One-clause-whole g c =
    preserved_whole g.S.Store One c.args.conn.now c.judge_version.new.conn c.open_moved.new.conn c.schema.ensures.live c.judge_version.ensures.same (λ clean. omega (arith, c.open_moved.ensures.crash.clean, clean))
    (λ clean notes. (rw c.in-One.is at c.in_ok-judge_version.ensures.noted) clean (are_noted (state g.S.Store c.args.conn.now) notes (c.requires.rising (omega (arith, c.judge_version.ensures.crash.clean, clean))))) (rw c.in-One.is at c.in_ok-judge_version.ensures.shown)
    c.open_moved.result _ (λ clean _. c.open_moved.ensures.stands clean) c.open_moved.ensures.opened

pub returns-in-One-clause-known : goal.returns-in-One-clause-known
returns-in-One-clause-known g c =
    preserved_known g.S.Store One c.args.conn.now c.judge_version.new.conn c.open_moved.new.conn c.schema.ensures.live c.judge_version.ensures.same (λ clean. omega (arith, c.open_moved.ensures.crash.clean, clean))
    (λ clean notes. (rw c.in-One.is at c.in_ok-judge_version.ensures.noted) clean (are_noted (state g.S.Store c.args.conn.now) notes (c.requires.rising (omega (arith, c.judge_version.ensures.crash.clean, clean))))) (rw c.in-One.is at c.in_ok-judge_version.ensures.shown)
    c.open_moved.result _ c.open_moved.ensures.opened
    (λ clean is_open are. are_if_made g.S.Store One c.args.conn.now c.judge_version.new.conn c.open_moved.new.conn c.schema.ensures.live c.judge_version.ensures.same (λ clean. omega (arith, c.open_moved.ensures.crash.clean, clean))
    (λ clean notes. (rw c.in-One.is at c.in_ok-judge_version.ensures.noted) clean (are_noted (state g.S.Store c.args.conn.now) notes (c.requires.rising (omega (arith, c.judge_version.ensures.crash.clean, clean))))) (rw c.in-One.is at c.in_ok-judge_version.ensures.shown) clean is_open are)

pub returns-in-One-clause-cause : goal.returns-in-One-clause-cause
returns-in-One-clause-cause g c =
    preserved_cause g.S.Store One c.args.conn.now c.judge_version.new.conn c.open_moved.new.conn c.schema.ensures.live c.judge_version.ensures.same (λ clean. omega (arith, c.open_moved.ensures.crash.clean, clean))
    (λ clean notes. (rw c.in-One.is at c.in_ok-judge_version.ensures.noted) clean (are_noted (state g.S.Store c.args.conn.now) notes (c.requires.rising (omega (arith, c.judge_version.ensures.crash.clean, clean))))) (rw c.in-One.is at c.in_ok-judge_version.ensures.shown)
    c.open_moved.result c.open_moved.ensures.cause c.open_moved.ensures.other

pub returns-in-One-clause-preserved : goal.returns-in-One-clause-preserved
returns-in-One-clause-preserved g c =
    preserved_rows g.S.Store One c.args.conn.now c.judge_version.new.conn c.open_moved.new.conn c.schema.ensures.live c.judge_version.ensures.same (λ clean. omega (arith, c.open_moved.ensures.crash.clean, clean))
    (λ clean notes. (rw c.in-One.is at c.in_ok-judge_version.ensures.noted) clean (are_noted (state g.S.Store c.args.conn.now) notes (c.requires.rising (omega (arith, c.judge_version.ensures.crash.clean, clean))))) (rw c.in-One.is at c.in_ok-judge_version.ensures.shown)
    c.open_moved.result c.open_moved.ensures.preserved

pub returns-in-One-clause-crash : goal.returns-in-One-clause-crash
returns-in-One-clause-crash g c =
    survives_moved g.S.Store c.args.conn.now c.judge_version.new.conn c.open_moved.new.conn c.judge_version.ensures.crash c.judge_version.ensures.same
    (λ clean notes. (rw c.in-One.is at c.in_ok-judge_version.ensures.noted) clean (are_noted (state g.S.Store c.args.conn.now) notes (c.requires.rising (omega (arith, c.judge_version.ensures.crash.clean, clean))))) (rw c.in-One.is at c.in_ok-judge_version.ensures.shown) c.open_moved.ensures.crash

pub returns-in-Two-clause-stands : goal.returns-in-Two-clause-stands
returns-in-Two-clause-stands g c =
    preserved_stands g.S.Store Two c.args.conn.now c.judge_version.new.conn c.open_as_is.new.conn c.schema.ensures.live c.judge_version.ensures.same (λ clean. omega (arith, c.open_as_is.ensures.crash.clean, clean))
    (λ clean notes. (rw c.in-Two.is at c.in_ok-judge_version.ensures.noted) clean (are_noted (state g.S.Store c.args.conn.now) notes (c.requires.rising (omega (arith, c.judge_version.ensures.crash.clean, clean))))) (rw c.in-Two.is at c.in_ok-judge_version.ensures.shown)
    c.open_as_is.result _ c.open_as_is.ensures.stands c.open_as_is.ensures.opened

pub returns-in-Two-clause-whole : goal.returns-in-Two-clause-whole
returns-in-Two-clause-whole g c =
    preserved_whole g.S.Store Two c.args.conn.now c.judge_version.new.conn c.open_as_is.new.conn c.schema.ensures.live c.judge_version.ensures.same (λ clean. omega (arith, c.open_as_is.ensures.crash.clean, clean))
    (λ clean notes. (rw c.in-Two.is at c.in_ok-judge_version.ensures.noted) clean (are_noted (state g.S.Store c.args.conn.now) notes (c.requires.rising (omega (arith, c.judge_version.ensures.crash.clean, clean))))) (rw c.in-Two.is at c.in_ok-judge_version.ensures.shown)
    c.open_as_is.result _ c.open_as_is.ensures.stands c.open_as_is.ensures.opened

pub returns-in-Two-clause-known : goal.returns-in-Two-clause-known
returns-in-Two-clause-known g c =
    preserved_known g.S.Store Two c.args.conn.now c.judge_version.new.conn c.open_as_is.new.conn c.schema.ensures.live c.judge_version.ensures.same (λ clean. omega (arith, c.open_as_is.ensures.crash.clean, clean))
    (λ clean notes. (rw c.in-Two.is at c.in_ok-judge_version.ensures.noted) clean (are_noted (state g.S.Store c.args.conn.now) notes (c.requires.rising (omega (arith, c.judge_version.ensures.crash.clean, clean))))) (rw c.in-Two.is at c.in_ok-judge_version.ensures.shown)
    c.open_as_is.result _ c.open_as_is.ensures.opened
    (λ clean is_open are. are_as_reported g.S.Store Two c.args.conn.now c.judge_version.new.conn c.open_as_is.new.conn c.schema.ensures.live c.judge_version.ensures.same (λ clean. omega (arith, c.open_as_is.ensures.crash.clean, clean))
    (λ clean notes. (rw c.in-Two.is at c.in_ok-judge_version.ensures.noted) clean (are_noted (state g.S.Store c.args.conn.now) notes (c.requires.rising (omega (arith, c.judge_version.ensures.crash.clean, clean))))) (rw c.in-Two.is at c.in_ok-judge_version.ensures.shown) clean is_open are)

pub returns-in-Two-clause-cause : goal.returns-in-Two-clause-cause
returns-in-Two-clause-cause g c =
    preserved_cause g.S.Store Two c.args.conn.now c.judge_version.new.conn c.open_as_is.new.conn c.schema.ensures.live c.judge_version.ensures.same (λ clean. omega (arith, c.open_as_is.ensures.crash.clean, clean))
    (λ clean notes. (rw c.in-Two.is at c.in_ok-judge_version.ensures.noted) clean (are_noted (state g.S.Store c.args.conn.now) notes (c.requires.rising (omega (arith, c.judge_version.ensures.crash.clean, clean))))) (rw c.in-Two.is at c.in_ok-judge_version.ensures.shown)
    c.open_as_is.result (λ clean reported. let it = c.open_as_is.ensures.cause clean reported in (it.0, λ _. it.1)) c.open_as_is.ensures.other

pub returns-in-Two-clause-preserved : goal.returns-in-Two-clause-preserved
returns-in-Two-clause-preserved g c =
    preserved_rows g.S.Store Two c.args.conn.now c.judge_version.new.conn c.open_as_is.new.conn c.schema.ensures.live c.judge_version.ensures.same (λ clean. omega (arith, c.open_as_is.ensures.crash.clean, clean))
    (λ clean notes. (rw c.in-Two.is at c.in_ok-judge_version.ensures.noted) clean (are_noted (state g.S.Store c.args.conn.now) notes (c.requires.rising (omega (arith, c.judge_version.ensures.crash.clean, clean))))) (rw c.in-Two.is at c.in_ok-judge_version.ensures.shown)
    c.open_as_is.result c.open_as_is.ensures.preserved

pub returns-in-Two-clause-crash : goal.returns-in-Two-clause-crash
returns-in-Two-clause-crash g c =
    survives_as_is g.S.Store c.args.conn.now c.judge_version.new.conn c.open_as_is.new.conn c.judge_version.ensures.crash c.open_as_is.ensures.crash
