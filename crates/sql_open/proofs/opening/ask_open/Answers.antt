use Rattle.std.proofs.Common.{◌≡◌, Err, IfErr, Result, IsTrue, rules, sym, subst}
use Rattle.sqlite.specs.declared.error.Error.{Error}
use Rattle.sqlite.specs.Held.{state}
use Rattle.sqlite.specs.State.{Fails}
use Rattle.sql_open.proofs.CrashLemmas.{leaves_itself}
use Rattle.sql_open.proofs.OpenedAskingLemmas.{asked, refused, refused_so}
use Rattle.sql_open.proofs.opening.ask_open.Goals as goal

pub returns-in_err-prepare-clause-asked : goal.returns-in_err-prepare-clause-asked
returns-in_err-prepare-clause-asked g c =
    let auto : IsTrue c.is_autocommit.result = search rules in
    let is : c.from_residual.result ≡ Err c.in_err-prepare.field-0.0 = search rules in
    refused g.S.Store c.args.conn.now c.prepare.new.self c.prepare.result c.from_residual.result _ (λ clean. c.prepare.ensures.ok clean) (λ clean. c.prepare.ensures.err clean) (c.is_autocommit.ensures.settled auto) c.prepare.ensures.survives c.in_err-prepare.field-0.0 is

pub returns-in_err-prepare-clause-cause : goal.returns-in_err-prepare-clause-cause
returns-in_err-prepare-clause-cause g c = λ clean.
    let is : c.from_residual.result ≡ Err c.in_err-prepare.field-0.0 = search rules in
    subst (λ (r : Result (Unit {0}) Error). IfErr r (Fails (state g.S.Store c.args.conn.now) (state g.S.Store c.prepare.new.self) ⊥)) (sym is) (refused_so g.S.Store c.args.conn.now c.prepare.new.self (c.in_err-prepare.ensures.err clean))

pub returns-clause-asked : goal.returns-clause-asked
returns-clause-asked g c = asked g.S.Store c.args.conn.now c.prepare.new.self tt (λ clean. (c.in_ok-prepare.ensures.ok clean).1) (λ clean. c.schema.ensures.live) c.prepare.ensures.survives

pub returns-clause-settled : goal.returns-clause-settled
returns-clause-settled g c = λ clean.
    let same = (c.in_ok-prepare.ensures.ok clean).1 in
    let auto : IsTrue c.is_autocommit-2.result = search rules in
    leaves_itself g.S.Store c.prepare.new.self g.met.S.Store.settled g.met.S.Store.stays same.0.is_open (c.is_autocommit-2.ensures.settled auto same.0.is_open)
