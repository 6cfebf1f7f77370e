use Rattle.std.proofs.Common.{◌≡◌, arith, ap, sym, subst, ◌∙◌, inl, inr}
use Rattle.sqlite.specs.Effect.{Database}
use Rattle.sqlite.specs.Held.{state}
use Rattle.sqlite.specs.State.{HasCleanDisk}
use Rattle.sql_desk_tables.specs.Versions.{NotesVersion}
use Rattle.sql_open.specs.Opening.{ShowsLater}
use Rattle.sql_open.specs.WholeDesk.{IsWholeDesk}
use Rattle.sql_open.proofs.FaultLemmas.{cause_same}
use Rattle.sql_open.proofs.OpenedPreservedLemmas.{are_moved_same, made_same, opened_same, stands_as_opened, version_same, were_same}
use Rattle.sql_open.proofs.opening.open.Goals as goal

pub returns-in-Ok-open_stored-clause-stands : goal.returns-in-Ok-open_stored-clause-stands
returns-in-Ok-open_stored-clause-stands g c = λ clean known made version.
    let conn = state g.S.Store c.args.conn in
    let opened = state g.S.Store c.in-Ok.conn in
    let early : HasCleanDisk opened = omega (arith, c.open_stored.ensures.crash.clean, clean) in
    let same = c.in-Ok.ensures.same early in
    stands_as_opened g.S.Store c.args.conn c.in-Ok.conn same (state g.S.Store c.open_stored.new.conn) known
    (c.in-Ok-open_stored.ensures.stands clean known (made_same known conn opened (sym same) made) (version_same known conn opened (sym same) version))

pub returns-in-Ok-open_stored-clause-whole : goal.returns-in-Ok-open_stored-clause-whole
returns-in-Ok-open_stored-clause-whole g c = λ clean office whole.
    let early : HasCleanDisk (state g.S.Store c.in-Ok.conn) = omega (arith, c.open_stored.ensures.crash.clean, clean) in
    c.in-Ok-open_stored.ensures.whole clean office (subst (λ (d : Database). IsWholeDesk d.trees office) (sym (c.in-Ok.ensures.same early)) whole)

pub returns-in-Ok-open_stored-clause-known : goal.returns-in-Ok-open_stored-clause-known
returns-in-Ok-open_stored-clause-known g c = λ clean.
    let conn = state g.S.Store c.args.conn in
    let opened = state g.S.Store c.in-Ok.conn in
    let early : HasCleanDisk opened = omega (arith, c.open_stored.ensures.crash.clean, clean) in
    let same = c.in-Ok.ensures.same early in
    let it = c.in-Ok-open_stored.ensures.known clean in
    (it.0, were_same g.S.Store c.args.conn c.in-Ok.conn same it.0 it.1, opened_same it.0 opened conn (state g.S.Store c.open_stored.new.conn) same it.2)

pub returns-in-Err-open_stored-clause-cause : goal.returns-in-Err-open_stored-clause-cause
returns-in-Err-open_stored-clause-cause g c =
    let conn = state g.S.Store c.args.conn in
    let opened = state g.S.Store c.in-Ok.conn in
    let preserved = state g.S.Store c.open_stored.new.conn in
    let fault = c.in-Err-open_stored.fault in
    let same : HasCleanDisk preserved → opened.now ≡ conn.now = λ clean. c.in-Ok.ensures.same (omega (arith, c.open_stored.ensures.crash.clean, clean)) in
    let why = c.in-Err-open_stored.ensures.cause in
    record {
      cause = λ clean notes. cause_same fault opened conn (same clean) (why.cause clean (subst (λ (d : Database). NotesVersion d.schema) (sym (same clean)) notes));
      newer = λ clean e. subst (λ (d : Database). ShowsLater g.S.Store d) (same clean) (why.newer clean e);
      whole = λ clean office whole. why.whole clean office (subst (λ (d : Database). IsWholeDesk d.trees office) (sym (same clean)) whole);
    }

pub returns-in-Err-open_stored-clause-preserved : goal.returns-in-Err-open_stored-clause-preserved
returns-in-Err-open_stored-clause-preserved g c = λ clean is_open.
    let early : HasCleanDisk (state g.S.Store c.in-Ok.conn) = omega (arith, c.open_stored.ensures.crash.clean, clean) in
    c.in-Err-open_stored.ensures.preserved clean is_open ∙ ap (λ (d : Database). d.trees) (c.in-Ok.ensures.same early)

pub returns-in-Err-open_stored-clause-crash : goal.returns-in-Err-open_stored-clause-crash
returns-in-Err-open_stored-clause-crash g c = λ clean db may.
    let early : HasCleanDisk (state g.S.Store c.in-Ok.conn) = omega (arith, c.open_stored.ensures.crash.clean, clean) in
    elim (c.open_stored.ensures.crash.crash clean db may) [
      | inl was ↦ inl (c.in-Ok.ensures.found early db was)
      | inr moved ↦ inr (are_moved_same g.S.Store c.args.conn c.in-Ok.conn (c.in-Ok.ensures.same early) db moved)
    ]
