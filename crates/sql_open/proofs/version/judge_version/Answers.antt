use Rattle.std.proofs.Common.{arith, ap, ◌∙◌}
use Rattle.sqlite.specs.Effect.{Database}
use Rattle.sqlite.specs.Held.{state}
use Rattle.sqlite.specs.State.{HasCleanDisk}
use Rattle.sql_open.proofs.CrashLemmas.{nothing_then}
use Rattle.sql_open.proofs.OpeningLemmas.{same_database}
use Rattle.sql_open.proofs.version.judge_version.Goals as goal

pub returns-clause-same : goal.returns-clause-same
returns-clause-same g c = λ clean is_open.
    let old = state g.S.Store c.args.conn.now in
    let asked = state g.S.Store c.ask_version.new.conn in
    let end = state g.S.Store c.ask_version-asked.new.conn in
    let early : HasCleanDisk asked = omega (arith, c.ask_version-asked.ensures.crash.clean, clean) in
    let asked_open = c.ask_version-asked.ensures.was_open clean is_open in
    let preserved = c.ask_version.ensures.asked.same early asked_open in
    let same = c.ask_version-asked.ensures.preserved clean asked_open is_open ∙ ap (λ (d : Database). d.trees) preserved.1 in
    (preserved.0, same_database old end same (c.schema.ensures.live preserved.0).0 (c.schema-2.ensures.live is_open).0)

pub returns-clause-crash : goal.returns-clause-crash
returns-clause-crash g c =
    nothing_then (state g.S.Store c.args.conn.now) (state g.S.Store c.ask_version.new.conn) (state g.S.Store c.ask_version-asked.new.conn) c.ask_version.ensures.asked.crash c.ask_version-asked.ensures.crash
