use Rattle.std.proofs.Common.{refl}
use Rattle.sqlite.specs.Held.{state}
use Rattle.sql_open.proofs.WholeLemmas.{new_desk}
use Rattle.sql_open.proofs.creation.create.Goals as goal

pub returns-in-Ok-clause-made : goal.returns-in-Ok-clause-made
returns-in-Ok-clause-made g c = λ clean.
    let is_open = c.in-Ok.ensures.is_open clean in
    let made = c.in-Ok.ensures.made clean (c.if-not-has_nothing.ensures.nothing refl) in
    (made.0, made.1, λ db may. new_desk (state g.S.Store c.make_desk.new.conn) db made.0 made.1 (c.rests.ensures.live is_open).0 (((c.rests.ensures.settled is_open) db).0 may))
