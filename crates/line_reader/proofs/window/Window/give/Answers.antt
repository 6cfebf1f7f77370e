use Rattle.std.proofs.Common.{◌+◌, ◌≤◌, arith, length-take, length-drop}
use Rattle.line_reader.proofs.LineParts.{part-given}
use Rattle.line_reader.proofs.window.Window.give.Goals as goal

pub returns-clause-pending : goal.returns-clause-pending
returns-clause-pending c =
    let held = rw (← c.self.view_is) at c.requires.given in
    let within : c.self.inside.start + c.args.given ≤ c.self.inside.end = omega (arith, simp (length-take, length-drop) at held) in
    rw (← c.self.view_is) (part-given c.self.inside.buffer c.self.inside.start c.self.inside.end c.args.given within)
