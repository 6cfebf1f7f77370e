use Rattle.std.proofs.Common.{◌-◌, take, drop, arith, length-take, length-drop}
use Rattle.line_reader.proofs.LineParts.{part-arrived}
use Rattle.line_reader.proofs.window.Window.fill.Goals as goal

pub returns-clause-arrives : goal.returns-clause-arrives
returns-clause-arrives g c =
    let old = c.self.inside in let from = c.make_room.result.0 in let to = c.make_room.result.1 in let n = c.in_ok-count.count in
    let new = c.read_at.new.buffer in
    record {
      bytes = take n (drop to new);
      count = simp (length-take, length-drop) (omega (arith, c.in_ok-count.ensures.bound));
      behind = rw (← c.self.view_is) (part-arrived old.buffer c.make_room.new.buffer new old.start (old.end - old.start) from to n c.make_room.ensures.count c.make_room.ensures.bytes c.read_at.ensures.before);
      consumed = c.in_ok-count.ensures.bytes;
    }
