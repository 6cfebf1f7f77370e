-- The parts of a line, as contracts see them. For private contracts.
use Rattle.std.specs.Prelude.{ℕ, List}
use Rattle.std.specs.Borrow.{Bor}
use Rattle.replay.specs.declared.line.Parts.{Parts as PartsOf}
use Rattle.replay.specs.ReplayLines.{Parts}

-- the four parts behind a line's moment
abbrev pub parts_view : PartsOf → Parts
parts_view p = record {
  caller = p.caller.now;
  meeting = p.meeting.now;
  verb = p.verb.now;
  body = p.body.now;
}

-- the bytes of a text
abbrev pub text_view : Bor (List ℕ) → List ℕ
text_view text = text.now
