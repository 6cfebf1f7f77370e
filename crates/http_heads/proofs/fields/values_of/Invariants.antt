use Rattle.std.proofs.Common.{map, take}
use Rattle.httparse.specs.Spans.{header_bytes}
use Rattle.http_heads.specs.Fields.{values_of}
use Rattle.http_heads.specs.FieldValues.{AreValues}
use Rattle.http_heads.proofs.fields.values_of.Given as goal

-- What was found are the values of the fields so far.
abbrev pub invariant-loop-field : goal.invariant-loop-field
invariant-loop-field l = AreValues l.found (values_of l.name (map (header_bytes l.bytes) (take l.field-index l.fields)))
