use Rattle.std.proofs.Common.{◌∙◌, sym}
use Rattle.httparse.specs.Spans.{header_bytes}
use Rattle.http_heads.proofs.FieldLemmas.{values_of-named, values_of-other}
use Rattle.http_heads.proofs.fields.values_of.Goals as goal
use Rattle.http_heads.proofs.fields.values_of.Goals.{then-same_name, else-same_name}

pub loop-field-preserved : goal.loop-field-preserved
loop-field-preserved c =
    let hb = header_bytes c.args.bytes.now in
    let name = c.args.name.now in
    let fields = c.args.fields.now in
    let i = c.loop-field.field-index in
    let before = c.loop-field.invariant in
    elim c.if-same_name.branch [
      | then-same_name w ↦
          let named = rw c.of.ensures at (sym c.same_name.ensures ∙ w.if-same_name.true) in
          let value = w.of-then-same_name.ensures in
          rw (w.found-is, values_of-named name hb fields i _ c.loop-field-test.true named, ← value) (w.and-found.ensures _ before)
      | else-same_name w ↦
          let other = rw c.of.ensures at (sym c.same_name.ensures ∙ w.if-same_name.false) in
          rw (w.found-is, values_of-other name hb fields i _ c.loop-field-test.true other) before
    ]
