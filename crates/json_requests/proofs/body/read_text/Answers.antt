use Rattle.std.proofs.Common.{sym, ap, ◌∙◌}
use Rattle.json_requests.specs.MemberFields.{object_read, texts}
use Rattle.json_requests.proofs.FieldLemmas.{stopped}
use Rattle.json_requests.proofs.TextFieldLemmas.{text-ended, text-more, text-none}
use Rattle.json_requests.proofs.body.read_text.Goals as goal

pub returns-in_err-read_object : goal.returns-in_err-read_object
returns-in_err-read_object c =
    let names = texts c.args.names.now in
    let read = c.in_ok-reader in
    stopped _ c.in_err-read_object.field-0.0 (object_read names read.reader) _ c.from_residual-in_err-read_object.result c.in_err-read_object.ensures
    (λ none. text-none names c.args.text.now (ap (object_read names) (sym read.ensures.ok) ∙ none)) c.from_residual-in_err-read_object.ensures.1

pub returns-then-is_some : goal.returns-then-is_some
returns-then-is_some c =
    let names = texts c.args.names.now in
    let read = ap (object_read names) (sym c.in_ok-reader.ensures.ok) ∙ c.in_ok-read_object.ensures in
    text-more names c.args.text.now _ _ _ read c.next.result c.next.ensures.value (sym c.is_some.ensures ∙ c.if-is_some.true)

pub returns : goal.returns
returns c =
    let names = texts c.args.names.now in
    let read = ap (object_read names) (sym c.in_ok-reader.ensures.ok) ∙ c.in_ok-read_object.ensures in
    text-ended names c.args.text.now _ _ _ read c.next.result c.next.ensures.value (sym c.is_some.ensures ∙ c.if-is_some.false)
