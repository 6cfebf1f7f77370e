use Rattle.std.proofs.Common.{ℕ, List, ◌==◌, length, take, subst, ap, sym, ◌∙◌}
use Rattle.std.specs.Str.{IsUtf8}
use Rattle.json_requests.specs.Bodies.{fields_from}
use Rattle.json_requests.specs.MemberFields.{texts}
use Rattle.json_requests.specs.ParsedBodies.{BodyAgrees}
use Rattle.json_requests.proofs.FieldLemmas.{no_fields-seen, take-replicate}
use Rattle.json_requests.proofs.JsonBodyLemmas.{body_of-bytes, body_of-nothing, value_of-utf8}
use Rattle.json_requests.proofs.body.read_fields.Goals as goal

pub returns-then-is_empty : goal.returns-then-is_empty
returns-then-is_empty c =
    let nothing = body_of-nothing c.args.body.now (sym (c.is_empty.ensures ∙ ap (λ (bytes : List ℕ). length bytes == 0) c.as_bytes.ensures.value) ∙ c.if-is_empty.true) in
    ap (fields_from (texts c.args.names.now)) nothing ∙ no_fields-seen c.args.names.now _ (ap (take (length c.args.names.now)) c.requires.none ∙ take-replicate _ (length c.args.names.now) 6 c.requires.few)

pub returns-else-is_empty : goal.returns-else-is_empty
returns-else-is_empty c =
    let same = body_of-bytes c.args.body.now (sym (c.is_empty.ensures ∙ ap (λ (bytes : List ℕ). length bytes == 0) c.as_bytes.ensures.value) ∙ c.if-is_empty.false) ∙ value_of-utf8 c.args.body.now (subst IsUtf8 c.as_bytes.ensures.value c.as_bytes.ensures.utf8) in
    subst (BodyAgrees _ c.read_json_text.result) (ap (fields_from (texts c.args.names.now)) (sym same)) c.read_json_text.ensures
