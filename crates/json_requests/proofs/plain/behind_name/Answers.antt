use Rattle.std.proofs.Common.{◌≡◌, ◌<◌, get_or, length, take, sym, ap, ◌∙◌, arith}
use Rattle.std.proofs.lemmas.Str.{IsCharBoundary-after_ascii}
use Rattle.json_requests.proofs.PlainLemmas.{name-rest}
use Rattle.json_requests.proofs.plain.behind_name.Goals as goal

pub range_from-requires : goal.range_from-requires
range_from-requires c some =
    let text = c.args.text.now in
    let len = length c.args.name.now in
    let same = c.as_bytes-bytes.ensures.value in
    let mark : get_or text len 0 ≡ 34 = ap (λ xs. get_or xs len 0) (sym same) ∙ c.if-bytes-len-ne34.false in
    let long : len < length text = omega (arith, c.if-len-bytes.false, ap length same) in
    IsCharBoundary-after_ascii text len c.utf8.text long (omega (arith, mark))

pub returns-then-eq : goal.returns-then-eq
returns-then-eq c =
    let text = c.args.text.now in
    let name = c.args.name.now in
    let same = c.as_bytes-bytes.ensures.value in
    let mark : get_or text (length name) 0 ≡ 34 = ap (λ xs. get_or xs (length name) 0) (sym same) ∙ c.if-bytes-len-ne34.false in
    let long : length name < length text = omega (arith, c.if-len-bytes.false, ap length same) in
    name-rest text name c.range.result.now c.range_from.result.now long mark (c.range.ensures.value ∙ ap (λ k. take k text) (omega arith)) (sym c.eq.ensures ∙ c.if-eq.true) c.range_from.ensures.value
