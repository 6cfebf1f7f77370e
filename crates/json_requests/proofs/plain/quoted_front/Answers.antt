use Rattle.std.proofs.Common.{◌≡◌, ◌<◌, get_or, length, sym, ap, ◌∙◌, arith}
use Rattle.std.proofs.lemmas.Str.{IsCharBoundary-after_ascii}
use Rattle.json_requests.proofs.plain.quoted_front.Goals as goal

pub range_from-requires : goal.range_from-requires
range_from-requires c some =
    let text = c.args.text.now in
    let len = c.plain_len-len.result in
    let same = c.as_bytes-bytes.ensures.value in
    let mark : get_or text len 0 ≡ 34 = ap (λ xs. get_or xs len 0) (sym same) ∙ c.if-bytes-len-ne34.false in
    let long : len < length text = omega (arith, c.if-len-bytes.false, ap length same) in
    IsCharBoundary-after_ascii text len c.utf8.text long (omega (arith, mark))
