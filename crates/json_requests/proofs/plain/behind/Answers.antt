use Rattle.std.proofs.Common.{◌≡◌, ◌<◌, get_or, length, sym, ap, ◌∙◌, arith, rules}
use Rattle.std.proofs.lemmas.Str.{IsCharBoundary-after_ascii}
use Rattle.json_requests.proofs.plain.behind.Goals as goal

pub range_from-requires : goal.range_from-requires
range_from-requires c some =
    let text = c.args.text.now in
    let same = c.as_bytes-bytes.ensures.value in
    let first : get_or text 0 0 ≡ c.args.byte = ap (λ xs. get_or xs 0 0) (sym same) ∙ c.if-bytes-byte.false in
    let long : 0 < length text = search rules in
    IsCharBoundary-after_ascii text 0 c.utf8.text long (omega (arith, first, c.requires))
