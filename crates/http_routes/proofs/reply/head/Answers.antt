use Rattle.std.proofs.Common.{codes, decimal}
use Rattle.http.specs.StatusCode.{code_digits}
use Rattle.http_routes.specs.ReplyTexts.{phrase_of}
use Rattle.http_routes.proofs.PhraseLemmas.{joined}
use Rattle.http_routes.proofs.reply.head.Goals as goal

pub returns : goal.returns
returns c =
    rw (c.push_str-7.ensures.bytes, c.push_str-6.ensures.bytes, c.push_str-5.ensures.bytes, c.push_str-4.ensures.bytes, c.push_str-3.ensures.bytes, c.push_str-2.ensures.bytes, c.push_str.ensures.bytes, c.new-head.ensures)
    (rw (c.as_str.ensures, c.phrase_of.ensures.value, c.format.ensures.text)
    (joined (codes "HTTP/1.1 ") (code_digits c.args.status) (codes " ") (phrase_of c.args.status) (codes "\r\n") (codes "Content-Type: application/json\r\n") (codes "Content-Length: ") (decimal c.args.size) (codes "\r\nConnection: close\r\n\r\n")))
