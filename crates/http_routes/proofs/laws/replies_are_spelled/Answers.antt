use Rattle.std.proofs.Common.{◌++◌, ap}
use Rattle.std.specs.Fmt.{digits}
use Rattle.http_routes.specs.ReplyTexts.{status_line, header_lines, phrase_of}
use Rattle.http_routes.proofs.laws.replies_are_spelled.Goals as goal

pub returns : goal.returns
unfolding phrase_of digits
returns c = λ body size. ap (λ n. status_line 200 ++ (header_lines n ++ body)) size
