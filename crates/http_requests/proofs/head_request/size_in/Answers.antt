use Rattle.std.proofs.Common.{◌∙◌, sym}
use Rattle.http_requests.proofs.RequestBodyLemmas.{length-within}
use Rattle.http_requests.proofs.head_request.size_in.Goals as goal

pub returns-in-Bytes-clause-bound : goal.returns-in-Bytes-clause-bound
returns-in-Bytes-clause-bound c = length-within c.args.head.now.asked.fields c.in-Bytes.size (sym c.body_length.ensures ∙ c.in-Bytes.is)
