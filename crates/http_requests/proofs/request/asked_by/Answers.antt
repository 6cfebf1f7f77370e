use Rattle.http_requests.proofs.SpellLemmas.{asked-whole, asked-short}
use Rattle.http_requests.proofs.request.asked_by.Goals as goal

pub returns-then-whole-clause-asked : goal.returns-then-whole-clause-asked
returns-then-whole-clause-asked c = λ behind is.
    let whole = rw c.if-whole.true at is in
    asked-whole c.args.route c.args.body.now behind c.asked.result whole c.asked.ensures.asked

pub returns-else-whole-clause-asked : goal.returns-else-whole-clause-asked
returns-else-whole-clause-asked c = λ behind is.
    let short = rw c.if-whole.false at is in
    asked-short c.args.route c.args.body.now behind short
