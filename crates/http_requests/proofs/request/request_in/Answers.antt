use Rattle.std.proofs.Common.{◌∙◌, sym}
use Rattle.http_requests.proofs.CameLemmas.{came-map, came-none}
use Rattle.http_requests.proofs.SpellLemmas.{asked-nowhere, asked-way, takes-nothing, takes-way}
use Rattle.http_requests.proofs.request.request_in.Goals as goal

pub returns-in_err-way-clause-came : goal.returns-in_err-way-clause-came
returns-in_err-way-clause-came g c =
    let none = sym c.way_in.ensures.way ∙ c.in_err-way.was in
    came-none _ _ _ _ (λ bytes. asked-nowhere c.args.head.now.asked c.in_err-way.field-0.0 _ c.from_residual.result none c.from_residual.ensures.1) (takes-nothing _ _ _)

pub returns-clause-came : goal.returns-clause-came
returns-clause-came g c =
    let is = sym c.way_in.ensures.way ∙ c.in_ok-way.was in
    came-map (λ bytes content. asked-way c.args.head.now.asked c.in_ok-way.way c.args.head.now.rest _ bytes _ is c.rest.ensures content)
    (λ bytes content few. takes-way _ _ c.in_ok-way.way c.args.head.now.rest _ bytes _ _ is c.in_ok-way.ensures.bound c.rest.ensures content few)
    c.request_on.ensures.came
