use Rattle.std.proofs.Common.{◌≡◌, ap, subst, sym, ◌∙◌}
use Rattle.std.proofs.lemmas.Result.{IfOk-weaker}
use Rattle.proxy_rules.specs.declared.holdings.Holding.{Holding}
use Rattle.proxy_rules.specs.Governing.{governed_in}
use Rattle.proxy_rules.specs.Holdings.{IsValidHolding, claims_of, holding_of}
use Rattle.proxy_rules.proofs.ClaimLemmas.{claims_valid, governed_alike}
use Rattle.proxy_rules.proofs.ProxyValidLemmas.{valid_of}
use Rattle.proxy_rules.proofs.runs.governed.Goals as goal

pub governed_by-requires : goal.governed_by-requires
governed_by-requires c =
    let papers = c.args.papers.now in
    let holding = holding_of papers.register.now papers.appointments.now papers.endings.now c.args.member in
    subst (λ (h : Holding). IsValidHolding h) (sym (c.in_ok-of.ensures ∙ ap claims_of c.in_ok-holding.ensures))
    (claims_valid holding (valid_of papers.register.now papers.appointments.now papers.endings.now c.args.member c.requires.rows c.requires.numbered c.requires.tags))

pub returns : goal.returns
returns c =
    let papers = c.args.papers.now in
    let cutoffs = c.args.cutoffs.now in
    let holding = holding_of papers.register.now papers.appointments.now papers.endings.now c.args.member in
    IfOk-weaker c.governed_by.result _ (λ runs. runs.items ≡ governed_in cutoffs holding c.args.number)
    (λ runs same.
    same
    ∙ ap (λ (h : Holding). governed_in cutoffs h c.args.number) (c.in_ok-of.ensures ∙ ap claims_of c.in_ok-holding.ensures)
    ∙ governed_alike cutoffs holding c.args.number)
    c.governed_by.ensures
