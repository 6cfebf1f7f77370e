use Rattle.std.proofs.Common.{◌≡◌, ℕ, true, List, Vec, Global, ap, subst, sym, ◌∙◌}
use Rattle.std.proofs.lemmas.Result.{IfOk-weaker}
use Rattle.proxy_rules.specs.Holdings.{IsValidHolding, holding_by}
use Rattle.proxy_rules.specs.declared.holdings.Holding.{Holding}
use Rattle.proxy_rules.proofs.ProxyValidLemmas.{valid_by}
use Rattle.poll_rules.specs.Acting.{is_one_of}
use Rattle.poll_rules.specs.GatheredItems.{are_in}
use Rattle.poll_rules.specs.Roles.{is_proxy_in}
use Rattle.poll_rules.proofs.ActingLemmas.{no_proxy}
use Rattle.poll_rules.proofs.roles.proxies_of_row.Goals as goal

pub returns-then-not-has_named_one : goal.returns-then-not-has_named_one
returns-then-not-has_named_one c = λ person right.
    let papers = c.args.papers.now in
    ap (λ persons. are_in persons person) c.new.ensures.items
    ∙ sym (no_proxy (is_one_of c.args.present.now) c.args.cutoffs.now papers.appointments.now papers.endings.now c.args.row.now person (sym c.has_named_one.ensures ∙ c.if-not-has_named_one.true) right)

pub proxies-requires : goal.proxies-requires
proxies-requires c =
    let papers = c.args.papers.now in
    subst (λ (h : Holding). IsValidHolding h) (sym c.in_ok-holding.ensures) (valid_by papers.appointments.now papers.endings.now c.args.row.now c.requires.numbered c.requires.tags c.requires.few)

pub returns : goal.returns
returns c =
    let papers = c.args.papers.now in
    let cutoffs = c.args.cutoffs.now in
    IfOk-weaker c.proxies.result
    (λ (persons : Vec (List ℕ) Global). (person : List ℕ) → are_in persons.items person ≡ is_proxy_in cutoffs c.in_ok-holding.holding person)
    (λ (persons : Vec (List ℕ) Global). (person : List ℕ) → is_one_of c.args.present.now person ≡ true → are_in persons.items person ≡ is_proxy_in cutoffs (holding_by papers.appointments.now papers.endings.now c.args.row.now) person)
    (λ persons are person right. are person ∙ ap (λ (h : Holding). is_proxy_in cutoffs h person) c.in_ok-holding.ensures)
    c.proxies.ensures
