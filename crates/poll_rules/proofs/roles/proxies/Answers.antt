use Rattle.std.proofs.Common.{◌≡◌, ℕ, List, ap, ◌∙◌}
use Rattle.std.specs.List.{filter_map}
use Rattle.std.proofs.lemmas.Result.{IfOk-weaker}
use Rattle.poll_rules.specs.GatheredItems.{are_in}
use Rattle.poll_rules.specs.Roles.{is_proxy_in, proxy_of}
use Rattle.poll_rules.proofs.RoleLemmas.{proxies-shares}
use Rattle.poll_rules.proofs.roles.proxies.Goals as goal

pub returns : goal.returns
returns c =
    let cutoffs = c.args.cutoffs.now in
    let holding = c.args.holding.now in
    IfOk-weaker c.proxies_of.result
    (λ persons. persons.items ≡ filter_map (proxy_of holding) c.as_slice.result.now)
    (λ persons. (person : List ℕ) → are_in persons.items person ≡ is_proxy_in cutoffs holding person)
    (λ persons are person.
    ap (λ names. are_in names person) (are ∙ ap (filter_map (proxy_of holding)) c.as_slice.ensures.value)
    ∙ proxies-shares person cutoffs holding c.in_ok-pieces.pieces.items c.in_ok-pieces.ensures)
    c.proxies_of.ensures
