use Rattle.std.proofs.Common.{◌∷◌, ◌++◌, sym, ap, ◌∙◌}
use Rattle.json_requests.proofs.PlainLemmas.{key-rest}
use Rattle.json_requests.proofs.plain.behind_key.Goals as goal

pub returns : goal.returns
returns c =
    let name = c.args.name.now in
    c.in_ok-inner.ensures ∙ ap (λ l. 34 ∷ l) (c.in_ok-rest.ensures ∙ ap (λ l. name ++ 34 ∷ l) c.in_ok-left.ensures) ∙ sym (key-rest name c.in_ok-left.left.now c.requires)
