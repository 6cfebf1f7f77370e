use Rattle.std.proofs.Common.{◌∙◌, ap, filter, rules}
use Rattle.std.proofs.lemmas.Fn.{filter_same}
use Rattle.proxy_rules.specs.Parties.{names}
use Rattle.sql_load_needed.proofs.look_ups.naming_among.Goals as goal

pub returns : goal.returns
returns c =
    let test = names c.args.party in
    c.from_vec.ensures ∙ filter_same _ test _ (λ x b f' k. search rules) _ _ c.retain.ensures.filtered ∙ ap (filter test) c.into_vec-found.ensures
