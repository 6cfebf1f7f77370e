use Rattle.std.proofs.Common.{◌==◌, ◌∙◌, ap, filter, rules}
use Rattle.std.proofs.lemmas.Fn.{filter_same}
use Rattle.desk_words.specs.declared.records.Poll.{Poll}
use Rattle.sql_load.proofs.public.polls_among.Goals as goal

pub returns : goal.returns
returns c =
    let test = λ (poll : Poll). poll.resolution == c.args.resolution in
    c.from_vec.ensures ∙ filter_same _ test _ (λ x b f' k. search rules) _ _ c.retain.ensures.filtered ∙ ap (filter test) c.into_vec-on.ensures
