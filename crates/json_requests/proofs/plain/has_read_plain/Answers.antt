use Rattle.std.proofs.Common.{[], ◌∷◌, sym, ◌∙◌}
use Rattle.std.proofs.lemmas.Slice.Eq.{bytes_eq-Decides}
use Rattle.json_requests.proofs.PlainLemmas.{plain-read}
use Rattle.json_requests.proofs.plain.has_read_plain.Goals as goal

pub returns-in-Some-members_front : goal.returns-in-Some-members_front
returns-in-Some-members_front c is =
    let rest = c.in-Some-members_front.rest.now in
    plain-read c.args.names.now _ c.args.text.now c.in-Some.members.now rest c.in-Some.ensures c.in-Some-members_front.ensures ((bytes_eq-Decides rest (125 ∷ [])).0 (sym c.eq.ensures ∙ is))
