use Rattle.std.proofs.Common.{◌≡◌, ◌≤◌, ◌∙◌, ap, sym, subst, [], length}
use Rattle.std.specs.Prelude.{unwrap_or}
use Rattle.http_routes.specs.ReplyTexts.{phrase_of}
use Rattle.http_routes.proofs.PhraseLemmas.{bytes_of-or, phrase_of-short}
use Rattle.http_routes.proofs.reply.phrase_of.Goals as goal

pub returns-clause-value : goal.returns-clause-value
unfolding phrase_of
returns-clause-value c =
    rw c.unwrap_or.ensures (bytes_of-or c.canonical_reason.result _ ∙ ap (λ o. unwrap_or o []) c.canonical_reason.ensures.value)

pub returns-clause-short : goal.returns-clause-short
returns-clause-short c =
    let value : c.unwrap_or.result.now ≡ phrase_of c.args.status = returns-clause-value c in
    subst (λ t. length t ≤ 31) (sym value) (phrase_of-short c.args.status)
