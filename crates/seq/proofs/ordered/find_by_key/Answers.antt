use Rattle.std.proofs.Common.{rules, sym}
use Rattle.std.proofs.lemmas.List.Sorted.{answers_always}
use Rattle.seq.proofs.Finding.{find-at, find-absent}
use Rattle.seq.proofs.ordered.find_by_key.Goals as goal

pub returns-in-Ok : goal.returns-in-Ok
returns-in-Ok g c =
    let key = g.T.Keyed.key_of in
    let ended = c.in-Ok.ensures.position key (answers_always _ _ _ (λ f a r next called. search rules)) in
    sym (find-at g.met.T.Key.Ord.total key c.args.values.now c.args.key.now c.in-Ok.place c.index-values-place.result c.requires c.in-Ok.ensures.bound c.index-values-place.is ended)

pub returns-in-Err : goal.returns-in-Err
returns-in-Err g c =
    let key = g.T.Keyed.key_of in
    let ended = c.in-Err.ensures.position key (answers_always _ _ _ (λ f a r next called. search rules)) in
    sym (find-absent g.met.T.Key.Ord.total key c.args.values.now c.args.key.now c.in-Err.field-0 c.requires ended)
