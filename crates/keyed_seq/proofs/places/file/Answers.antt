use Rattle.std.proofs.Common.{◌≡◌, ◌++◌, ◌∷◌, [], ap, ◌∙◌, arith}
use Rattle.keyed_seq.specs.Positions.{places_at}
use Rattle.keyed_seq.proofs.StoredPlaces.{places_in, places_in-or_default, places_in-added}
use Rattle.keyed_seq.proofs.places.file.Goals as goal

pub returns-clause-ok : goal.returns-clause-ok
returns-clause-ok g c = λ other.
    let eq = g.K.PartialEq.eq in
    let filed = c.args.filed.now in
    let added : c.push.new.self.items ≡ places_at eq filed c.args.key ++ c.args.place ∷ [] =
    c.in_ok-push.ensures.items
    ∙ ap (λ places. places ++ c.args.place ∷ []) (places_in-or_default _ c.or_default.result.now c.or_default.ensures.value ∙ ap places_in c.in_ok-filed.ensures.value) in
    let update = c.in_ok-filed.ensures.update.0 c.push.new.self in
    let put = places_in-added g.met.K.Eq.laws filed _ c.args.key other c.args.place c.push.new.self (update.0 other) added in
    grind (arith, put)
