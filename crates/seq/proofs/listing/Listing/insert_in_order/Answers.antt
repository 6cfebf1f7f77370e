use Rattle.std.proofs.Common.{ap, ◌∙◌}
use Rattle.std.proofs.lemmas.Result.{on_ok_weaker}
use Rattle.std.specs.List.{insert}
use Rattle.seq.specs.Ordered.{key_before}
use Rattle.seq.specs.Sorting.{place_by}
use Rattle.seq.proofs.Inserting.{insert-place_by}
use Rattle.seq.proofs.listing.Listing.insert_in_order.Goals as goal

pub returns-clause-ok : goal.returns-clause-ok
returns-clause-ok g c =
    let before = key_before g.T.Keyed.key_of g.T.Key.Ord.cmp in
    let place = c.place_for-place.ensures.place ∙ ap (place_by before c.args.value) c.as_slice.ensures in
    on_ok_weaker c.insert_at.result (λ ok. ok ∙ ap (λ i. insert c.args.self.now i c.args.value) place ∙ insert-place_by before c.args.value c.args.self.now) c.insert_at.ensures.ok
