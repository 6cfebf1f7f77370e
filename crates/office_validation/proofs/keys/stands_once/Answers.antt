use Rattle.std.proofs.Common.{◌&&◌, ap, ◌∙◌}
use Rattle.std.specs.Prelude.{count_by, nat_le}
use Rattle.std.specs.Ordering.{is_eq}
use Rattle.office_validation.proofs.keys.stands_once.Goals as goal

pub returns : goal.returns
returns g c =
    ap (λ n. nat_le n 1)
    (c.times.ensures
    ∙ (λ i. count_by (λ other. is_eq (g.T.Mark.Ord.cmp (g.T.Marked.mark_of other) (c.mark.ensures i)) && is_eq (g.T.Key.Ord.cmp (g.T.FiledBy.first_key_of other) (c.first_key.ensures i))) c.args.items.now))
