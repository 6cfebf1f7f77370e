use Rattle.std.proofs.Common.{◌≡◌, Err, rules, ◌∙◌}
use Rattle.row_source.proofs.SourceRowLemmas.{given_are}
use Rattle.row_source.proofs.SourceLookUpLemmas.{holds_after, holds_both, holds_so}
use Rattle.row_source.proofs.needed_rows.given_alone.Goals as goal

pub returns-in_err-ended : goal.returns-in_err-ended
returns-in_err-ended g c =
    let w = g.met.R.RowSource in
    let is : c.from_residual-in_err-ended.result ≡ Err c.in_err-ended.field-0.0 = search rules in
    holds_after _ _ _ _ _ w.still_shows w.was_trusted w.keeps_then w.leaves_then _ _ _ c.in_ok-given.given c.in_err-ended.field-0.0 _ _ _ _ is
    c.in_ok-given.ensures c.in_err-ended.ensures

pub returns : goal.returns
returns g c =
    let w = g.met.R.RowSource in
    holds_so _ _ _ _ _ _ _ c.in_ok-ended.ended _ _ _ (holds_both _ _ _ _ _ w.still_shows w.was_trusted w.keeps_then w.leaves_then _ _ _ c.in_ok-given.given c.in_ok-ended.ended _ _ c.in_ok-given.ensures c.in_ok-ended.ensures)
    (λ found p. (λ i. record (c.no_own_rows.ensures i) { given = p.0 i; ended = p.1 i }) ∙ given_are found c.args.party)
