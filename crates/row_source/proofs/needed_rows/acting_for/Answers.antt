use Rattle.std.proofs.Common.{◌≡◌, Err, rules}
use Rattle.row_source.proofs.SourceLookUpLemmas.{holds_after, holds_both, holds_so}
use Rattle.row_source.proofs.needed_rows.acting_for.Goals as goal

pub returns-in_err-authorised : goal.returns-in_err-authorised
returns-in_err-authorised g c =
    let w = g.met.R.RowSource in
    let is : c.from_residual-in_err-authorised.result ≡ Err c.in_err-authorised.field-0.0 = search rules in
    holds_after _ _ _ _ _ w.still_shows w.was_trusted w.keeps_then w.leaves_then _ _ _ c.in_ok-named.named c.in_err-authorised.field-0.0 _ _ _ _ is
    c.in_ok-named.ensures c.in_err-authorised.ensures

pub returns : goal.returns
returns g c =
    let w = g.met.R.RowSource in
    holds_so _ _ _ _ _ _ _ c.in_ok-authorised.authorised _ _ _ (holds_both _ _ _ _ _ w.still_shows w.was_trusted w.keeps_then w.leaves_then _ _ _ c.in_ok-named.named c.in_ok-authorised.authorised _ _ c.in_ok-named.ensures c.in_ok-authorised.ensures)
    (λ found p i. record { received = (p.0 i).received; members = (p.0 i).members; authorised = p.1 i })
