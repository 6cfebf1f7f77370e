use Rattle.std.proofs.Common.{◌≡◌, Err, rules}
use Rattle.party_views.specs.declared.own_rows.OwnCasts.TheVariants.{Counted}
use Rattle.row_source.proofs.SourceLookUpLemmas.{holds_after, holds_both, holds_so}
use Rattle.row_source.proofs.needed_rows.for_proxy.Goals as goal

pub returns-in_err-count : goal.returns-in_err-count
returns-in_err-count g c =
    let w = g.met.R.RowSource in
    let is : c.from_residual-in_err-count.result ≡ Err c.in_err-count.field-0.0 = search rules in
    holds_after _ _ _ _ _ w.still_shows w.was_trusted w.keeps_then w.leaves_then _ _ _ c.in_ok-named.named c.in_err-count.field-0.0 _ _ _ _ is
    c.in_ok-named.ensures c.in_err-count.ensures

pub returns : goal.returns
returns g c =
    let w = g.met.R.RowSource in
    holds_so _ _ _ _ _ _ _ c.in_ok-count.count _ _ _ (holds_both _ _ _ _ _ w.still_shows w.was_trusted w.keeps_then w.leaves_then _ _ _ c.in_ok-named.named c.in_ok-count.count _ _ c.in_ok-named.ensures c.in_ok-count.ensures)
    (λ found p. (λ i. record (c.no_own_rows.ensures i) { received = (p.0 i).received; members = (p.0 i).members; casts = Counted c.args.new.now.resolution (p.1 i) }))
