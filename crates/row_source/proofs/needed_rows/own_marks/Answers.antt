use Rattle.std.proofs.Common.{◌≡◌, Err, rules}
use Rattle.row_source.proofs.SourceLookUpLemmas.{holds_after, holds_both, holds_so}
use Rattle.row_source.proofs.needed_rows.own_marks.Goals as goal

pub returns-in_err-presences : goal.returns-in_err-presences
returns-in_err-presences g c =
    let w = g.met.R.RowSource in
    let is : c.from_residual-in_err-presences.result ≡ Err c.in_err-presences.field-0.0 = search rules in
    holds_after _ _ _ _ _ w.still_shows w.was_trusted w.keeps_then w.leaves_then _ _ _ c.in_ok-row.row c.in_err-presences.field-0.0 _ _ _ _ is
    c.in_ok-row.ensures c.in_err-presences.ensures

pub returns-in_err-demands : goal.returns-in_err-demands
returns-in_err-demands g c =
    let w = g.met.R.RowSource in
    let is : c.from_residual-in_err-demands.result ≡ Err c.in_err-demands.field-0.0 = search rules in
    holds_after _ _ _ _ _ w.still_shows w.was_trusted w.keeps_then w.leaves_then _ _ _ c.in_ok-presences.presences c.in_err-demands.field-0.0 _ _ _ _ is
    (holds_both _ _ _ _ _ w.still_shows w.was_trusted w.keeps_then w.leaves_then _ _ _ c.in_ok-row.row c.in_ok-presences.presences _ _ c.in_ok-row.ensures c.in_ok-presences.ensures) c.in_err-demands.ensures

pub returns : goal.returns
returns g c =
    let w = g.met.R.RowSource in
    holds_so _ _ _ _ _ _ _ c.in_ok-demands.demands _ _ _ (holds_both _ _ _ _ _ w.still_shows w.was_trusted w.keeps_then w.leaves_then _ _ _ c.in_ok-presences.presences c.in_ok-demands.demands _ _ (holds_both _ _ _ _ _ w.still_shows w.was_trusted w.keeps_then w.leaves_then _ _ _ c.in_ok-row.row c.in_ok-presences.presences _ _ c.in_ok-row.ensures c.in_ok-presences.ensures) c.in_ok-demands.ensures)
    (λ found p i. record { row = p.0.0 i; presences = p.0.1 i; demands = p.1 i })
