use Rattle.std.proofs.Common.{◌≡◌, Bool, Err, ap, sym, ◌∙◌}
use Rattle.party_views.specs.OwnViews.{holds_as_individual}
use Rattle.row_source.specs.declared.needed_rows.OwnMarks.{OwnMarks}
use Rattle.row_source.proofs.SourceRowLemmas.{standing_alone, standing_are}
use Rattle.row_source.proofs.SourceLookUpLemmas.{handed_on, holds_after, holds_both, holds_so}
use Rattle.row_source.proofs.needed_rows.standing_of.Goals as goal

abbrev individual : OwnMarks → Bool
individual own = holds_as_individual own.row

pub returns-then-holds_as_individual : goal.returns-then-holds_as_individual
returns-then-holds_as_individual g c =
    holds_so _ _ _ _ _ _ _ c.in_ok-row.field-0 _ _ _ c.in_ok-row.ensures
    (λ found p. (λ i. record (c.no_own_rows.ensures i) { row = (p i).row; presences = (p i).presences; demands = (p i).demands })
    ∙ standing_alone found c.args.party (sym (ap individual p) ∙ sym c.holds_as_individual.ensures ∙ c.if-holds_as_individual.true))

pub returns-in_err-received : goal.returns-in_err-received
returns-in_err-received g c =
    let w = g.met.R.RowSource in
    let is : c.from_residual-in_err-received.result ≡ Err c.in_err-received.field-0.0 = handed_on c.from_residual-in_err-received.result c.in_err-received.field-0.0 c.from_residual-in_err-received.ensures.1 in
    holds_after _ _ _ _ _ w.still_shows w.was_trusted w.keeps_then w.leaves_then _ _ _ c.in_ok-row.field-0 c.in_err-received.field-0.0 _ _ _ _ is
    c.in_ok-row.ensures c.in_err-received.ensures

pub returns : goal.returns
returns g c =
    let w = g.met.R.RowSource in
    holds_so _ _ _ _ _ _ _ c.in_ok-received.field-0 _ _ _ (holds_both _ _ _ _ _ w.still_shows w.was_trusted w.keeps_then w.leaves_then _ _ _ c.in_ok-row.field-0 c.in_ok-received.field-0 _ _ c.in_ok-row.ensures c.in_ok-received.ensures)
    (λ found p. (λ i. record (c.no_own_rows-2.ensures i) { received = (p.1 i).received; members = (p.1 i).members; authorised = (p.1 i).authorised; row = (p.0 i).row; presences = (p.0 i).presences; demands = (p.0 i).demands })
    ∙ standing_are found c.args.party (sym (ap individual p.0) ∙ sym c.holds_as_individual.ensures ∙ c.if-holds_as_individual.false))
