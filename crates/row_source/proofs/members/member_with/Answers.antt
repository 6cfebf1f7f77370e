use Rattle.std.proofs.Common.{◌≡◌, Err, ap, rules, ◌∙◌}
use Rattle.proxy_rules.specs.declared.holdings.Holding.{Holding}
use Rattle.row_source.proofs.SourceLookUpLemmas.{holds_after, holds_both, holds_so}
use Rattle.row_source.proofs.members.member_with.Goals as goal

pub returns-in_err-ended : goal.returns-in_err-ended
returns-in_err-ended g c =
    let w = g.met.R.RowSource in
    let is : c.from_residual-in_err-ended.result ≡ Err c.in_err-ended.field-0.0 = search rules in
    holds_after _ _ _ _ _ w.still_shows w.was_trusted w.keeps_then w.leaves_then _ _ _ c.in_ok-shares.shares c.in_err-ended.field-0.0 _ _ _ _ is
    c.in_ok-shares.ensures c.in_err-ended.ensures

pub returns : goal.returns
returns g c =
    let w = g.met.R.RowSource in
    holds_so _ _ _ _ _ _ _ c.in_ok-ended.ended _ _ _ (holds_both _ _ _ _ _ w.still_shows w.was_trusted w.keeps_then w.leaves_then _ _ _ c.in_ok-shares.shares c.in_ok-ended.ended _ _ c.in_ok-shares.ensures c.in_ok-ended.ensures)
    (λ found p.
    ap (λ (h : Holding). record { member = c.args.member; holding = h }) c.new.ensures
    ∙ (λ i. record { member = c.args.member; holding = record { shares = p.0 i; appointed = c.args.claims; ended = p.1 i } }))
