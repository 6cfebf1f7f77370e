use Rattle.std.proofs.Common.{ℕ, take, subst, sym, ap, ◌∙◌}
use Rattle.poll_rules.specs.Acting.{is_one_of}
use Rattle.poll_rules.specs.DemandSums.{FitsRow, sums_by, with_row}
use Rattle.poll_rules.specs.Demands.{shares_demanding}
use Rattle.poll_rules.specs.declared.demand.Sums.{Sums}
use Rattle.poll_rules.proofs.PollDemandLemmas.{demanding-le, sums_fit, sums-more}
use Rattle.poll_rules.proofs.demand.sums_over.Goals as goal

pub add_row-requires : goal.add_row-requires
add_row-requires c =
    let demanded = is_one_of c.args.demanders.now in
    let papers = c.args.papers.now in
    let f = shares_demanding demanded c.args.cutoffs.now papers.appointments.now papers.endings.now papers.authorities.now in
    let row = c.row-item.result in
    let i = c.loop-row.row-index in
    let fits = sums_fit f (demanding-le demanded c.args.cutoffs.now papers.appointments.now papers.endings.now papers.authorities.now) papers.register.now i row c.requires.rows c.loop-row-test.true c.row-item.is in
    let P : Sums → Type 0 = λ s. FitsRow s row c.in_ok-demanding.demanding in
    let Q : ℕ → Type 0 = λ n. FitsRow (sums_by f (take i papers.register.now)) row n in
    subst P (sym c.loop-row.invariant) (subst Q (sym c.in_ok-demanding.ensures) fits)

pub loop-row-preserved : goal.loop-row-preserved
loop-row-preserved c =
    let papers = c.args.papers.now in
    let f = shares_demanding (is_one_of c.args.demanders.now) c.args.cutoffs.now papers.appointments.now papers.endings.now papers.authorities.now in
    let row = c.row-item.result in
    c.add_row.ensures
    ∙ ap (λ s. with_row s row c.in_ok-demanding.demanding) c.loop-row.invariant
    ∙ ap (with_row (sums_by f (take c.loop-row.row-index papers.register.now)) row) c.in_ok-demanding.ensures
    ∙ sums-more f papers.register.now c.loop-row.row-index row c.loop-row-test.true c.row-item.is
