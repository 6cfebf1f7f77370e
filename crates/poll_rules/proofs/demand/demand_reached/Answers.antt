use Rattle.std.proofs.Common.{◌≡◌, ℕ, List, filter, map, ap, sym, ◌∙◌, arith}
use Rattle.desk_words.specs.declared.records.DemandMark.{DemandMark}
use Rattle.poll_rules.specs.DemandSums.{demand_from}
use Rattle.poll_rules.specs.Demands.{demand_by, has_demanded, is_demand_in, shares_demanding}
use Rattle.poll_rules.specs.GatheredItems.{are_in}
use Rattle.poll_rules.specs.declared.demand.Sums.{Sums}
use Rattle.poll_rules.proofs.PollDemandLemmas.{demanding-le, have_demanded, no_items, nobody_demanded, tenfold_shares, tenfold_paid}
use Rattle.poll_rules.proofs.demand.demand_reached.Goals as goal

pub is_enough-requires-clause-shares : goal.is_enough-requires-clause-shares
is_enough-requires-clause-shares c =
    let demanded = are_in c.as_slice-persons.result.now in
    let papers = c.args.papers.now in
    let f = shares_demanding demanded c.args.cutoffs.now papers.appointments.now papers.endings.now papers.authorities.now in
    let below = demanding-le demanded c.args.cutoffs.now papers.appointments.now papers.endings.now papers.authorities.now in
    omega (arith, ap (λ (s : Sums). s.shares) c.in_ok-sums.ensures, tenfold_shares f below papers.register.now c.requires.rows)

pub is_enough-requires-clause-paid : goal.is_enough-requires-clause-paid
is_enough-requires-clause-paid c =
    let demanded = are_in c.as_slice-persons.result.now in
    let papers = c.args.papers.now in
    let f = shares_demanding demanded c.args.cutoffs.now papers.appointments.now papers.endings.now papers.authorities.now in
    let below = demanding-le demanded c.args.cutoffs.now papers.appointments.now papers.endings.now papers.authorities.now in
    omega (arith, ap (λ (s : Sums). s.paid) c.in_ok-sums.ensures, tenfold_paid f below papers.register.now c.requires.rows)

pub returns-then-is_empty : goal.returns-then-is_empty
returns-then-is_empty c =
    let papers = c.args.papers.now in
    nobody_demanded c.args.cutoffs.now papers.register.now papers.appointments.now papers.endings.now papers.authorities.now papers.demands.now c.args.session c.args.resolution
    (ap (λ all. map (λ (d : DemandMark). d.party) (filter (is_demand_in c.args.session c.args.resolution) all)) (sym c.as_slice.ensures)
    ∙ sym (c.as_slice-persons.ensures.value ∙ c.in_ok-found.ensures)
    ∙ no_items c.as_slice-persons.result.now c.is_empty.result c.if-is_empty.true c.is_empty.ensures)

pub returns : goal.returns
returns c =
    let papers = c.args.papers.now in
    let s = c.in_ok-sums.sums in
    let made : (record { members = s.members; shares = s.shares; paid = s.paid; reached = c.is_enough.result }) ≡ demand_from s = λ k. record { members = s.members; shares = s.shares; paid = s.paid; reached = c.is_enough.ensures k } in
    made
    ∙ ap demand_from c.in_ok-sums.ensures
    ∙ ap (λ demanded. demand_by (shares_demanding demanded c.args.cutoffs.now papers.appointments.now papers.endings.now papers.authorities.now) papers.register.now) (λ k (person : List ℕ). (ap (λ persons. are_in persons person) (c.as_slice-persons.ensures.value ∙ c.in_ok-found.ensures)
    ∙ have_demanded c.as_slice.result.now c.args.session c.args.resolution person
    ∙ ap (λ all. has_demanded all c.args.session c.args.resolution person) c.as_slice.ensures) k)
