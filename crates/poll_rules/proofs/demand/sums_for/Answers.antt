use Rattle.std.proofs.Common.{◌≡◌, ℕ, Bool, List, subst, ap, sym, ◌∙◌}
use Rattle.std.specs.Prelude.{IfOk}
use Rattle.poll_rules.specs.Acting.{is_one_of, some_may_act}
use Rattle.poll_rules.specs.DemandSums.{sums_by}
use Rattle.poll_rules.specs.Demands.{shares_demanding}
use Rattle.poll_rules.specs.GatheredItems.{are_in}
use Rattle.poll_rules.specs.declared.demand.Sums.{Sums}
use Rattle.poll_rules.proofs.demand.sums_for.Goals as goal

pub sums_over-requires-clause-members : goal.sums_over-requires-clause-members
sums_over-requires-clause-members c = λ member.
    let papers = c.args.papers.now in
    c.in_ok-members.ensures member
    ∙ ap (λ test. some_may_act test papers.appointments.now papers.authorities.now member) (λ k (person : List ℕ). sym (c.in_ok-demanders.ensures person) k)

pub returns : goal.returns
returns c =
    let papers = c.args.papers.now in
    let Q : (List ℕ → Bool) → Type 0 = λ demanded. IfOk c.sums_over.result (λ (sums : Sums). sums ≡ sums_by (shares_demanding demanded c.args.cutoffs.now papers.appointments.now papers.endings.now papers.authorities.now) papers.register.now) in
    let same : ◌≡◌ {A = List ℕ → Bool} (is_one_of c.in_ok-demanders.demanders) (are_in c.args.persons.now) = λ k person. c.in_ok-demanders.ensures person k in
    subst Q same c.sums_over.ensures
