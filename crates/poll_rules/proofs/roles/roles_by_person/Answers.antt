use Rattle.std.proofs.Common.{◌≡◌, ℕ, true, List, Vec, Global, ap, sym, ◌∙◌}
use Rattle.std.specs.BTreeMap.{BTreeMap}
use Rattle.std.specs.List.{flat_map}
use Rattle.std.proofs.lemmas.Result.{IfOk-weaker}
use Rattle.poll_rules.specs.Acting.{is_one_of, some_may_act}
use Rattle.poll_rules.specs.GatheredItems.{are_in, items_at}
use Rattle.poll_rules.specs.Roles.{roles_by}
use Rattle.poll_rules.specs.declared.roles.Role.{Role}
use Rattle.poll_rules.proofs.roles.roles_by_person.Goals as goal

pub roles_over-requires-clause-members : goal.roles_over-requires-clause-members
roles_over-requires-clause-members c = λ member.
    let papers = c.args.papers.now in
    c.in_ok-members.ensures member
    ∙ ap (λ test. some_may_act test papers.appointments.now papers.authorities.now member) (λ k (person : List ℕ). sym (c.in_ok-present.ensures person) k)

pub returns : goal.returns
returns c =
    let papers = c.args.papers.now in
    let all = λ (person : List ℕ). flat_map (roles_by c.args.cutoffs.now papers.appointments.now papers.endings.now papers.authorities.now person) papers.register.now in
    IfOk-weaker c.roles_over.result
    (λ (roles : BTreeMap (List ℕ) (Vec Role Global)). (person : List ℕ) → is_one_of c.in_ok-present.present person ≡ true → items_at roles person ≡ all person)
    (λ (roles : BTreeMap (List ℕ) (Vec Role Global)). (person : List ℕ) → are_in c.args.persons.now person ≡ true → items_at roles person ≡ all person)
    (λ roles are person there. are person (c.in_ok-present.ensures person ∙ there))
    c.roles_over.ensures
