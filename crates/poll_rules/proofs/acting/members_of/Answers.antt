use Rattle.std.proofs.Common.{List, ℕ, ap, sym, take, ◌∙◌}
use Rattle.std.specs.Prelude.{◌||◌}
use Rattle.std.specs.List.{list_any}
use Rattle.std.specs.BTreeMap.{is_at}
use Rattle.vocabulary.specs.Names.{name_cmp, same_name}
use Rattle.poll_rules.specs.Acting.{some_may_act}
use Rattle.poll_rules.specs.GatheredItems.{are_in}
use Rattle.poll_rules.proofs.ActingLemmas.{either_may_act, in-more, nobody_may_act}
use Rattle.poll_rules.proofs.acting.members_of.Goals as goal

pub loop-person-init : goal.loop-person-init
loop-person-init c = λ member.
    let papers = c.args.papers.now in
    ap (list_any (is_at (name_cmp member))) c.new-members.ensures.empty
    ∙ sym (nobody_may_act papers.appointments.now papers.authorities.now member)

pub loop-person-preserved : goal.loop-person-preserved
loop-person-preserved c = λ member.
    let papers = c.args.papers.now in
    let given = papers.appointments.now in
    let authorities = papers.authorities.now in
    let x = c.person-item.result in
    let persons = c.args.persons.now in
    let i = c.loop-person.person-index in
    c.in_ok-add_members.ensures member
    ∙ ap (λ b. b || some_may_act (same_name x) given authorities member) (c.loop-person.invariant member)
    ∙ sym (either_may_act (are_in (take i persons)) (same_name x) given authorities member)
    ∙ ap (λ test. some_may_act test given authorities member) (λ k (person : List ℕ). in-more persons i x person c.loop-person-test.true c.person-item.is k)
