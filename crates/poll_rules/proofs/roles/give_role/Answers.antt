use Rattle.std.proofs.Common.{◌≡◌, true, cond, [], ◌∷◌, ◌++◌, ap, sym, ◌∙◌}
use Rattle.std.specs.Ordering.{is_lt}
use Rattle.std.proofs.lemmas.List.{append-nil, take_all}
use Rattle.seq.specs.Ordered.{ascends_by}
use Rattle.vocabulary.specs.Names.{same_name, name_cmp}
use Rattle.poll_rules.specs.Acting.{is_one_of}
use Rattle.poll_rules.specs.GatheredItems.{are_in, items_at}
use Rattle.poll_rules.specs.Roles.{role_if}
use Rattle.poll_rules.proofs.ActingLemmas.{among-passing}
use Rattle.poll_rules.proofs.RoleLemmas.{are_in-is_member, given-more}
use Rattle.poll_rules.proofs.roles.give_role.Goals as goal

pub loop-person-init : goal.loop-person-init
loop-person-init c = λ person. sym (append-nil (items_at c.args.roles.now person))

pub loop-person-preserved : goal.loop-person-preserved
loop-person-preserved c = λ person.
    let x = c.person-item.result in
    let items = c.deref-person-items.result.now in
    let up : ascends_by (λ a b. is_lt (name_cmp a b)) items ≡ true = ap (ascends_by (λ a b. is_lt (name_cmp a b))) c.deref-person-items.ensures.value ∙ c.in_order_once-each.ensures.ascending in
    c.in_ok-add_to.ensures person
    ∙ ap (λ roles. cond (same_name x person) (roles ++ record { capacity = c.args.capacity; member = c.args.member } ∷ []) roles) (c.loop-person.invariant person)
    ∙ given-more (items_at c.args.roles.now person) c.args.capacity c.args.member items c.loop-person.person-index x person up c.loop-person-test.true c.person-item.is

pub returns : goal.returns
returns c = λ person right.
    let items = c.deref-person-items.result.now in
    c.loop-person.invariant person
    ∙ ap (λ b. items_at c.args.roles.now person ++ role_if b c.args.capacity c.args.member)
    (ap (λ persons. are_in persons person) (take_all c.loop-person.person-index items c.loop-person-test.false ∙ c.deref-person-items.ensures.value)
    ∙ are_in-is_member c.in_order_once-each.result.items person
    ∙ c.in_order_once-each.ensures.same_members person
    ∙ sym (are_in-is_member c.present_among.result.items person)
    ∙ ap (λ persons. are_in persons person) c.present_among.ensures
    ∙ among-passing (is_one_of c.args.present.now) c.args.persons.items person right)
