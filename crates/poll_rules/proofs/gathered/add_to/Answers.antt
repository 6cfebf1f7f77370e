use Rattle.std.proofs.Common.{◌≡◌, ◌++◌, ◌∷◌, [], ap, ◌∙◌, arith}
use Rattle.std.specs.BTreeMap.{get}
use Rattle.vocabulary.specs.Names.{name_cmp}
use Rattle.poll_rules.proofs.GatherLemmas.{items_in, items_in-or_default, items_in-added}
use Rattle.poll_rules.proofs.gathered.add_to.Goals as goal

pub returns : goal.returns
returns g c = λ other.
    let before = get name_cmp c.args.groups.now in
    let added : c.push.new.self.items ≡ items_in (before c.args.party) ++ c.args.value ∷ [] =
    c.in_ok-push.ensures.items
    ∙ ap (λ items. items ++ c.args.value ∷ []) (items_in-or_default _ c.or_default.result.now c.or_default.ensures.value ∙ ap items_in c.in_ok-groups.ensures.value) in
    let update = c.in_ok-groups.ensures.update.0 c.push.new.self in
    let put = items_in-added before _ c.args.party other c.args.value c.push.new.self (update.0 other) added in
    grind (arith, put)
