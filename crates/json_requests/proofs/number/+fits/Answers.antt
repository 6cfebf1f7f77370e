use Rattle.std.proofs.Common.{◌≡◌, ◌+◌, ◌<◌, ◌∷◌, length, drop, true, false, sym, ap, ◌∙◌, subst, arith, rules}
use Rattle.std.specs.Prelude.{◌&&◌}
use Rattle.std.proofs.lemmas.List.{drop_more}
use Rattle.json.specs.Tree.{json_tokens, items_tokens, members_tokens}
use Rattle.json.specs.Value.{value_view, items_view, members_view}
use Rattle.json.proofs.Trees.{item_smaller, member_smaller}
use Rattle.json_requests.specs.BodyValues.{fits, items_fit, members_fit}
use Rattle.json_requests.proofs.number.+fits.Goals as goal

pub items_fit-fits-requires : goal.items_fit-fits-requires
items_fit-fits-requires t c =
    let xs = c.deref-item-items.result.now in
    let x = c.item-item.result in
    let smaller : length (json_tokens (value_view x)) < length (items_tokens (items_view c.args.items.now.items)) =
    subst (λ ys. length (json_tokens (value_view x)) < length (items_tokens (items_view ys))) c.deref-item-items.ensures.value
    (subst (λ y. length (json_tokens (value_view y)) < length (items_tokens (items_view xs))) (sym c.item-item.is) (item_smaller xs c.loop-item.item-index x (omega arith))) in
    search rules

pub items_fit-returns-then-not-fits : goal.items_fit-returns-then-not-fits
items_fit-returns-then-not-fits t c =
    let l = c.loop-item in
    let xs = c.deref-item-items.result.now in
    let x = c.item-item.result in
    let here : drop l.item-index xs ≡ x ∷ drop (l.item-index + 1) xs = drop_more xs l.item-index x (omega arith) ∙ ap (λ y. y ∷ drop (l.item-index + 1) xs) (sym c.item-item.is) in
    let no : fits (value_view x) ≡ false = grind arith in
    sym (ap (λ ys. items_fit (items_view ys)) (sym c.deref-item-items.ensures.value) ∙ l.invariant ∙ ap (λ ys. items_fit (items_view ys)) here ∙ ap (λ b. b && items_fit (items_view (drop (l.item-index + 1) xs))) no)

pub items_fit-loop-item-preserved : goal.items_fit-loop-item-preserved
items_fit-loop-item-preserved t c =
    let l = c.loop-item in
    let xs = c.deref-item-items.result.now in
    let x = c.item-item.result in
    let here : drop l.item-index xs ≡ x ∷ drop (l.item-index + 1) xs = drop_more xs l.item-index x (omega arith) ∙ ap (λ y. y ∷ drop (l.item-index + 1) xs) (sym c.item-item.is) in
    let yes : fits (value_view x) ≡ true = grind arith in
    l.invariant ∙ ap (λ ys. items_fit (items_view ys)) here ∙ ap (λ b. b && items_fit (items_view (drop (l.item-index + 1) xs))) yes

pub members_fit-fits-requires : goal.members_fit-fits-requires
members_fit-fits-requires t c =
    let xs = c.deref-member-items.result.now in
    let x = c.member-item.result in
    let smaller : length (json_tokens (value_view x.1)) < length (members_tokens (members_view c.args.members.now.items)) =
    subst (λ ys. length (json_tokens (value_view x.1)) < length (members_tokens (members_view ys))) c.deref-member-items.ensures.value
    (subst (λ y. length (json_tokens (value_view y.1)) < length (members_tokens (members_view xs))) (sym c.member-item.is) (member_smaller xs c.loop-member.member-index x (omega arith))) in
    search rules

pub members_fit-returns-then-not-fits : goal.members_fit-returns-then-not-fits
members_fit-returns-then-not-fits t c =
    let l = c.loop-member in
    let xs = c.deref-member-items.result.now in
    let x = c.member-item.result in
    let here : drop l.member-index xs ≡ x ∷ drop (l.member-index + 1) xs = drop_more xs l.member-index x (omega arith) ∙ ap (λ y. y ∷ drop (l.member-index + 1) xs) (sym c.member-item.is) in
    let no : fits (value_view x.1) ≡ false = grind arith in
    sym (ap (λ ys. members_fit (members_view ys)) (sym c.deref-member-items.ensures.value) ∙ l.invariant ∙ ap (λ ys. members_fit (members_view ys)) here ∙ ap (λ b. b && members_fit (members_view (drop (l.member-index + 1) xs))) no)

pub members_fit-loop-member-preserved : goal.members_fit-loop-member-preserved
members_fit-loop-member-preserved t c =
    let l = c.loop-member in
    let xs = c.deref-member-items.result.now in
    let x = c.member-item.result in
    let here : drop l.member-index xs ≡ x ∷ drop (l.member-index + 1) xs = drop_more xs l.member-index x (omega arith) ∙ ap (λ y. y ∷ drop (l.member-index + 1) xs) (sym c.member-item.is) in
    let yes : fits (value_view x.1) ≡ true = grind arith in
    l.invariant ∙ ap (λ ys. members_fit (members_view ys)) here ∙ ap (λ b. b && members_fit (members_view (drop (l.member-index + 1) xs))) yes
