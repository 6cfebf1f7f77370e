use Rattle.std.proofs.Common.{◌≡◌, [], ◌∷◌, ◌++◌, Some, length, cond, ap, sym, subst, ◌∙◌, arith}
use Rattle.std.specs.BTreeMap.{is_at}
use Rattle.std.specs.Map.{set_value}
use Rattle.std.specs.Ordering.{nat_cmp}
use Rattle.share_blocks.specs.declared.linked.Node.{Node}
use Rattle.share_blocks.specs.LinkedPieces.{AreLinked, Newest, marks_of}
use Rattle.share_blocks.proofs.NodeLemmas.{linked-found, linked-newest, marks-newest, marks-none}
use Rattle.share_blocks.proofs.linked.tag_piece.Goals as goal

-- the new node
abbrev new : goal.After-newest-in-Some-1 → Node
new c = record { tag = c.args.tag; older = c.in-Some.node.now }

-- where the pieces begin then
abbrev then : goal.After-newest-in-Some-1 → Newest
then c = set_value (is_at (nat_cmp c.args.place)) c.args.newest.now.entries (Some (length c.args.nodes.now.items))

pushed : (c : goal.After-newest-in-Some-1) → c.push.new.self.items ≡ c.args.nodes.now.items ++ new c ∷ []
pushed c = c.push.ensures.items ∙ ap (λ b. cond b (c.args.nodes.now.items ++ new c ∷ []) c.args.nodes.now.items) (c.push.ensures.succeeds c.requires.room)

written : (c : goal.After-newest-in-Some-1) → (c.get_mut.follows.lender (Some c.len-index.result)).entries ≡ then c
written c =
    let index : c.len-index.result ≡ length c.args.nodes.now.items = omega (arith, c.len-index.ensures, c.args.nodes.now.ok.0) in
    (c.get_mut.follows.holds (Some c.len-index.result)).0 ∙ ap (λ i. set_value (is_at (nat_cmp c.args.place)) c.args.newest.now.entries (Some i)) index

pub returns-in-Some-clause-linked : goal.returns-in-Some-clause-linked
returns-in-Some-clause-linked c =
    let es = c.args.newest.now.entries in
    let nodes = c.args.nodes.now.items in
    subst (λ entries. AreLinked entries c.push.new.self.items) (sym (written c))
    (subst (λ ns. AreLinked (then c) ns) (sym (pushed c))
    (linked-newest es nodes (new c) c.args.place c.requires.linked (linked-found es nodes c.args.place c.in-Some.node.now c.requires.linked (sym c.in-Some.ensures.value))))

pub returns-in-Some-clause-marks : goal.returns-in-Some-clause-marks
returns-in-Some-clause-marks c =
    ap (λ entries. marks_of entries c.push.new.self.items) (written c)
    ∙ ap (λ ns. marks_of (then c) ns) (pushed c)
    ∙ marks-newest c.args.newest.now.entries c.args.nodes.now.items (new c) c.args.place c.requires.linked c.in-Some.ensures.ordered (sym c.in-Some.ensures.value)

pub returns-in_default-clause-marks : goal.returns-in_default-clause-marks
returns-in_default-clause-marks c =
    ap (λ m. marks_of m.entries c.args.nodes.now.items) c.get_mut.follows.holds-at-none
    ∙ marks-none c.args.newest.now.entries c.args.nodes.now.items c.args.place c.args.tag (sym c.in_default.ensures.value)
