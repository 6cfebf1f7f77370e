use Rattle.std.proofs.Common.{◌≡◌, ℕ, ◌+◌, ◌<◌, ◌≤◌, Bool, List, Some, None, true, length, get_or, cond, ap, sym, subst, refl, ◌∙◌, arith}
use Rattle.std.specs.Prelude.{Option, find, slice_get}
use Rattle.std.specs.FinSet as set
use Rattle.std.proofs.lemmas.Bool.{lt-ltb, ltb-true}
use Rattle.std.proofs.lemmas.Option.{slice_get_read}
use Rattle.share_blocks.specs.declared.linked.Node.{Node}
use Rattle.share_blocks.specs.LinkedPieces.{LinksGoBack, is_among_first, tags_by, tags_of_nodes}
use Rattle.share_blocks.proofs.NodeLemmas.{find-down}
use Rattle.share_blocks.proofs.linked.first_admitted.Invariants.{height}
use Rattle.share_blocks.proofs.linked.first_admitted.Goals as goal

inside : (count index : ℕ) (next : Option ℕ) → next ≡ Some index → is_among_first count next ≡ true → index < count
inside count index next is low = ltb-true index count (ap (is_among_first count) (sym is) ∙ low)

later : (m n : ℕ) (node : Option ℕ) → m ≤ n → is_among_first m node ≡ true → is_among_first n node ≡ true
later m n None less low = refl
later m n (Some index) less low = lt-ltb index n (omega (arith, less, ltb-true index m low))

lower : (index : ℕ) (older : Option ℕ) → is_among_first index older ≡ true → height older < index + 1
lower index None low = omega arith
lower index (Some i) low = omega (arith, ltb-true i index low)

module _ (nodes : List Node) (back : LinksGoBack nodes) (next : Option ℕ) (index : ℕ) (node : Node) (is : next ≡ Some index) (low : is_among_first (length nodes) next ≡ true) (at : node ≡ get_or nodes index node) where
  read : slice_get nodes index ≡ Some node
  read = slice_get_read nodes (length nodes) index node refl (inside (length nodes) index next is low) at

  -- what a node came over is lower than it
  below : height node.older < height next
  below = subst (λ o. height node.older < height o) (sym is) (lower index node.older (back index node read))

  among : is_among_first (length nodes) node.older ≡ true
  among = later index (length nodes) node.older (omega (arith, inside (length nodes) index next is low)) (back index node read)

  -- it has the first admitted tag, or those below have it
  found : (test : ℕ → Bool) (has : Bool) → has ≡ test node.tag
      → find test (tags_by (tags_of_nodes nodes) next) ≡ cond has (Some node.tag) (find test (tags_by (tags_of_nodes nodes) node.older))
  found test has same =
      ap (λ o. find test (tags_by (tags_of_nodes nodes) o)) is
      ∙ find-down test nodes index node back read
      ∙ ap (λ b. cond b (Some node.tag) (find test (tags_by (tags_of_nodes nodes) node.older))) (sym same)

pub returns-then-has : goal.returns-then-has
returns-then-has c =
    sym (sym c.loop-next.invariant.tags
    ∙ found c.args.nodes.now c.requires.back c.loop-next.next c.in-Some.index c.index-nodes-index.result c.in-Some.is c.loop-next.invariant.node c.index-nodes-index.is (set.contains c.args.admitted.now) c.has.result c.has.ensures
    ∙ ap (λ b. cond b (Some c.index-nodes-index.result.tag) (find (set.contains c.args.admitted.now) (tags_by (tags_of_nodes c.args.nodes.now) c.index-nodes-index.result.older))) c.if-has.true)

pub loop-next-smaller : goal.loop-next-smaller
loop-next-smaller c = below c.args.nodes.now c.requires.back c.loop-next.next c.in-Some.index c.index-nodes-index.result c.in-Some.is c.loop-next.invariant.node c.index-nodes-index.is

pub loop-next-preserved : goal.loop-next-preserved
loop-next-preserved c =
    record {
      node = among c.args.nodes.now c.requires.back c.loop-next.next c.in-Some.index c.index-nodes-index.result c.in-Some.is c.loop-next.invariant.node c.index-nodes-index.is;
      tags =
          sym (sym c.loop-next.invariant.tags
          ∙ found c.args.nodes.now c.requires.back c.loop-next.next c.in-Some.index c.index-nodes-index.result c.in-Some.is c.loop-next.invariant.node c.index-nodes-index.is (set.contains c.args.admitted.now) c.has.result c.has.ensures
          ∙ ap (λ b. cond b (Some c.index-nodes-index.result.tag) (find (set.contains c.args.admitted.now) (tags_by (tags_of_nodes c.args.nodes.now) c.index-nodes-index.result.older))) c.if-has.false);
    }
