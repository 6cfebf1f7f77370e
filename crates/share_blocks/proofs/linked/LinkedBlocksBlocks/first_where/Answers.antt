use Rattle.std.proofs.Common.{length, ap, sym, ◌∙◌, arith}
use Rattle.std.specs.Prelude.{find}
use Rattle.std.specs.FinSet as set
use Rattle.share_blocks.specs.LinkedPieces.{is_among_first, tags_by, tags_of_nodes}
use Rattle.share_blocks.specs.Pieces.{tags_at}
use Rattle.share_blocks.proofs.LinkLemmas.{newest-among, tags_at-linked, tags_at-past}
use Rattle.share_blocks.proofs.linked.LinkedBlocksBlocks.first_where.Goals as goal

pub first_admitted-requires-clause-node : goal.first_admitted-requires-clause-node
first_admitted-requires-clause-node c =
    ap (λ nodes. is_among_first (length nodes) c.newest_at-newest.result) c.as_slice.ensures.value
    ∙ ap (is_among_first (length c.self.inside.nodes.items)) c.newest_at-newest.ensures
    ∙ newest-among c.self.inside.newest.entries c.self.inside.nodes.items c.args.place c.self.invariant

pub returns-then-place-le-MOST_PLACES : goal.returns-then-place-le-MOST_PLACES
returns-then-place-le-MOST_PLACES c =
    let es = c.self.inside.newest.entries in
    let nodes = c.self.inside.nodes.items in
    let test = set.contains c.args.admitted.now in
    c.first_admitted.ensures
    ∙ ap (λ ns. find test (tags_by (tags_of_nodes ns) c.newest_at-newest.result)) c.as_slice.ensures.value
    ∙ ap (λ node. find test (tags_by (tags_of_nodes nodes) node)) c.newest_at-newest.ensures
    ∙ ap (find test) (sym (tags_at-linked es nodes c.self.invariant c.args.place c.if-place-le-MOST_PLACES.true) ∙ ap (λ ps. tags_at ps c.args.place) c.self.view_is)

pub returns-else-place-le-MOST_PLACES : goal.returns-else-place-le-MOST_PLACES
returns-else-place-le-MOST_PLACES c =
    let test = set.contains c.args.admitted.now in
    sym (ap (find test) (ap (λ ps. tags_at ps c.args.place) (sym c.self.view_is) ∙ tags_at-past c.self.inside.newest.entries c.self.inside.nodes.items c.self.invariant c.args.place (omega (arith, c.if-place-le-MOST_PLACES.false))))
