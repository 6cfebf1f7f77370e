use Rattle.std.proofs.Common.{◌≡◌, [], ◌∷◌, map, length, refl, ap, sym, subst, ◌∙◌, arith}
use Rattle.std.specs.Map.{keys_of}
use Rattle.share_blocks.specs.LinkedPieces.{AreLinked, begun_between, linked_pieces, marks_of, split_before, split_after, pieces_by, tagged_at, tagged_each, tags_by, tags_of_nodes}
use Rattle.share_blocks.specs.Pieces.{covered}
use Rattle.share_blocks.proofs.BoundLemmas.{length-covered}
use Rattle.share_blocks.proofs.LinkLemmas.{begins_past, follow_from-linked, keys-between, linked-parted_off, pieces-covered, range_facts, rise_of}
use Rattle.share_blocks.proofs.linked.cover_pieces.Goals as goal

pub tag_piece-requires-clause-linked : goal.tag_piece-requires-clause-linked
tag_piece-requires-clause-linked c =
    let es = c.args.newest.now.entries in
    subst (λ newest. AreLinked newest c.reserve.new.self.items) (sym c.in_ok-part_off.ensures.ok)
    (subst (λ nodes. AreLinked (split_after c.args.range.to (split_before c.args.range.from es)) nodes) (sym c.reserve.ensures.items)
    (linked-parted_off es c.args.nodes.now.items c.args.range c.requires c.from.ensures.valid))

-- the pieces that begin past the first place
later : (c : goal.After-drop-later-2) → c.as_slice.result.now ≡ begins_past c.args.range c.args.newest.now.entries
later c =
    let es = c.args.newest.now.entries in
    c.as_slice.ensures.value
    ∙ c.in_ok-later.ensures
    ∙ ap (λ from. keys_of (begun_between from c.to.result es)) c.from.ensures.value
    ∙ ap (λ to. keys_of (begun_between c.args.range.from to es)) c.to.ensures.value
    ∙ keys-between c.args.range.from c.args.range.to es

marks : (c : goal.After-drop-later-2) → marks_of c.tag_pieces.new.newest.entries c.tag_pieces.new.nodes.items
    ≡ tagged_each c.args.tag (marks_of (split_after c.args.range.to (split_before c.args.range.from c.args.newest.now.entries)) c.args.nodes.now.items) (c.args.range.from ∷ begins_past c.args.range c.args.newest.now.entries)
marks c =
    let tag = c.args.tag in
    let cut = split_after c.args.range.to (split_before c.args.range.from c.args.newest.now.entries) in
    c.tag_pieces.ensures.marks
    ∙ ap (tagged_each tag (marks_of c.tag_piece.new.newest.entries c.tag_piece.new.nodes.items)) (later c)
    ∙ ap (λ ms. tagged_each tag ms (begins_past c.args.range c.args.newest.now.entries))
    (c.tag_piece.ensures.marks
    ∙ ap (λ from. map (tagged_at from tag) (marks_of c.part_off.new.newest.entries c.reserve.new.self.items)) c.from-2.ensures.value
    ∙ ap (λ newest. map (tagged_at c.args.range.from tag) (marks_of newest c.reserve.new.self.items)) c.in_ok-part_off.ensures.ok
    ∙ ap (λ nodes. map (tagged_at c.args.range.from tag) (marks_of cut nodes)) c.reserve.ensures.items)

whole : (c : goal.After-drop-later-2) → linked_pieces c.tag_pieces.new.newest.entries c.tag_pieces.new.nodes.items ≡ covered c.args.range c.args.tag (linked_pieces c.args.newest.now.entries c.args.nodes.now.items)
whole c =
    let es = c.args.newest.now.entries in
    let range = c.args.range in
    let r = range_facts range.from range.to c.from.ensures.valid in
    ap (pieces_by 1 []) (marks c)
    ∙ pieces-covered (tags_by (tags_of_nodes c.args.nodes.now.items)) refl range c.args.tag es (rise_of 0 (keys_of es) c.requires.0) r.low r.order r.high

pub returns-clause-ok : goal.returns-clause-ok
returns-clause-ok c = whole c

pub returns-clause-bound : goal.returns-clause-bound
returns-clause-bound c =
    let es = c.args.newest.now.entries in
    let nodes = c.args.nodes.now.items in
    omega (arith, ap length (whole c), length-covered c.args.range c.args.tag (linked_pieces es nodes) (follow_from-linked es nodes c.requires))
