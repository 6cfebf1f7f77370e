use Rattle.std.proofs.Common.{ap, sym, ◌∙◌}
use Rattle.std.specs.Prelude.{find, option_and_then}
use Rattle.share_blocks.specs.Pieces.{tags_at}
use Rattle.vote_rules.specs.VoteCovers.{way_tagged}
use Rattle.vote_rules.proofs.VoteListLemmas.{find-find_map}
use Rattle.vote_rules.proofs.covers.way_at.Goals as goal

pub returns-in-Some : goal.returns-in-Some
returns-in-Some g c =
    let tags = tags_at (g.B.Blocks.pieces c.args.blocks.now) c.args.place in
    c.way_tagged.ensures
    ∙ ap (option_and_then (way_tagged c.args.instructed)) (sym c.in-Some.is ∙ c.first_where.ensures ∙ ap (λ test. find test tags) (λ i tag. c.admitted.ensures tag i))
    ∙ find-find_map (way_tagged c.args.instructed) tags

pub returns-in-None : goal.returns-in-None
returns-in-None g c =
    let tags = tags_at (g.B.Blocks.pieces c.args.blocks.now) c.args.place in
    ap (option_and_then (way_tagged c.args.instructed)) (sym c.in-None.is ∙ c.first_where.ensures ∙ ap (λ test. find test tags) (λ i tag. c.admitted.ensures tag i))
    ∙ find-find_map (way_tagged c.args.instructed) tags
