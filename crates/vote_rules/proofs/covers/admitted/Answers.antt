use Rattle.std.proofs.Common.{◌≡◌, ◌||◌, ap, sym, ◌∙◌}
use Rattle.std.specs.Prelude.{◌==◌}
use Rattle.std.specs.Ordering.{nat_cmp}
use Rattle.std.specs.FinSet as set
use Rattle.vote_rules.proofs.VoteCoverLemmas.{admitted_tags, instructed_too, one_tag, ways_alone}
use Rattle.vote_rules.proofs.covers.admitted.Goals as goal
use Rattle.vote_rules.proofs.covers.admitted.Goals.{then-is_some, else-is_some}

pub returns : goal.returns
returns c = λ tag.
    let instructed = c.args.instructed in
    let first = c.if-is_some.admitted in
    let sets : c.admit-4.new.self ≡ set.insert (set.insert (set.insert first 3) 2) 1 =
    c.admit-4.ensures
    ∙ ap (set.insert c.admit-3.new.self) c.tag_of-3.ensures
    ∙ ap (λ s. set.insert s 1)
    (c.admit-3.ensures
    ∙ ap (set.insert c.admit-2.new.self) c.tag_of-2.ensures
    ∙ ap (λ s. set.insert s 2) (c.admit-2.ensures ∙ ap (set.insert first) c.tag_of.ensures)) in
    ap (λ s. set.contains s tag) sets
    ∙ admitted_tags tag first instructed (elim c.if-is_some.branch [
      | then-is_some w ↦
          ap (λ s. set.contains s tag) (w.admitted-is ∙ w.admit.ensures ∙ ap (set.insert c.none-admitted.result) w.instructed_tag.ensures ∙ ap (λ s. set.insert s 4) c.none-admitted.ensures)
          ∙ one_tag tag set.empty 4
          ∙ ap (λ b. (tag == 4) || b) (set.contains-empty nat_cmp tag)
          ∙ instructed_too (tag == 4) instructed (sym w.if-is_some.true ∙ c.is_some.ensures)
      | else-is_some w ↦
          ap (λ s. set.contains s tag) (w.admitted-is ∙ c.none-admitted.ensures)
          ∙ set.contains-empty nat_cmp tag
          ∙ ways_alone (tag == 4) instructed (sym w.if-is_some.false ∙ c.is_some.ensures)
    ])
