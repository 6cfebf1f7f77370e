use Rattle.std.proofs.Common.{◌≡◌, ◌+◌, ◌&&◌, cond, [], ◌∷◌, take, ap, sym, ◌∙◌}
use Rattle.std.specs.Prelude.{Some, None, reverse}
use Rattle.std.specs.BTreeMap.{get}
use Rattle.std.specs.Cmp.Lexicographic.{texts_ties}
use Rattle.std.specs.List.{enumerate_from}
use Rattle.std.specs.Option.{option_or}
use Rattle.std.proofs.lemmas.List.{reverse-append}
use Rattle.vocabulary.specs.Names.{name_cmp, same_name}
use Rattle.vote_rules.specs.Casts.{find_map}
use Rattle.vote_rules.specs.InstructedCasts.{instructed_by, last_instructed}
use Rattle.vote_rules.proofs.VoteListLemmas.{enumerate_more, filtered_place}
use Rattle.vote_rules.proofs.received.last_instructed.Goals as goal
use Rattle.vote_rules.proofs.received.last_instructed.Goals.{then-is_instructed_on+in_ok-insert, else-is_instructed_on}

pub loop-order-preserved : goal.loop-order-preserved
loop-order-preserved c = λ voter.
    let casts = c.args.casts.now in
    let resolution = c.args.resolution in
    let i = c.loop-order.order in
    let mark = c.index-casts-order.result in
    let before = last_instructed resolution (take i casts) voter in
    let more : last_instructed resolution (take (i + 1) casts) voter ≡ option_or (instructed_by resolution voter (i, mark)) before =
    ap (λ l. find_map (instructed_by resolution voter) (reverse l)) (enumerate_more casts i mark c.loop-order-test.true c.index-casts-order.is)
    ∙ ap (find_map (instructed_by resolution voter)) (reverse-append (enumerate_from 0 (take i casts)) ((i, mark) ∷ [])) in
    elim c.if-is_instructed_on.branch [
      | then-is_instructed_on+in_ok-insert w ↦
          ap (λ last. get name_cmp last voter) w.last-is
          ∙ w.in_ok-insert.ensures.updates.0 voter
          ∙ ap (λ b. cond b (Some i) (get name_cmp c.loop-order.last voter)) (sym (texts_ties mark.voter voter))
          ∙ ap (cond (same_name mark.voter voter) (Some i)) (c.loop-order.invariant voter)
          ∙ filtered_place (same_name mark.voter voter) i before
          ∙ ap (λ b. option_or (cond (b && same_name mark.voter voter) (Some i) None) before) (sym w.if-is_instructed_on.true ∙ c.is_instructed_on.ensures)
          ∙ sym more
      | else-is_instructed_on w ↦
          ap (λ last. get name_cmp last voter) w.last-is
          ∙ c.loop-order.invariant voter
          ∙ ap (λ b. option_or (cond (b && same_name mark.voter voter) (Some i) None) before) (sym w.if-is_instructed_on.false ∙ c.is_instructed_on.ensures)
          ∙ sym more
    ]
