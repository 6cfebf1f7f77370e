use Rattle.std.proofs.Common.{◌||◌, nat_lt, take, refl, ap, sym, ◌∙◌}
use Rattle.std.specs.FinSet.{contains, contains-insert, contains-empty}
use Rattle.std.specs.List.{list_any}
use Rattle.std.specs.Ordering.{eq_by_cmp, nat_cmp}
use Rattle.std.proofs.lemmas.Cmp.{nat_cmp_total}
use Rattle.std.proofs.lemmas.List.Folds.{list_any_more}
use Rattle.std.proofs.Math.Bool.{or_comm}
use Rattle.desk_words.specs.declared.records.Ending.{Ending}
use Rattle.proxy_rules.specs.Governing.{ends}
use Rattle.proxy_rules.proofs.EndedTags.{named, not_named, or_none}
use Rattle.share_blocks.specs.Tags.{is_tag}
use Rattle.proxy_rules.proofs.pieces.ended_numbers.Goals as goal
use Rattle.proxy_rules.proofs.pieces.ended_numbers.Goals.{in-Some, in_default}

pub loop-ending-init : goal.loop-ending-init
loop-ending-init c = λ tag is. ap (λ s. contains s tag) c.none-numbers.ensures ∙ contains-empty nat_cmp tag

pub loop-ending-preserved : goal.loop-ending-preserved
loop-ending-preserved c = λ tag is.
    let e = c.ending-item.result in
    let counts = nat_lt e.moment c.args.cutoffs.now.endings in
    let so_far = list_any (ends c.args.cutoffs.now tag) (take c.loop-ending.ending-index c.args.ended.now) in
    let more = list_any_more (ends c.args.cutoffs.now tag) c.args.ended.now c.loop-ending.ending-index e c.loop-ending-test.true
    ∙ ap (λ (x : Ending). so_far || ends c.args.cutoffs.now tag x) (sym c.ending-item.is) in
    elim c.match-tag_ended.branch [
      | in-Some w ↦
          ap (λ s. contains s tag) (w.numbers-is ∙ w.admit.ensures)
          ∙ contains-insert nat_cmp_total c.loop-ending.numbers w.in-Some.tag tag
          ∙ ap (λ b. eq_by_cmp nat_cmp tag w.in-Some.tag || b) (c.loop-ending.invariant tag is)
          ∙ ap (λ b. b || so_far) (named counts (is_tag e.number) e.number w.in-Some.tag tag w.in-Some.ensures)
          ∙ or_comm (ends c.args.cutoffs.now tag e) so_far
          ∙ sym more
      | in_default w ↦
          ap (λ s. contains s tag) w.numbers-is
          ∙ c.loop-ending.invariant tag is
          ∙ or_none so_far (ends c.args.cutoffs.now tag e) (not_named counts (is_tag e.number) e.number tag is refl w.in_default.ensures)
          ∙ sym more
    ]
