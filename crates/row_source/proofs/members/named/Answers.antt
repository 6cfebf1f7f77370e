use Rattle.std.proofs.Common.{◌≡◌, Err, map, ap, ◌∙◌, rules}
use Rattle.std.proofs.lemmas.List.{take_all}
use Rattle.row_source.specs.LookUps.{chosen, chosen_givers, member_at}
use Rattle.row_source.proofs.SourceRowLemmas.{made_more}
use Rattle.row_source.proofs.SourceLookUpLemmas.{holds_after, holds_both, holds_refused, holds_so}
use Rattle.row_source.proofs.members.named.Goals as goal

pub loop-member-init : goal.loop-member-init
loop-member-init g c = holds_so _ _ _ _ _ _ _ c.in_ok-given.given _ _ _ c.in_ok-given.ensures
    (λ found p. (
      c.in_ok-chosen.ensures.received ∙ ap (chosen c.args.on) p,
      c.deref-member-items.ensures.value ∙ c.in_ok-chosen.ensures.givers ∙ ap (chosen_givers c.args.on) p,
      c.from_vec-members.ensures ∙ c.in_ok-with_capacity.ensures.items,
    ))

pub returns-in_err-chosen : goal.returns-in_err-chosen
returns-in_err-chosen g c =
    let w = g.met.R.RowSource in
    holds_refused _ _ _ _ _ _ _ c.in_ok-given.given _ _ _ _ w.memory_may_fail c.from_residual-in_err-chosen.ensures.1 c.in_ok-given.ensures

pub returns-in_err-with_capacity : goal.returns-in_err-with_capacity
returns-in_err-with_capacity g c =
    let w = g.met.R.RowSource in
    holds_refused _ _ _ _ _ _ _ c.in_ok-given.given _ _ _ _ w.memory_may_fail c.from_residual-in_err-with_capacity.ensures.1 c.in_ok-given.ensures

pub returns-in_err-member_rows : goal.returns-in_err-member_rows
returns-in_err-member_rows g c =
    let w = g.met.R.RowSource in
    let is : c.from_residual-in_err-member_rows.result ≡ Err c.in_err-member_rows.field-0.0 = search rules in
    holds_after _ _ _ _ _ w.still_shows w.was_trusted w.keeps_then w.leaves_then _ _ _ c.loop-member.members c.in_err-member_rows.field-0.0 _ _ _ _ is
    c.loop-member.invariant c.in_err-member_rows.ensures

pub returns-in_err-push : goal.returns-in_err-push
returns-in_err-push g c =
    let w = g.met.R.RowSource in
    holds_refused _ _ _ _ _ _ _ c.in_ok-member_rows.field-0 _ _ _ _ w.memory_may_fail c.from_residual-in_err-push.ensures.1
    (holds_both _ _ _ _ _ w.still_shows w.was_trusted w.keeps_then w.leaves_then _ _ _ c.loop-member.members c.in_ok-member_rows.field-0 _ _ c.loop-member.invariant c.in_ok-member_rows.ensures)

pub loop-member-preserved : goal.loop-member-preserved
loop-member-preserved g c =
    let w = g.met.R.RowSource in
    holds_so _ _ _ _ _ _ _ c.in_ok-member_rows.field-0 _ _ _ (holds_both _ _ _ _ _ w.still_shows w.was_trusted w.keeps_then w.leaves_then _ _ _ c.loop-member.members c.in_ok-member_rows.field-0 _ _ c.loop-member.invariant c.in_ok-member_rows.ensures)
    (λ found p. (p.0.0, p.0.1, made_more (member_at found) c.deref-member-items.result.now c.loop-member.member-index c.member-item.result c.loop-member.members c.push.new.self c.in_ok-member_rows.field-0 c.loop-member-test.true c.member-item.is p.0.2 p.1 c.in_ok-push.ensures.ok))

pub returns : goal.returns
returns g c =
    holds_so _ _ _ _ _ _ _ c.loop-member.members _ _ _ c.loop-member.invariant
    (λ found p.
    let members = p.2 ∙ ap (map (member_at found)) (take_all c.loop-member.member-index c.deref-member-items.result.now c.loop-member-test.false ∙ p.1) in
    λ i. record { received = p.0 i; members = members i })
