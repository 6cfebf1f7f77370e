use Rattle.std.proofs.Common.{◌≡◌, Err, map, ap, ◌∙◌, rules}
use Rattle.std.proofs.lemmas.List.{take_all}
use Rattle.row_source.specs.LookUps.{authority_at}
use Rattle.row_source.proofs.SourceRowLemmas.{made_more}
use Rattle.row_source.proofs.SourceLookUpLemmas.{holds_after, holds_both, holds_refused, holds_so}
use Rattle.row_source.proofs.members.authorised.Goals as goal

pub loop-authority-init : goal.loop-authority-init
loop-authority-init g c = holds_so _ _ _ _ _ _ _ c.in_ok-given.given _ _ _ c.in_ok-given.ensures (λ found p. (c.as_slice-authority-items.ensures ∙ p, c.from_vec-all.ensures ∙ c.in_ok-with_capacity.ensures.items))

pub returns-in_err-with_capacity : goal.returns-in_err-with_capacity
returns-in_err-with_capacity g c =
    let w = g.met.R.RowSource in
    holds_refused _ _ _ _ _ _ _ c.in_ok-given.given _ _ _ _ w.memory_may_fail c.from_residual-in_err-with_capacity.ensures.1 c.in_ok-given.ensures

pub returns-in_err-row_of : goal.returns-in_err-row_of
returns-in_err-row_of g c =
    let w = g.met.R.RowSource in
    let is : c.from_residual-in_err-row_of.result ≡ Err c.in_err-row_of.field-0.0 = search rules in
    holds_after _ _ _ _ _ w.still_shows w.was_trusted w.keeps_then w.leaves_then _ _ _ c.loop-authority.all c.in_err-row_of.field-0.0 _ _ _ _ is
    c.loop-authority.invariant c.in_err-row_of.ensures

pub returns-in_err-push : goal.returns-in_err-push
returns-in_err-push g c =
    let w = g.met.R.RowSource in
    holds_refused _ _ _ _ _ _ _ c.in_ok-row_of.field-0 _ _ _ _ w.memory_may_fail c.from_residual-in_err-push.ensures.1
    (holds_both _ _ _ _ _ w.still_shows w.was_trusted w.keeps_then w.leaves_then _ _ _ c.loop-authority.all c.in_ok-row_of.field-0 _ _ c.loop-authority.invariant c.in_ok-row_of.ensures)

pub loop-authority-preserved : goal.loop-authority-preserved
loop-authority-preserved g c =
    let w = g.met.R.RowSource in
    let a = c.authority-item.result in
    holds_so _ _ _ _ _ _ _ c.in_ok-row_of.field-0 _ _ _ (holds_both _ _ _ _ _ w.still_shows w.was_trusted w.keeps_then w.leaves_then _ _ _ c.loop-authority.all c.in_ok-row_of.field-0 _ _ c.loop-authority.invariant c.in_ok-row_of.ensures)
    (λ found p. (
      p.0.0,
      made_more (authority_at found) c.as_slice-authority-items.result.now c.loop-authority.authority-index a c.loop-authority.all c.push.new.self (record { authority = a; row = c.in_ok-row_of.field-0 }) c.loop-authority-test.true c.authority-item.is p.0.1
          (λ j. record { authority = a; row = p.1 j }) c.in_ok-push.ensures.ok,
    ))

pub returns : goal.returns
returns g c =
    holds_so _ _ _ _ _ _ _ c.loop-authority.all _ _ _ c.loop-authority.invariant
    (λ found p. p.1 ∙ ap (map (authority_at found)) (take_all c.loop-authority.authority-index c.as_slice-authority-items.result.now c.loop-authority-test.false ∙ p.0))
