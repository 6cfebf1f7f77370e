use Rattle.std.proofs.Common.{◌≡◌, ◌+◌, ◌++◌, ◌∷◌, ◌∙◌, [], length, take, ap, sym, subst, arith}
use Rattle.std.proofs.lemmas.List.{length-take, take_all, take_more}
use Rattle.json_replies.specs.Forms.{numbered_values}
use Rattle.json_replies.specs.Writing.{WritesValue, WritesValues}
use Rattle.json_replies.proofs.WritingLemmas.{none_each, numbered_more, then_one}
use Rattle.json_replies.proofs.shown.write_each.Goals as goal

pub loop-value-init : goal.loop-value-init
loop-value-init g c = record { number = omega arith; written = none_each }

pub loop-value-preserved : goal.loop-value-preserved
loop-value-preserved g c =
    let counted = g.T.Counted.counted in
    let items = c.args.items.now in
    let i = c.loop-value.value-index in
    let x = c.value-item.result in
    let first = c.args.first in
    let next : take (i + 1) items ≡ take i items ++ x ∷ [] = take_more items i x c.loop-value-test.true ∙ ap (λ y. take i items ++ y ∷ []) (sym c.value-item.is) in
    let number : c.loop-value.number ≡ first + length (take i items) = omega (arith, length-take i items, c.loop-value.invariant.number, c.loop-value-test.true) in
    let one = subst (λ k. WritesValue (counted k x) c.loop-value.out c.write_as.new.out) number c.in_ok-write_as.ensures in
    let all : numbered_values counted first (take (i + 1) items) ≡ numbered_values counted first (take i items) ++ counted (first + length (take i items)) x ∷ [] =
    ap (numbered_values counted first) next ∙ numbered_more counted first (take i items) x in
    record {
      number = omega (arith, c.loop-value.invariant.number);
      written = subst (λ ds. WritesValues ds c.args.out.now c.write_as.new.out) (sym all) (then_one c.loop-value.invariant.written one);
    }

pub returns : goal.returns
returns g c =
    let all = take_all c.loop-value.value-index c.args.items.now (omega arith) in
    subst (λ xs. WritesValues (numbered_values g.T.Counted.counted c.args.first xs) c.args.out.now c.loop-value.out) all c.loop-value.invariant.written
