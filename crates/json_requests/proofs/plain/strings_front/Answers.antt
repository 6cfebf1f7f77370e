use Rattle.std.proofs.Common.{◌++◌, ◌∙◌, ap, length, sym, subst, rules}
use Rattle.std.specs.Prelude.{nat_lt}
use Rattle.json_requests.specs.PlainBodies.{comma_before, BeginsStrings}
use Rattle.json_requests.proofs.PlainLemmas.{strings-more, strings-none}
use Rattle.json_requests.proofs.plain.strings_front.Goals as goal

pub loop-found-init : goal.loop-found-init
loop-found-init c = (search rules, subst (λ vs. BeginsStrings vs c.args.text.now c.args.text.now) (sym c.new-found.ensures.items) (strings-none c.args.text.now))

pub loop-found-preserved : goal.loop-found-preserved
loop-found-preserved c =
    let l = c.loop-found in
    (search rules, strings-more l.found.items _ c.args.text.now l.rest.now c.in_ok-item.item.now c.in_ok-string.left.now c.in_ok-string.string l.invariant.1 (c.in_ok-item.ensures ∙ ap (λ n. comma_before (nat_lt 0 n) ++ c.in_ok-item.item.now) (ap length c.as_slice.ensures.value)) c.in_ok-string.ensures.text c.in_ok-string.ensures.plain c.in_ok-pushed.ensures)
