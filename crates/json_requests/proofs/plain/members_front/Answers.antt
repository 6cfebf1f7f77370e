use Rattle.std.proofs.Common.{length, take, ap, ◌∙◌, arith, rules}
use Rattle.json_requests.proofs.FieldLemmas.{take-replicate}
use Rattle.json_requests.proofs.PlainLemmas.{plain-at, puts-all, puts-more, puts-none}
use Rattle.json_requests.proofs.plain.members_front.Goals as goal

pub loop-place-init : goal.loop-place-init
loop-place-init c =
    let n = length c.args.names.now in
    (search rules, puts-none c.args.names.now _ c.args.text.now (ap (take n) c.requires.none ∙ take-replicate _ n 6 c.requires.few))

pub loop-place-preserved : goal.loop-place-preserved
loop-place-preserved c =
    let l = c.loop-place in
    (search rules, puts-more c.args.names.now l.place l.fields c.member_front.new.fields c.args.text.now l.rest.now c.in_ok-rest.rest.now _ l.invariant.1 c.in_ok-rest.ensures (omega (arith, c.loop-place-test.true)) c.requires.differ)

pub returns : goal.returns
returns c = puts-all c.args.names.now c.loop-place.place _ c.args.text.now c.loop-place.rest.now c.loop-place.invariant.1

pub member_front-requires-clause-plain : goal.member_front-requires-clause-plain
member_front-requires-clause-plain c = plain-at c.args.names.now c.loop-place.place _ c.requires.plain (omega (arith, c.loop-place-test.true))
