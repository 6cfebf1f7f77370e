use Rattle.std.proofs.Common.{◌<◌, ◌^◌, length, subst, arith, rules}
use Rattle.std.proofs.lemmas.List.{drop_all}
use Rattle.json_requests.proofs.NumberLemmas.{IsReadTo, read_all}
use Rattle.json_requests.proofs.number.digits_number.Goals as goal

pub returns-clause-number : goal.returns-clause-number
returns-clause-number c =
    let s = c.args.bytes.now in
    let l = c.loop-byte in
    let some : 0 < length s = search rules in
    let short : l.number < 2 ^ 64 = l.invariant.1 in
    read_all s l.number (subst (IsReadTo s l.number) (drop_all l.byte-index s (omega (arith, c.loop-byte-test.false))) l.invariant.0) some short

pub returns-clause-digits : goal.returns-clause-digits
returns-clause-digits c =
    let s = c.args.bytes.now in
    let l = c.loop-byte in
    let some : 0 < length s = search rules in
    (some, (subst (IsReadTo s l.number) (drop_all l.byte-index s (omega (arith, c.loop-byte-test.false))) l.invariant.0).0 tt)
