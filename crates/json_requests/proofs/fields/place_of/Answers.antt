use Rattle.std.proofs.Common.{◌<◌, length, Some, sym, ap, ◌∙◌, arith}
use Rattle.json_requests.proofs.FieldLemmas.{first-there}
use Rattle.json_requests.proofs.fields.place_of.Goals as goal

pub returns-then-eq-clause-first : goal.returns-then-eq-clause-first
returns-then-eq-clause-first c =
    let less : c.args.expected < length c.args.names.now = omega (arith, c.if-expected-names.true) in
    sym (first-there c.args.names.now 0 c.args.expected c.args.name.now _ c.requires less (sym c.eq.ensures ∙ c.if-eq.true) ∙ ap Some (omega arith))
