use Rattle.std.proofs.Common.{subst, sym, ◌∙◌}
use Rattle.json.specs.Print.{IsNumber}
use Rattle.json_requests.proofs.NumberLemmas.{digits_form}
use Rattle.json_requests.proofs.plain.number_front.Goals as goal

pub returns-in-Some-clause-number : goal.returns-in-Some-clause-number
returns-in-Some-clause-number c =
    let s = c.as_bytes-digits.result.now in
    let digits = c.in-Some.ensures.digits in
    subst IsNumber c.as_bytes-digits.ensures.value (digits_form s digits.1 digits.0 (sym c.is_padded.ensures ∙ c.if-is_padded.false))
