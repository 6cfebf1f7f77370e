use Rattle.std.proofs.Common.{length, arith}
use Rattle.std.proofs.lemmas.Bool.Decides.{nat_tests}
use Rattle.office_validation.proofs.ValidNumberLemmas.{any-of_own, own-places}
use Rattle.office_validation.proofs.appointments.names_appointment.Goals as goal

pub returns-then-ending-ge1 : goal.returns-then-ending-ge1
returns-then-ending-ge1 c =
    let own = own-places c.args.ending.now.member c.args.given.now c.places_by_first-own.result.now c.places_by_first-own.ensures.places in
    let named = any-of_own c.args.ending.now c.args.given.now (length c.places_by_first-own.result.now) c.requires own in
    grind (arith, nat_tests, named)

pub returns-else-ending-ge1 : goal.returns-else-ending-ge1
returns-else-ending-ge1 c =
    let own = own-places c.args.ending.now.member c.args.given.now c.places_by_first-own.result.now c.places_by_first-own.ensures.places in
    let named = any-of_own c.args.ending.now c.args.given.now (length c.places_by_first-own.result.now) c.requires own in
    grind (arith, nat_tests, named)
