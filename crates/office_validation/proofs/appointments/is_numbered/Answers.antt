use Rattle.std.proofs.Common.{arith}
use Rattle.std.proofs.lemmas.Bool.Decides.{nat_tests}
use Rattle.std.proofs.lemmas.Option.{get_or_from_slice_get, slice_get_within}
use Rattle.office_validation.proofs.ValidNumberLemmas.{numbered-at}
use Rattle.office_validation.proofs.appointments.is_numbered.Goals.{then-appointment-ge1, else-appointment-ge1}
use Rattle.office_validation.proofs.appointments.is_numbered.Goals as goal

pub returns-then-appointment-own : goal.returns-then-appointment-own
returns-then-appointment-own c =
    let given = c.args.given.now in
    let a = c.args.appointment.now in
    let is =
    numbered-at given c.places_by_first-own.result.now c.args.place a c.places_by_first-own.ensures.places (slice_get_within given c.args.place a c.requires)
    (get_or_from_slice_get given c.args.place a a c.requires) in
    elim c.if-appointment-ge1.branch [ then-appointment-ge1 w ↦ grind (arith, nat_tests, is) | else-appointment-ge1 w ↦ grind (arith, nat_tests, is) ]

pub returns-else-appointment-own : goal.returns-else-appointment-own
returns-else-appointment-own c =
    let given = c.args.given.now in
    let a = c.args.appointment.now in
    let is =
    numbered-at given c.places_by_first-own.result.now c.args.place a c.places_by_first-own.ensures.places (slice_get_within given c.args.place a c.requires)
    (get_or_from_slice_get given c.args.place a a c.requires) in
    elim c.if-appointment-ge1.branch [ then-appointment-ge1 w ↦ grind (arith, nat_tests, is) | else-appointment-ge1 w ↦ grind (arith, nat_tests, is) ]
