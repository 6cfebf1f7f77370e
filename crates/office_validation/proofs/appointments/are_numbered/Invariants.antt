use Rattle.std.proofs.Common.{◌≡◌, [], take, drop}
use Rattle.desk_words.specs.Office.{are_numbered_after}
use Rattle.office_validation.proofs.appointments.are_numbered.Given as goal

-- whether all are numbered is whether the others go on
abbrev pub invariant-loop-place : goal.invariant-loop-place
invariant-loop-place l = are_numbered_after [] l.appointment-items ≡ are_numbered_after (take l.place l.appointment-items) (drop l.place l.appointment-items)
