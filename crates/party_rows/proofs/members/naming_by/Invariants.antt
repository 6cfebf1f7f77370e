use Rattle.std.proofs.Common.{◌≡◌, filter, take}
use Rattle.std.specs.List.{filter_map, slice_get}
use Rattle.vocabulary.specs.Names.{same_name}
use Rattle.desk_words.specs.declared.records.Appointment.{Appointment}
use Rattle.party_rows.proofs.members.naming_by.Given as goal

-- those of the first places that name the party
abbrev pub invariant-loop-place : goal.invariant-loop-place
invariant-loop-place l = l.found ≡ filter (λ (a : Appointment). same_name a.proxy l.party) (filter_map (slice_get l.all) (take l.place-index l.place-items))
