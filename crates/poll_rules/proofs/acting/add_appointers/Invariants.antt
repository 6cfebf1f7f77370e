use Rattle.std.proofs.Common.{◌≡◌, ℕ, List, take}
use Rattle.std.specs.Prelude.{◌||◌}
use Rattle.std.specs.List.{filter_map, list_any, slice_get}
use Rattle.vocabulary.specs.Names.{same_name}
use Rattle.desk_words.specs.declared.records.Appointment.{Appointment}
use Rattle.poll_rules.specs.Acting.{is_one_of}
use Rattle.poll_rules.proofs.acting.add_appointers.Given as goal

-- those of the first places were added
abbrev pub invariant-loop-place : goal.invariant-loop-place
invariant-loop-place l = (member : List ℕ) → is_one_of l.members member
    ≡ (is_one_of l.initial.members member || list_any (λ (a : Appointment). same_name a.member member) (filter_map (slice_get l.all) (take l.place-index l.place-items)))
