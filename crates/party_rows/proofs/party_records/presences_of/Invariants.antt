use Rattle.std.proofs.Common.{◌≡◌, map, take}
use Rattle.std.specs.List.{filter_map, slice_get}
use Rattle.desk_words.specs.declared.records.PresenceMark.{PresenceMark}
use Rattle.party_rows.proofs.party_records.presences_of.Given as goal

-- the sessions of the marks at the first places
abbrev pub invariant-loop-place : goal.invariant-loop-place
invariant-loop-place l = l.sessions.items ≡ map (λ (mark : PresenceMark). mark.session) (filter_map (slice_get l.all) (take l.place-index l.places))
