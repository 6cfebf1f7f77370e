-- What one appointment governs beside those that were received after it. For private contracts.
use Rattle.std.specs.Prelude.{ℕ, Bool, ◌&&◌, not, List, ◌∷◌}
use Rattle.std.specs.List.{list_any}
use Rattle.vocabulary.specs.Places.{Places, holds}
use Rattle.desk_words.specs.ViewTypes.{Place}
use Rattle.desk_words.specs.declared.records.Appointment.{Appointment}
use Rattle.desk_words.specs.declared.records.Ending.{Ending}
use Rattle.proxy_rules.specs.Governing.{is_over}
use Rattle.proxy_rules.specs.declared.holdings.Holding.{Holding}
use Rattle.proxy_rules.specs.declared.meeting_records.Cutoffs.{Cutoffs}

-- one of the appointments was received in time to count, and is over the place
abbrev pub is_taken : Cutoffs → List Appointment → Place → Bool
is_taken cutoffs appointed place = list_any (is_over cutoffs place) appointed

-- a range holds the place, which none of the later appointments takes
abbrev pub is_left : Cutoffs → List Appointment → Places → Place → Bool
is_left cutoffs later range place = not (is_taken cutoffs later place) && holds range place

-- so many shares, an appointment, those that were received after it, and endings
abbrev pub holding_from : ℕ → Appointment → List Appointment → List Ending → Holding
holding_from shares a later ended = record {
  shares = shares;
  appointed = a ∷ later;
  ended = ended;
}
