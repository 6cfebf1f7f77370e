-- What a command does once a desk, a file or a moment is there, and what comes of it otherwise.
use Rattle.std.specs.Prelude.{◌⊎◌, ℕ, List}
use Rattle.host.specs.declared.offices.OfficeFiles as offices
use Rattle.host.specs.declared.files.Files as files
use Rattle.host.specs.declared.zone_clocks.ZoneClocks as zones
use Rattle.host.specs.declared.ports.Ports as ports
use Rattle.wall_clock.specs.declared.clock.Clock as clock
use Rattle.cli_exit.specs.Endings.{Ending}
use Rattle.desk_words.specs.ViewTypes.{Moment}
use Rattle.wall_clock.specs.Zones.{Zone}

-- the desk in the file of that name was opened, this was done with it, and it was closed; or its
-- opening was refused, the program ends so, and this holds
abbrev pub OnDesk : {O D : Type 0} → offices.Ghosts O D → List ℕ → O → O → Ending
    → Type 0 → (D → D → Type 0) → Type 0
OnDesk {O} {D} g name before after end Refused Done =
    (g.refuses before name end after × Refused)
    ⊎ ((between : O) × (opened closed : D)
    × g.opens before name opened between × Done opened closed × g.closes between name closed after)

-- the file of that name was opened, and this was done with it; or it was refused, and this holds
abbrev pub OnFile : {F R : Type 0} → files.Ghosts F R → List ℕ → F → F
    → Type 0 → (R → R → Type 0) → Type 0
OnFile {F} {R} g name before after Refused Done =
    (g.refuses before name after × Refused)
    ⊎ ((opened read : R) × g.opens before name opened after × Done opened read)

-- the port was bound, and this was done with what listens on it; or it was refused, and this holds
abbrev pub OnPort : {P L R S : Type 0} → ports.Ghosts P L R S → ℕ → P → P → Type 0
    → (L → Type 0) → Type 0
OnPort {P} {L} g port before after Refused Done =
    (g.refuses before port after × Refused)
    ⊎ ((bound : L) × g.binds before port bound after × Done bound)

-- the clock of the zone was asked once, and this was done at the moment that it gave; or it failed,
-- and this holds
abbrev pub AtMoment : {K C : Type 0} → zones.Ghosts K C → clock.Ghosts C → Zone → K → K
    → Type 0 → (Moment → Type 0) → Type 0
AtMoment {K} {C} g c zone before after Untimed Done =
    (made asked : C) × g.makes before zone made after
    × ((c.fails made asked × Untimed) ⊎ ((now : Moment) × c.gives made now asked × Done now))
