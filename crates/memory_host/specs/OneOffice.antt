-- What becomes of a file in memory for an office.
use Rattle.std.specs.Prelude.{◌≡◌, ◌⊎◌, ⊤, codes}
use Rattle.cli_exit.specs.Endings.{Ending, ending, ended_by}
use Rattle.cli_exit.specs.declared.ended.ExitError.TheVariants as fault
use Rattle.desk_words.specs.Changes.{empty_office}
use Rattle.desk_words.specs.declared.office.OfficeLists.{OfficeLists}
use Rattle.memory_host.specs.declared.open_book.OpenBook.{OpenBook}
use Rattle.memory_host.specs.declared.stored.Stored.{Stored}
use Rattle.memory_host.specs.declared.stored.Stored.TheVariants as stored

-- it may hold this office; of one that is open nothing is said until it is closed
abbrev pub HoldsOffice : Stored → OfficeLists → Type 0
HoldsOffice stored.Nothing office = ⊥
HoldsOffice (stored.Office opened) office = opened.book ≡ office
HoldsOffice stored.Opened office = ⊤

-- under its name it may hold this office
abbrev pub MayHold : Type 0 → Stored → OfficeLists → Type 0
MayHold Named it left = Named × HoldsOffice it left

-- its office was opened
abbrev pub Opens : Stored → OpenBook → Stored → Type 0
Opens old file new = (old ≡ stored.Office file) × (new ≡ stored.Opened)

-- none was opened: this is no name of it, or it has none, or it is open
abbrev pub Refuses : Type 0 → Stored → Ending → Type 0
Refuses Named old end =
    (end ≡ ended_by fault.Store)
    × (¬ Named ⊎ ((old ≡ stored.Nothing) ⊎ (old ≡ stored.Opened)))

-- an office that holds nothing was made in it, or there was one, or this is no name of it
abbrev pub Creates : Type 0 → Stored → Ending → Stored → Type 0
Creates Named old end new =
    (Named × (old ≡ stored.Nothing) × (end ≡ ending 0 (codes "created"))
    × ((made : OpenBook) × (made.book ≡ empty_office) × (new ≡ stored.Office made)))
    ⊎ ((new ≡ old) × ((end ≡ ended_by fault.NotEmpty) ⊎ (¬ Named × (end ≡ ended_by fault.Store))))
