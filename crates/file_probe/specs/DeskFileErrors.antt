-- Which errors may come of the making and the opening of a desk's file.
use Rattle.std.specs.Prelude.{◌≡◌, ◌⊎◌}
use Rattle.file_probe.specs.declared.fault.DeskFileError.{DeskFileError}
use Rattle.file_probe.specs.declared.fault.DeskFileError.TheVariants as error

-- the file cannot be opened, read or written, or memory ran out
abbrev pub IsUnreadable : DeskFileError → Type 0
IsUnreadable why = (why ≡ error.Store) ⊎ (why ≡ error.Memory)

-- no desk is made: the file, or a log without its file, holds something, or the system refuses it
abbrev pub IsUnmade : DeskFileError → Type 0
IsUnmade why = (why ≡ error.NotEmpty) ⊎ IsUnreadable why

-- the file is no desk, or one of a later version, or could not be opened, read or written
abbrev pub IsUnopened : DeskFileError → Type 0
IsUnopened why =
    (why ≡ error.NotADesk) ⊎ ((why ≡ error.NewerVersion) ⊎ IsUnreadable why)
