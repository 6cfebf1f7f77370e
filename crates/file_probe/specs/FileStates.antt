-- What stands under the name of a desk's file, and what follows of it.
use Rattle.std.specs.Prelude.{◌≡◌, ◌≤◌, ◌⊎◌, ℕ, ◌==◌, ◌||◌, nat_le, if◌then◌else◌, List, Option, Some}
use Rattle.std.specs.Prelude.{None, slice_index}
use Rattle.file_probe.specs.declared.fault.DeskFileError.{DeskFileError}
use Rattle.file_probe.specs.declared.fault.DeskFileError.TheVariants as error
use Rattle.file_probe.specs.declared.file.Log.{Log}
use Rattle.file_probe.specs.declared.file.Log.TheVariants as log
use Rattle.file_probe.specs.declared.file.FileState.{FileState}
use Rattle.file_probe.specs.declared.file.FileState.TheVariants as found

-- so many bytes that begin so are the log of a database that is being made: no page follows its
-- header, whose first byte is not written yet, or which counts 2 ^ 32 - 1 checkpoints
abbrev pub IsBegun : ℕ → List ℕ → Type 0
IsBegun size front =
    (size ≤ 41)
    × ((slice_index front 0 ≡ 0)
    ⊎ ((slice_index front 12 ≡ 255) × ((slice_index front 13 ≡ 255)
    × ((slice_index front 14 ≡ 255) × (slice_index front 15 ≡ 255)))))

-- what a file of so many bytes, of which this is the first, is beside such a log: no database is
-- as short as a single byte, nor begins with 0 where its log holds no page
abbrev pub file_state_at : ℕ → ℕ → Log → FileState
file_state_at size first log.Nothing = if nat_le size 1 then found.Blank else found.Full
file_state_at size first log.Begun =
    if nat_le size 1 || (first == 0) then found.Blank else found.Full
file_state_at size first log.Left = if nat_le size 1 then found.Emptied else found.Full

-- why no desk is made there: the log of a desk is kept
abbrev pub making_error : FileState → Option DeskFileError
making_error found.Nothing = None
making_error found.LoneLog = Some error.NotEmpty
making_error found.Blank = None
making_error found.Emptied = Some error.NotEmpty
making_error found.Full = None

-- why no desk is opened there: no file is made, and none that holds no database is made one
abbrev pub opening_error : FileState → Option DeskFileError
opening_error found.Nothing = Some error.Store
opening_error found.LoneLog = Some error.Store
opening_error found.Blank = Some error.NotADesk
opening_error found.Emptied = Some error.Store
opening_error found.Full = None
