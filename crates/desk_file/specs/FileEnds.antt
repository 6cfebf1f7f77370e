-- How the program ends where the file of a desk is made, or is not made or opened.
use Rattle.std.specs.Prelude.{◌≡◌, Ok, Err, codes, refl}
use Rattle.cli_exit.specs.Endings.{Ending, ended_by, ending}
use Rattle.cli_exit.specs.declared.ended.ExitError.{ExitError}
use Rattle.cli_exit.specs.declared.ended.ExitError.TheVariants as exit
use Rattle.cli_exit.proofs.EndingLemmas.{failed}
use Rattle.file_probe.specs.declared.fault.DeskFileError.{DeskFileError}
use Rattle.file_probe.specs.declared.fault.DeskFileError.TheVariants as error
use Rattle.sql_file.specs.MadeFiles.{Making}

-- the fault by which the program ends for an error
abbrev pub exit_error : DeskFileError → ExitError
exit_error error.NotEmpty = exit.NotEmpty
exit_error error.NotADesk = exit.NotADesk
exit_error error.NewerVersion = exit.NewerVersion
exit_error error.Store = exit.Store
exit_error error.Memory = exit.Memory

-- how the program ends for an error
abbrev pub ended_by_error : DeskFileError → Ending
ended_by_error why = ended_by (exit_error why)

-- how it ends where a desk was made, or not
abbrev pub making_end : Making → Ending
making_end (Ok done) = ending 0 (codes "created")
making_end (Err why) = ended_by_error why

-- it ends with status 0 only where one was made
pub made_if_zero : (result : Making) → (making_end result).status ≡ 0 → result ≡ Ok tt
made_if_zero (Ok done) zero = refl
made_if_zero (Err why) zero = absurd (failed (exit_error why) (ended_by_error why) refl zero)
