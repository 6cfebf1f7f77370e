-- What is made of records, and why nothing is.
use Rattle.std.specs.Prelude.{◌≡◌, Bool, true, false, Option, Some, Result}
use Rattle.vocabulary.specs.Agreement.{Agrees}
use Rattle.vocabulary.specs.Identity.{id}
use Rattle.sqlite.specs.declared.error.Error.{Error}
use Rattle.sqlite.specs.declared.error.Error.TheVariants.{SqliteFailure}
use Rattle.sqlite.specs.declared.error.ErrorCode.TheVariants.{OutOfMemory}
use Rattle.sql_rows.specs.declared.fault.RowError.{RowError}
use Rattle.sql_rows.specs.declared.fault.RowError.TheVariants as row
use Rattle.sql_load.specs.declared.fault.LoadError.{LoadError}
use Rattle.sql_load.specs.declared.fault.LoadError.TheVariants.{NoOffice, Store, Memory}

-- why a row was not read
abbrev pub fault_of_row : RowError → LoadError
fault_of_row row.Unreadable = NoOffice
fault_of_row row.Memory = Memory

-- why a statement was not answered: want of memory, or what the store refused
abbrev pub fault_of_error : Error → LoadError
fault_of_error (SqliteFailure OutOfMemory) = Memory
fault_of_error other = Store

-- where there is no office, what is said is nothing, or not right; of other faults nothing is said
abbrev pub ReadErrAgrees : {X : Type 0} → (X → Bool) → LoadError → Option X → Type 0
ReadErrAgrees {X} right NoOffice said = (x : X) → said ≡ Some x → right x ≡ false
ReadErrAgrees right Store said = Unit {0}
ReadErrAgrees right Memory said = Unit {0}

-- what is given is what is said; where that is no office, it is nothing, or not right
abbrev pub ReadAgrees : {X : Type 0} → (X → Bool) → Result X LoadError → Option X → Type 0
ReadAgrees right read said = Agrees Some (ReadErrAgrees right) id read said

-- whatever is said is right
abbrev pub any_at_all : {X : Type 0} → X → Bool
any_at_all x = true
