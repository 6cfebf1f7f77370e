-- Why rows are not read where their lists are no book's.
use Rattle.meeting_core.specs.declared.book.of_lists.BookFault.{BookFault}
use Rattle.meeting_core.specs.declared.book.of_lists.BookFault.TheVariants as book
use Rattle.sql_load.specs.declared.fault.LoadError.{LoadError}
use Rattle.sql_load.specs.declared.fault.LoadError.TheVariants as reading

-- lists that are no book's are no office's
abbrev pub fault_of_book : BookFault → LoadError
fault_of_book book.NoOffice = reading.NoOffice
fault_of_book book.Memory = reading.Memory
