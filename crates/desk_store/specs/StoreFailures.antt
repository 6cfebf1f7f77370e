-- The failure that a fault is answered as.
use Rattle.sql_load.specs.declared.fault.LoadError.{LoadError}
use Rattle.sql_load.specs.declared.fault.LoadError.TheVariants as reading
use Rattle.desk_words.specs.declared.reply.Failure.{Failure}
use Rattle.desk_words.specs.declared.reply.Failure.TheVariants.{Store, Memory}

-- rows that are no office's fail a call as a store that refuses does
abbrev pub failure_of_read : LoadError → Failure
failure_of_read reading.NoOffice = Store
failure_of_read reading.Store = Store
failure_of_read reading.Memory = Memory
