-- What a read left that was to fill a buffer.
use Rattle.std.specs.Prelude.{ℕ, Result, Ok, Err}
use Rattle.byte_io.specs.declared.failure.FillError.{FillError}

-- how many bytes were read to the front of the buffer, before a failure too
abbrev pub count_read : Result ℕ FillError → ℕ
count_read (Ok count) = count
count_read (Err failure) = failure.filled
