-- The reading of a whole file.
use Rattle.std.specs.Prelude.{◌≡◌, ℕ, ◌+◌, ◌≤◌, ◌⊎◌, ⊤, List, length, Option, IfSome}
use Rattle.std.specs.Io.KnownBytes.{IsAtEnd}
use Rattle.byte_io.specs.Counts.{one_more}
use Rattle.csv_import.specs.declared.fault.FileError.{FileError}
use Rattle.csv_import.specs.declared.fault.FileError.TheVariants.{BadRow, Twice, ReadFault, Memory}

-- all bytes were read, no more than the limit, and no read failed
pub record IsReadWhole (limit : ℕ) (old new : Option (List ℕ))
    (passed passed' failures failures' : ℕ) : Type 0 where
  pub at_end : IsAtEnd new
  pub within : passed' ≤ passed + limit
  pub known_within : IfSome old (λ bytes. length bytes ≤ limit)
  pub none_failed : failures' ≡ failures

-- these bytes came: as many as the source gave, and those that it held, where these are known
pub record HasReceived (bytes : List ℕ) (held : Option (List ℕ)) (passed passed' : ℕ) : Type 0 where
  pub count : passed' ≡ passed + length bytes
  pub known : IfSome held (λ known. bytes ≡ known)

-- why the bytes were not read: one read failed, or one byte more came than the limit; for want of
-- memory no read failed
abbrev pub IsReadCause : FileError → ℕ → ℕ → ℕ → ℕ → ℕ → Type 0
IsReadCause ReadFault limit passed passed' failures failures' =
    (failures' ≡ one_more failures) ⊎ ((failures' ≡ failures) × (passed' ≡ passed + limit + 1))
IsReadCause Memory limit passed passed' failures failures' = failures' ≡ failures
IsReadCause (BadRow line why) limit passed passed' failures failures' = ⊤
IsReadCause (Twice line) limit passed passed' failures failures' = ⊤

-- the fault is of the reading, and not of what was read
abbrev pub IsOfReading : FileError → Type 0
IsOfReading ReadFault = ⊤
IsOfReading Memory = ⊤
IsOfReading (BadRow line why) = ⊥
IsOfReading (Twice line) = ⊥
