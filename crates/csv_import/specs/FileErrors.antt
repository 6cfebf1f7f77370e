-- What reading gives: a thing, or the first fault.
use Rattle.std.specs.Prelude.{◌≡◌, ℕ, ⊤, Bool, true, false, List, Result, Ok, Err, codes}
use Rattle.vocabulary.specs.Agreement.{Agrees}
use Rattle.csv_import.specs.declared.fault.Why.{Why}
use Rattle.csv_import.specs.declared.fault.Why.TheVariants as why
use Rattle.csv_import.specs.declared.fault.FileError.{FileError}
use Rattle.csv_import.specs.declared.fault.FileError.TheVariants.{BadRow, Twice, ReadFault, Memory}

-- the word for what is wrong
abbrev pub why_word : Why → List ℕ
why_word why.Header = codes "header"
why_word why.Rows = codes "rows"
why_word why.Fields = codes "fields"
why_word why.Member = codes "member"
why_word why.Kind = codes "kind"
why_word why.Name = codes "name"
why_word why.Shares = codes "shares"
why_word why.Paid = codes "paid"
why_word why.Party = codes "party"
why_word why.Key = codes "key"
why_word why.Total = codes "total"
why_word why.Day = codes "day"

-- the answer is that error; of want of memory nothing is said, and no read can have failed
abbrev pub FileErrAgrees : {Y : Type 0} → FileError → Result Y FileError → Type 0
FileErrAgrees (BadRow line why) answer = answer ≡ Err (BadRow line why)
FileErrAgrees (Twice line) answer = answer ≡ Err (Twice line)
FileErrAgrees ReadFault answer = ⊥
FileErrAgrees Memory answer = ⊤

-- what was returned, as contracts see it, is the answer
abbrev pub FileAgrees : {X Y : Type 0} → (X → Y) → Result X FileError → Result Y FileError → Type 0
FileAgrees seen looked answer = Agrees Ok FileErrAgrees seen looked answer

-- the fault is of the file's own records
abbrev pub IsOfRecords : FileError → Type 0 → Type 0
IsOfRecords (BadRow line why) P = P
IsOfRecords (Twice line) P = P
IsOfRecords ReadFault P = ⊤
IsOfRecords Memory P = ⊤

-- if the file was read and its records looked at, whether they are rows or have a fault
abbrev pub IfRecordsRead : {X : Type 0} → Result X FileError → Type 0 → Type 0
IfRecordsRead (Ok x) P = P
IfRecordsRead (Err fault) P = IsOfRecords fault P
