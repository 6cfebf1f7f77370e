-- What a file that is handed in asks of the office.
use Rattle.std.specs.Prelude.{ℕ, List, Option, Result, Ok, Err}
use Rattle.csv_import.specs.declared.fault.FileError.{FileError}
use Rattle.desk_words.specs.ViewTypes.{MeetingName, Moment}
use Rattle.desk_words.specs.declared.caller.KeyRow.{KeyRow}
use Rattle.desk_words.specs.declared.records.RegisterRow.{RegisterRow}
use Rattle.desk_words.specs.declared.request.DeskRequest.TheVariants as desk
use Rattle.desk_words.specs.declared.request.OfficeRequest.TheVariants as office
use Rattle.desk_words.specs.declared.request.Request.{Request}
use Rattle.desk_words.specs.declared.request.Request.TheVariants as request

-- the loading of keys
abbrev pub with_keys : List KeyRow → Request
with_keys rows = request.Desk (desk.Keys rows)

-- the loading of closed days (section 1173)
abbrev pub with_days : List ℕ → Request
with_days days = request.Desk (desk.ClosedDays days)

-- the loading of the register of a meeting, as it was at a moment
abbrev pub with_register : MeetingName → Moment → List RegisterRow → Request
with_register meeting record_moment rows =
    request.Office meeting
    (office.LoadRegister (record { record_moment = record_moment; rows = rows }))

-- what a file asks: the loading of what was read of it, or its fault
abbrev pub load_asked : {X : Type 0} → (X → Request) → Result X FileError → Result Request FileError
load_asked asking (Ok rows) = Ok (asking rows)
load_asked asking (Err fault) = Err fault

-- how a reader stands: the bytes that it has left, where they are known, how many it gave, and how
-- many of its reads failed
pub record Reader : Type 0 where
  pub rest : Option (List ℕ)
  pub passed : ℕ
  pub failures : ℕ

abbrev pub reader_at : Option (List ℕ) → ℕ → ℕ → Reader
reader_at rest passed failures = record { rest = rest; passed = passed; failures = failures }
