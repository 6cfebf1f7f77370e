-- The loading of a register.
use Rattle.std.specs.Prelude.{ℕ, List, [], ◌∷◌, Option, None, Some, codes}
use Rattle.serde_json.specs.Data.{Data}
use Rattle.serde_json.specs.Find.{at}
use Rattle.calendar.specs.DateTexts.{moment_of}
use Rattle.vocabulary.specs.Kinds.{holder_kind_of}
use Rattle.vocabulary.specs.Names.{party_of}
use Rattle.desk_words.specs.Registers.{register_of}
use Rattle.desk_words.specs.declared.records.RegisterRow.{RegisterRow}
use Rattle.desk_words.specs.declared.request.OfficeRequest.{OfficeRequest}
use Rattle.desk_words.specs.declared.request.OfficeRequest.TheVariants.{LoadRegister}
use Rattle.vocabulary.specs.OptionSteps.{guard, ◌>>=◌}
use Rattle.vocabulary.specs.PlainTexts.{text_of}
use Rattle.json_requests.specs.JsonFields.{Fields, has_items, items_in, number_at, parsed_at, all_items}

-- a row is a member, its kind, its name, its shares and what is paid up on each of them
unfoldable pub row_at : Data → Option RegisterRow
row_at d = do
  five ← guard (has_items 5 d)
  member ← parsed_at party_of (at 0 d)
  kind ← parsed_at holder_kind_of (at 1 d)
  name ← parsed_at text_of (at 2 d)
  shares ← number_at (at 3 d)
  paid ← number_at (at 4 d)
  Some (record { member = member; kind = kind; name = name; shares = shares; paid = paid })

-- the register that the rows at a place make
unfoldable pub register_body : Option Data → Option (List RegisterRow)
register_body place = do
  items ← items_in place
  rows ← all_items row_at items
  register_of rows

-- the fields of the loading of a register
abbrev pub load_fields : List (List ℕ)
load_fields = codes "record" ∷ codes "rows" ∷ []

-- the register that two fields load, each of its form
unfoldable pub load_in : Fields → Option OfficeRequest
load_in (record_moment_at ∷ rows_at ∷ []) = do
  record_moment ← parsed_at moment_of record_moment_at
  rows ← register_body rows_at
  Some (LoadRegister (record { record_moment = record_moment; rows = rows }))
load_in other = None
