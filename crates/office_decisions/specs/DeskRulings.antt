-- The lists of the whole desk: its closed days and its keys.
use Rattle.std.specs.Prelude.{Bool, nat_eq, List, []}
use lib.Pointwise.{pointwise}
use Rattle.desk_words.specs.KeyRows.{same_keys}
use Rattle.desk_words.specs.Rulings.{Ruling, loaded}
use Rattle.desk_words.specs.ViewTypes.{Day}
use Rattle.desk_words.specs.declared.caller.KeyRow.{KeyRow}
use Rattle.desk_words.specs.declared.change.Change.{Change}
use Rattle.desk_words.specs.declared.change.Change.TheVariants.{SetClosedDays, SetKeys}

-- both lists have the same days; a list of days has them in order, each once (section 1173)
abbrev pub same_days : List Day → List Day → Bool
same_days a b = pointwise nat_eq a b

-- the closed days are loaded, unless they are those that are held (section 1173)
abbrev pub closed_ruling : List Day → List Day → Ruling Change
closed_ruling held days = record {
  cases = [];
  accepted = loaded (same_days held days) (SetClosedDays days);
}

-- the keys are loaded, unless they are those that are held
abbrev pub keys_ruling : List KeyRow → List KeyRow → Ruling Change
keys_ruling held rows = record {
  cases = [];
  accepted = loaded (same_keys held rows) (SetKeys rows);
}
