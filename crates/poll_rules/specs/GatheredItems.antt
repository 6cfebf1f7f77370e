-- Values that are kept by party. For private contracts.
use Rattle.std.specs.Prelude.{Bool, List, [], Vec}
use Rattle.std.specs.BTreeMap.{BTreeMap, get}
use Rattle.std.specs.List.{list_any}
use Rattle.std.specs.Option.{option_map_or}
use Rattle.std.specs.declared.alloc.Global.{Global}
use Rattle.vocabulary.specs.Names.{same_name, name_cmp}
use Rattle.desk_words.specs.ViewTypes.{Party}

-- the values that a map keeps for a party, in order
abbrev pub items_at : {X : Type 0} → BTreeMap Party (Vec X Global) → Party → List X
items_at {X} groups party =
    option_map_or (λ (own : Vec X Global). own.items) (get name_cmp groups party) []

-- the party is among them
abbrev pub are_in : List Party → Party → Bool
are_in parties party = list_any (λ other. same_name other party) parties
