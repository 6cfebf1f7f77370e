-- The data that a tree of `json` stands for, as `serde_json` reads it.
use Rattle.std.specs.Prelude.{List, map, Bool, true, ◌&&◌, Option, Some, None, is_some}
use Rattle.std.specs.declared.alloc.Global.{Global}
use Rattle.json.specs.Json as json
use Rattle.json.specs.Value as tree
use Rattle.json.specs.declared.value.Value.{Value}
use Rattle.serde_json.specs.Data.{Num, Data, null, boolean, number, string, array, object, Items, no_items, item, Members, no_members, put}
use Rattle.serde_json.specs.Read.{number_of}
use Rattle.serde_json.specs.View.{items_of}

-- a number; one that is too large for a float stands for none, as null does
abbrev pub number_or_null : Option Num → Data
number_or_null (Some n) = number n
number_or_null None = null

-- The members go in one after another, so the last value of a key stays.
abbrev mutual
  pub data_of : json.Json → Data
  data_of json.null = null
  data_of (json.boolean b) = boolean b
  data_of (json.number s) = number_or_null (number_of s)
  data_of (json.string s) = string s
  data_of (json.array js) = array (items_data js)
  data_of (json.object ms) = object (members_data ms no_members)

  pub items_data : json.Items → Items
  items_data json.no_items = no_items
  items_data (json.item j js) = item (data_of j) (items_data js)

  pub members_data : json.Members → Members → Members
  members_data json.no_members found = found
  members_data (json.member k j ms) found = members_data ms (put k (data_of j) found)

-- no number is too large for a float
abbrev mutual
  pub fits : json.Json → Bool
  fits json.null = true
  fits (json.boolean b) = true
  fits (json.number s) = is_some (number_of s)
  fits (json.string s) = true
  fits (json.array js) = items_fit js
  fits (json.object ms) = members_fit ms

  pub items_fit : json.Items → Bool
  items_fit json.no_items = true
  items_fit (json.item j js) = fits j && items_fit js

  pub members_fit : json.Members → Bool
  members_fit json.no_members = true
  members_fit (json.member k j ms) = fits j && members_fit ms

-- a value, as its data
abbrev pub view : Value Global → Data
view v = data_of (tree.value_view v)

-- values, as the items of an array
abbrev pub items_view : List (Value Global) → Items
items_view vs = items_of (map view vs)
