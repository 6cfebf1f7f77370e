-- What is found in a tree of `json` is what `serde_json` finds in its data.
use Rattle.std.proofs.Common.{◌≡◌, ℕ, zero, suc, List, [], ◌∷◌, Bool, true, false, cond, Option, Some, None, option_map, option_and_then, Vec, Bor, Global, refl, sym, ap, ap₂, ◌∙◌}
use Rattle.std.specs.Prelude.{◌&&◌, is_some}
use Rattle.json.specs.Find as tree
use Rattle.json.specs.Json as json
use Rattle.json.specs.Value.{value_view}
use Rattle.json.specs.Value as value
use Rattle.json.specs.declared.value.Value.{Value, Array}
use Rattle.json.proofs.Trees.{view-Array}
use Rattle.serde_json.specs.Data.{Num, Data, number, array, object, Items, item, Members, no_members, put}
use Rattle.serde_json.specs.Find.{as_array, as_bool, as_number, as_str, at, get_item}
use Rattle.serde_json.specs.Read.{number_of, of_items, of_json, of_members}
use Rattle.json_requests.specs.BodyValues.{data_of, fits, items_data, items_fit, items_view, members_data, members_fit, number_or_null, view}

-- ---- numbers that are not too large

number-fits : (o : Option Num) → option_map number o ≡ cond (is_some o) (Some (number_or_null o)) None
number-fits None = refl
number-fits (Some n) = refl

both_items : (a b : Bool) (d : Data) (ds : Items) → option_and_then (λ x. option_map (item x) (cond b (Some ds) None)) (cond a (Some d) None) ≡ cond (a && b) (Some (item d ds)) None
both_items true true d ds = refl
both_items true false d ds = refl
both_items false b d ds = refl

array-fits : (b : Bool) (ds : Items) → option_map array (cond b (Some ds) None) ≡ cond b (Some (array ds)) None
array-fits true ds = refl
array-fits false ds = refl

object-fits : (b : Bool) (ms : Members) → option_map object (cond b (Some ms) None) ≡ cond b (Some (object ms)) None
object-fits true ms = refl
object-fits false ms = refl

both_members : (a b : Bool) (d : Data) (next : Data → Option Members) (ms : Members) → next d ≡ cond b (Some ms) None → option_and_then next (cond a (Some d) None) ≡ cond (a && b) (Some ms) None
both_members true b d next ms e = e
both_members false b d next ms e = refl

mutual
  pub of_json-fits : (j : json.Json) → of_json j ≡ cond (fits j) (Some (data_of j)) None
  of_json-fits json.null = refl
  of_json-fits (json.boolean b) = refl
  of_json-fits (json.number s) = number-fits (number_of s)
  of_json-fits (json.string s) = refl
  of_json-fits (json.array js) = ap (option_map array) (of_items-fit js) ∙ array-fits (items_fit js) (items_data js)
  of_json-fits (json.object ms) = ap (option_map object) (of_members-fit ms no_members) ∙ object-fits (members_fit ms) (members_data ms no_members)

  of_items-fit : (js : json.Items) → of_items js ≡ cond (items_fit js) (Some (items_data js)) None
  of_items-fit json.no_items = refl
  of_items-fit (json.item j js) =
      ap₂ (λ (ds : Option Items) (d : Option Data). option_and_then (λ x. option_map (item x) ds) d) (of_items-fit js) (of_json-fits j)
      ∙ both_items (fits j) (items_fit js) (data_of j) (items_data js)

  pub of_members-fit : (ms : json.Members) (found : Members) → of_members ms found ≡ cond (members_fit ms) (Some (members_data ms found)) None
  of_members-fit json.no_members found = refl
  of_members-fit (json.member k j ms) found =
      ap (option_and_then (λ d. of_members ms (put k d found))) (of_json-fits j)
      ∙ both_members (fits j) (members_fit ms) (data_of j) (λ d. of_members ms (put k d found)) (members_data ms (put k (data_of j) found)) (of_members-fit ms (put k (data_of j) found))

-- ---- what a value is

no_string : (o : Option Num) → as_str (number_or_null o) ≡ None
no_string None = refl
no_string (Some n) = refl

no_bool : (o : Option Num) → as_bool (number_or_null o) ≡ None
no_bool None = refl
no_bool (Some n) = refl

the_number : (o : Option Num) → as_number (number_or_null o) ≡ o
the_number None = refl
the_number (Some n) = refl

no_array : (o : Option Num) → as_array (number_or_null o) ≡ None
no_array None = refl
no_array (Some n) = refl

no_place : (i : ℕ) (o : Option Num) → at i (number_or_null o) ≡ None
no_place i None = refl
no_place i (Some n) = refl

pub str_seen : (j : json.Json) → as_str (data_of j) ≡ tree.as_str j
str_seen json.null = refl
str_seen (json.boolean b) = refl
str_seen (json.number s) = no_string (number_of s)
str_seen (json.string s) = refl
str_seen (json.array js) = refl
str_seen (json.object ms) = refl

pub bool_seen : (j : json.Json) → as_bool (data_of j) ≡ tree.as_bool j
bool_seen json.null = refl
bool_seen (json.boolean b) = refl
bool_seen (json.number s) = no_bool (number_of s)
bool_seen (json.string s) = refl
bool_seen (json.array js) = refl
bool_seen (json.object ms) = refl

pub number_seen : (j : json.Json) → as_number (data_of j) ≡ option_and_then number_of (tree.as_number j)
number_seen json.null = refl
number_seen (json.boolean b) = refl
number_seen (json.number s) = the_number (number_of s)
number_seen (json.string s) = refl
number_seen (json.array js) = refl
number_seen (json.object ms) = refl

pub array_seen : (j : json.Json) → as_array (data_of j) ≡ option_map items_data (tree.as_array j)
array_seen json.null = refl
array_seen (json.boolean b) = refl
array_seen (json.number s) = no_array (number_of s)
array_seen (json.string s) = refl
array_seen (json.array js) = refl
array_seen (json.object ms) = refl

pub items_data-view : (vs : List (Value Global)) → items_data (value.items_view vs) ≡ items_view vs
items_data-view [] = refl
items_data-view (v ∷ vs) = ap (item (view v)) (items_data-view vs)

pub view_array : (v : Vec (Value Global) Global) → view (Array v) ≡ array (items_view v.items)
view_array v = ap data_of (view-Array v) ∙ ap array (items_data-view v.items)

-- ---- what stands at a place

item-seen : (i : ℕ) (js : json.Items) → get_item i (items_data js) ≡ option_map data_of (tree.get_item i js)
item-seen i json.no_items = refl
item-seen zero (json.item j js) = refl
item-seen (suc i) (json.item j js) = item-seen i js

pub at-seen : (i : ℕ) (j : json.Json) → at i (data_of j) ≡ option_map data_of (tree.at i j)
at-seen i json.null = refl
at-seen i (json.boolean b) = refl
at-seen i (json.number s) = no_place i (number_of s)
at-seen i (json.string s) = refl
at-seen i (json.array js) = item-seen i js
at-seen i (json.object ms) = refl

-- ---- as contracts see it

map-data : (r : Option (Bor (Value Global))) → option_map (λ (v : Bor (Value Global)). view v.now) r ≡ option_map data_of (option_map (λ (v : Bor (Value Global)). value_view v.now) r)
map-data None = refl
map-data (Some v) = refl

pub place_seen : (i : ℕ) (j : json.Json) (r : Option (Bor (Value Global))) → option_map (λ (v : Bor (Value Global)). value_view v.now) r ≡ tree.at i j
    → option_map (λ (v : Bor (Value Global)). view v.now) r ≡ at i (data_of j)
place_seen i j r e = map-data r ∙ ap (option_map data_of) e ∙ sym (at-seen i j)
