-- What stands at some names in an object, as its members go in one after another.
use Rattle.std.proofs.Common.{◌≡◌, ℕ, zero, suc, ◌+◌, ◌-◌, ◌<◌, ◌≤◌, List, [], ◌∷◌, map, length, replicate, set, take, get_or, Bool, true, false, cond, Option, Some, None, option_map, Result, Ok, Err, Ordering, Less, Equal, Greater, nat_cmp, Bor, Global, bytes_eq, true≢false, refl, sym, ap, ◌∙◌, subst, arith}
use Rattle.std.specs.Prelude.{◌&&◌, ◌||◌, not, slice_set, IsErrAnd}
use Rattle.std.specs.Cmp.Lexicographic.{slice_cmp}
use Rattle.std.specs.List.{position_from}
use Rattle.std.specs.Ordering.{is_eq, match_ordering}
use Rattle.std.proofs.lemmas.Bool.{and_parts}
use Rattle.std.proofs.lemmas.List.{map-set}
use Rattle.std.proofs.lemmas.Map.Text.{is_eq-slice_cmp}
use Rattle.std.proofs.lemmas.Slice.Eq.{bytes_eq-Decides}
use Rattle.json.specs.Token.{Token}
use Rattle.json.specs.Json as json
use Rattle.json.specs.Value.{value_view}
use Rattle.json.specs.declared.value.Value.{Value}
use Rattle.json.proofs.Grammar.{members_end, members_fail, members_more, members_no_key, read_key-shorter}
use Rattle.serde_json.specs.Data.{Data, object, Members, no_members, member, put}
use Rattle.serde_json.specs.Find.{get_member}
use Rattle.serde_json.specs.Read.{converted}
use Rattle.serde_json.proofs.Views.{get_member-put, get_member-put_other}
use Rattle.json_requests.specs.BodyValues.{data_of, fits, members_data, members_fit, view}
use Rattle.json_requests.specs.JsonFields.{Fields, all_asked, fields_among, fields_in, fields_view, is_asked}
use Rattle.json_requests.specs.declared.ask.BodyError.{BodyError}
use Rattle.json_requests.specs.declared.ask.BodyError.TheVariants.{Unreadable, Memory}
use Rattle.json_requests.specs.MemberFields.{all_differ, fields_read, fitting, nested, texts}
use Rattle.json_requests.specs.ParsedBodies.{BodyAgrees, BodyErrAgrees}

-- ---- errors

err_agrees : {A B : Type 0} (e : BodyError) (a : Option A) (b : Option B) → BodyErrAgrees e a → (a ≡ None → b ≡ None) → BodyErrAgrees e b
err_agrees Unreadable a b none then = then none
err_agrees Memory a b none then = tt

-- what stops one reading stops another that needs it
pub stopped : {X A B : Type 0} (seen : X → B) (e : BodyError) (a : Option A) (b : Option B) (r : Result X BodyError) → BodyErrAgrees e a → (a ≡ None → b ≡ None) → IsErrAnd r (λ f. f ≡ e) → BodyAgrees seen r b
stopped seen e a b (Ok x) none then is = absurd is
stopped seen e a b (Err f) none then is = subst (λ x. BodyErrAgrees x b) (sym is) (err_agrees e a b none then)

-- what is set in a part of a list
pub take-set_within : {X : Type 0} (n : ℕ) (xs : List X) (i : ℕ) (y : X) → take n (set xs i y) ≡ set (take n xs) i y
take-set_within zero [] i y = refl
take-set_within zero (x ∷ xs) i y = refl
take-set_within (suc n) [] i y = refl
take-set_within (suc n) (x ∷ xs) zero y = refl
take-set_within (suc n) (x ∷ xs) (suc i) y = ap (λ ys. x ∷ ys) (take-set_within n xs i y)

-- a part of a list of one value
pub take-replicate : {X : Type 0} (x : X) (n m : ℕ) → n ≤ m → take n (replicate m x) ≡ replicate n x
take-replicate x zero m few = refl
take-replicate x (suc n) zero few = absurd (omega (arith, few))
take-replicate x (suc n) (suc m) few = ap (λ xs. x ∷ xs) (take-replicate x n m (omega (arith, few)))

-- ---- names that are asked for

and_swap : (a b c : Bool) → (b && (a && c)) ≡ (a && (b && c))
and_swap true b c = refl
and_swap false true c = refl
and_swap false false c = refl

and_twice : (a b : Bool) → (a && b) ≡ (a && (a && b))
and_twice true b = refl
and_twice false b = refl

same_of : (k l : List ℕ) → slice_cmp nat_cmp k l ≡ Equal → k ≡ l
same_of k l is = (bytes_eq-Decides k l).0 (sym (is_eq-slice_cmp k l) ∙ ap is_eq is)

module _ (names : List (List ℕ)) (k : List ℕ) (d : Data) where
  asked-put_at : (o : Ordering) (l : List ℕ) (e : Data) (ms : Members) → slice_cmp nat_cmp k l ≡ o → all_asked names (put k d ms) ≡ (is_asked names k && all_asked names ms)
      → all_asked names (match_ordering o (member k d (member l e ms)) (member l d ms) (member l e (put k d ms))) ≡ (is_asked names k && all_asked names (member l e ms))
  asked-put_at Less l e ms is later = refl
  asked-put_at Equal l e ms is later =
      subst (λ x. (is_asked names x && all_asked names ms) ≡ (is_asked names k && (is_asked names x && all_asked names ms))) (same_of k l is) (and_twice (is_asked names k) (all_asked names ms))
  asked-put_at Greater l e ms is later = ap (λ b. is_asked names l && b) later ∙ and_swap (is_asked names k) (is_asked names l) (all_asked names ms)

  -- what is put is asked for, and what stands there
  asked-put : (ms : Members) → all_asked names (put k d ms) ≡ (is_asked names k && all_asked names ms)
  asked-put no_members = refl
  asked-put (member l e ms) = asked-put_at (slice_cmp nat_cmp k l) l e ms refl (asked-put ms)

and_false : (b : Bool) → (b && false) ≡ false
and_false true = refl
and_false false = refl

-- what is not asked for stays there
not_asked-later : (names : List (List ℕ)) (ms : json.Members) (found : Members) → all_asked names found ≡ false → all_asked names (members_data ms found) ≡ false
not_asked-later names json.no_members found none = none
not_asked-later names (json.member k j ms) found none =
    not_asked-later names ms (put k (data_of j) found) (asked-put names k (data_of j) found ∙ ap (λ b. is_asked names k && b) none ∙ and_false (is_asked names k))

-- ---- what stands at the names

abbrev at_names : Members → List (Bor (List ℕ)) → Fields
at_names ms names = map (λ name. get_member name ms) (texts names)

other_of : (k l : List ℕ) → bytes_eq k l ≡ false → k ≡ l → ⊥
other_of k l is same = true≢false (sym ((bytes_eq-Decides k l).1 same) ∙ is)

or_parts : (a b : Bool) → (a || b) ≡ false → (a ≡ false) × (b ≡ false)
or_parts false b is = (refl, is)
or_parts true b is = absurd (true≢false is)

not_false : (b : Bool) → not b ≡ true → b ≡ false
not_false false is = refl
not_false true is = sym is

module _ (k : List ℕ) (d : Data) (found : Members) where
  -- the other names keep their values
  others-put : (names : List (Bor (List ℕ))) → is_asked (texts names) k ≡ false → at_names (put k d found) names ≡ at_names found names
  others-put [] none = refl
  others-put (n ∷ names) none =
      let both = or_parts (bytes_eq n.now k) (is_asked (texts names) k) none in
      ap (λ x. x ∷ at_names (put k d found) names) (get_member-put_other n.now k d found (other_of n.now k both.0)) ∙ ap (λ xs. get_member n.now found ∷ xs) (others-put names both.1)

  abbrev Placed : List (Bor (List ℕ)) → ℕ → ℕ → Type 0
  Placed names from place = (i : ℕ) × (place ≡ from + i) × (set (at_names found names) i (Some d) ≡ at_names (put k d found) names)

  placed_at : (b : Bool) (n : Bor (List ℕ)) (names : List (Bor (List ℕ))) (from place : ℕ) → bytes_eq n.now k ≡ b → is_asked (texts names) n.now ≡ false
      → cond b (Some from) (position_from (λ (own : Bor (List ℕ)). bytes_eq own.now k) (from + 1) names) ≡ Some place
      → (position_from (λ (own : Bor (List ℕ)). bytes_eq own.now k) (from + 1) names ≡ Some place → Placed names (from + 1) place) → Placed (n ∷ names) from place
  placed_at true n names from place is apart at later =
      let same : n.now ≡ k = (bytes_eq-Decides n.now k).0 is in
      let here : from ≡ place = cc in
      let first : Some d ≡ get_member n.now (put k d found) = sym (subst (λ x. get_member x (put k d found) ≡ Some d) (sym same) (get_member-put k d found)) in
      let rest : at_names found names ≡ at_names (put k d found) names = sym (others-put names (subst (λ x. is_asked (texts names) x ≡ false) same apart)) in
      (0, omega (arith, here), ap (λ x. x ∷ at_names found names) first ∙ ap (λ xs. get_member n.now (put k d found) ∷ xs) rest)
  placed_at false n names from place is apart at later =
      let rest = later at in
      let first : get_member n.now found ≡ get_member n.now (put k d found) = sym (get_member-put_other n.now k d found (other_of n.now k is)) in
      (suc rest.0, omega (arith, rest.1), ap (λ x. x ∷ set (at_names found names) rest.0 (Some d)) first ∙ ap (λ xs. get_member n.now (put k d found) ∷ xs) rest.2)

  placed : (names : List (Bor (List ℕ))) (from place : ℕ) → all_differ (texts names) ≡ true → position_from (λ (own : Bor (List ℕ)). bytes_eq own.now k) from names ≡ Some place → Placed names from place
  placed [] from place differ at = cc
  placed (n ∷ names) from place differ at =
      let both = and_parts (not (is_asked (texts names) n.now)) (all_differ (texts names)) differ in
      placed_at (bytes_eq n.now k) n names from place refl (not_false _ both.0) at (λ later. placed names (from + 1) place both.1 later)

  asked_at : (b : Bool) (n : Bor (List ℕ)) (names : List (Bor (List ℕ))) (from place : ℕ)
      → cond b (Some from) (position_from (λ (own : Bor (List ℕ)). bytes_eq own.now k) (from + 1) names) ≡ Some place
      → (position_from (λ (own : Bor (List ℕ)). bytes_eq own.now k) (from + 1) names ≡ Some place → is_asked (texts names) k ≡ true) → (b || is_asked (texts names) k) ≡ true
  asked_at true n names from place at later = refl
  asked_at false n names from place at later = later at

-- a name that has a place is asked for
asked-place : (k : List ℕ) (names : List (Bor (List ℕ))) (from place : ℕ) → position_from (λ (own : Bor (List ℕ)). bytes_eq own.now k) from names ≡ Some place → is_asked (texts names) k ≡ true
asked-place k [] from place at = cc
asked-place k (n ∷ names) from place at = asked_at k (data_of json.null) no_members (bytes_eq n.now k) n names from place at (λ later. asked-place k names (from + 1) place later)

or_true : (b : Bool) → (b || true) ≡ true
or_true true = refl
or_true false = refl

asked-there : (names : List (Bor (List ℕ))) (i : ℕ) (k : List ℕ) (d : Bor (List ℕ)) → i < length names → bytes_eq (get_or names i d).now k ≡ true → is_asked (texts names) k ≡ true
asked-there [] i k d lt same = absurd (omega (arith, lt))
asked-there (n ∷ names) zero k d lt same = ap (λ b. b || is_asked (texts names) k) same
asked-there (n ∷ names) (suc i) k d lt same = ap (λ b. bytes_eq n.now k || b) (asked-there names i k d (omega (arith, lt)) same) ∙ or_true (bytes_eq n.now k)

passed : (b : Bool) (n : Bor (List ℕ)) (names : List (Bor (List ℕ))) (k : List ℕ) (from i : ℕ) (rest : Option ℕ) → bytes_eq n.now k ≡ b → is_asked (texts names) n.now ≡ false → is_asked (texts names) k ≡ true
    → rest ≡ Some (from + 1 + i) → cond b (Some from) rest ≡ Some (from + suc i)
passed true n names k from i rest same apart asked later =
    absurd (true≢false (sym asked ∙ ap (is_asked (texts names)) (sym ((bytes_eq-Decides n.now k).0 same)) ∙ apart))
passed false n names k from i rest same apart asked later = later ∙ ap Some (omega arith)

-- where names differ, a name has its first place where it stands
pub first-there : (names : List (Bor (List ℕ))) (from i : ℕ) (k : List ℕ) (d : Bor (List ℕ)) → all_differ (texts names) ≡ true → i < length names → bytes_eq (get_or names i d).now k ≡ true
    → position_from (λ (own : Bor (List ℕ)). bytes_eq own.now k) from names ≡ Some (from + i)
first-there [] from i k d differ lt same = absurd (omega (arith, lt))
first-there (n ∷ names) from zero k d differ lt same = rw same (ap Some (omega arith))
first-there (n ∷ names) from (suc i) k d differ lt same =
    let both = and_parts (not (is_asked (texts names) n.now)) (all_differ (texts names)) differ in
    let less : i < length names = omega (arith, lt) in
    passed (bytes_eq n.now k) n names k from i _ refl (not_false _ both.0) (asked-there names i k d less same) (first-there names (from + 1) i k d both.1 less same)

none_at : (k : List ℕ) (b : Bool) (names : List (Bor (List ℕ))) (from : ℕ)
    → cond b (Some from) (position_from (λ (own : Bor (List ℕ)). bytes_eq own.now k) (from + 1) names) ≡ None
    → (position_from (λ (own : Bor (List ℕ)). bytes_eq own.now k) (from + 1) names ≡ None → is_asked (texts names) k ≡ false) → (b || is_asked (texts names) k) ≡ false
none_at k true names from at later = cc
none_at k false names from at later = later at

-- and one that has none is not
not_asked-place : (k : List ℕ) (names : List (Bor (List ℕ))) (from : ℕ) → position_from (λ (own : Bor (List ℕ)). bytes_eq own.now k) from names ≡ None → is_asked (texts names) k ≡ false
not_asked-place k [] from at = refl
not_asked-place k (n ∷ names) from at = none_at k (bytes_eq n.now k) names from at (λ later. not_asked-place k names (from + 1) later)

-- ---- members that are still to go in

-- what members say, after those that went in before
abbrev pub say_after : List (List ℕ) → Members → json.Members → Option Fields
say_after names found ms = cond (members_fit ms) (fields_among names (members_data ms found)) None

-- The values are those of the members that went in, and the tokens are of those still to go in.
pub record Gathers (names : List (Bor (List ℕ))) (all now : List Token) (vs : List (Option (Value Global))) : Type 0 where
  pub found : Members
  pub turns : ℕ
  pub enough : length now ≤ turns
  pub shorter : length now ≤ length all
  pub left : fields_read (texts names) all ≡ converted (say_after (texts names) found) (json.members (json.value nested) turns now)
  pub seen : fields_view vs ≡ at_names found names
  pub asked : all_asked (texts names) found ≡ true

none-seen : (names : List (Bor (List ℕ))) → fields_view (replicate (length names) None) ≡ at_names no_members names
none-seen [] = refl
none-seen (n ∷ names) = ap (λ xs. None ∷ xs) (none-seen names)

-- an object with no fields
pub no_fields-seen : (names : List (Bor (List ℕ))) (vs : List (Option (Value Global))) → vs ≡ replicate (length names) None → fields_in (texts names) (object no_members) ≡ Some (fields_view vs)
unfolding fields_in
no_fields-seen names vs none = ap Some (sym (ap fields_view none ∙ none-seen names))

pub gathers-none : (names : List (Bor (List ℕ))) (all : List Token) (vs : List (Option (Value Global))) → vs ≡ replicate (length names) None → Gathers names all all vs
gathers-none names all vs none = record {
  found = no_members;
  turns = length all;
  enough = omega arith;
  shorter = omega arith;
  left = refl;
  seen = ap fields_view none ∙ none-seen names;
  asked = refl;
}

converted_one : {A : Type 0} (f : json.Members → Option A) (k : List ℕ) (j : json.Json) (more : Option (json.Members × List Token))
    → converted f (json.parse_map (json.member k j) more) ≡ converted (λ ms. f (json.member k j ms)) more
converted_one f k j None = refl
converted_one f k j (Some p) = refl

converted_none : {A : Type 0} (f : json.Members → Option A) (more : Option (json.Members × List Token)) → ((ms : json.Members) → f ms ≡ None) → converted f more ≡ None
converted_none f None none = refl
converted_none f (Some p) none = ap (λ (o : Option _). option_map (λ b. (b, p.1)) o) (none p.0)

cond_none : (b : Bool) (o : Option Fields) → o ≡ None → cond b o None ≡ None
cond_none true o none = none
cond_none false o none = refl

unasked : (names : List (List ℕ)) (ms : Members) → all_asked names ms ≡ false → fields_among names ms ≡ None
unasked names ms none = ap (λ b. cond b (Some (map (λ name. get_member name ms) names)) None) none

fitting_at : (b : Bool) (p : json.Json × List Token) (j : json.Json) (r : List Token) → fits p.0 ≡ b → cond b (Some p) None ≡ Some (j, r) → (Some p ≡ Some (j, r)) × (fits j ≡ true)
fitting_at true p j r fit is = let same : p ≡ (j, r) = cc in (is, sym (ap (λ (q : json.Json × List Token). fits q.0) same) ∙ fit)
fitting_at false p j r fit is = cc

fitting_some : (o : Option (json.Json × List Token)) (j : json.Json) (r : List Token) → fitting o ≡ Some (j, r) → (o ≡ Some (j, r)) × (fits j ≡ true)
fitting_some None j r is = cc
fitting_some (Some p) j r is = fitting_at (fits p.0) p j r refl is

no_fit : (b : Bool) (p : json.Json × List Token) → cond b (Some p) None ≡ None → b ≡ false
no_fit true p is = cc
no_fit false p is = refl

module _ (names : List (Bor (List ℕ))) (all now : List Token) (vs : List (Option (Value Global))) (g : Gathers names all now vs) where
  -- where no name is next, nothing is read
  pub gathers-no_key : json.read_key now ≡ None → fields_read (texts names) all ≡ None
  gathers-no_key none = g.left ∙ ap (converted (say_after (texts names) g.found)) (members_no_key (json.value nested) g.turns now none)

  -- at the end of the object it is read
  pub gathers-end : (r : List Token) → json.read_key now ≡ Some (None, r) → fields_read (texts names) all ≡ Some (fields_view vs, r)
  gathers-end r over =
      g.left
      ∙ ap (converted (say_after (texts names) g.found)) (members_end (json.value nested) g.turns now r g.enough over)
      ∙ ap (λ b. option_map (λ (fields : Fields). (fields, r)) (cond b (Some (at_names g.found names)) None)) g.asked
      ∙ ap (λ fields. Some (fields, r)) (sym g.seen)

  module _ (k : List ℕ) (s : List Token) (key : json.read_key now ≡ Some (Some k, s)) where
    turn : (j : json.Json) (r : List Token) (b : Bool) → json.value nested s ≡ Some (j, r) → fits j ≡ b
        → fields_read (texts names) all ≡ converted (λ ms. cond (b && members_fit ms) (fields_among (texts names) (members_data ms (put k (data_of j) g.found))) None) (json.members (json.value nested) (g.turns - 1) r)
    turn j r b is fit =
        let less = read_key-shorter now (Some k) s key in
        let more = json.members (json.value nested) (g.turns - 1) r in
        g.left
        ∙ ap (converted (say_after (texts names) g.found)) (members_more (json.value nested) g.turns k now s r j (omega (arith, less, g.enough)) key is)
        ∙ converted_one (say_after (texts names) g.found) k j more
        ∙ ap (λ c. converted (λ ms. cond (c && members_fit ms) (fields_among (texts names) (members_data ms (put k (data_of j) g.found))) None) more) fit

    fail_at : (o : Option (json.Json × List Token)) → json.value nested s ≡ o → fitting o ≡ None → fields_read (texts names) all ≡ None
    fail_at None is none = g.left ∙ ap (converted (say_after (texts names) g.found)) (members_fail (json.value nested) g.turns k now s key is)
    fail_at (Some p) is none = turn p.0 p.1 false is (no_fit (fits p.0) p none) ∙ converted_none _ (json.members (json.value nested) (g.turns - 1) p.1) (λ ms. refl)

    -- where no value follows the name, or one that does not fit, nothing is read
    pub gathers-fail : fitting (json.value nested s) ≡ None → fields_read (texts names) all ≡ None
    gathers-fail none = fail_at (json.value nested s) refl none

    module _ (v : Value Global) (r : List Token) (read : fitting (json.value nested s) ≡ Some (value_view v, r)) where
      -- nor where the name is not asked for
      pub gathers-unasked : position_from (λ (own : Bor (List ℕ)). bytes_eq own.now k) 0 names ≡ None → fields_read (texts names) all ≡ None
      gathers-unasked none =
          let both = fitting_some (json.value nested s) (value_view v) r read in
          let gone = asked-put (texts names) k (view v) g.found ∙ ap (λ b. b && all_asked (texts names) g.found) (not_asked-place k names 0 none) in
          turn (value_view v) r true both.0 both.1
          ∙ converted_none _ (json.members (json.value nested) (g.turns - 1) r) (λ ms. cond_none (members_fit ms) _ (unasked (texts names) _ (not_asked-later (texts names) ms (put k (view v) g.found) gone)))

      -- the value goes to the place of its name
      pub gathers-turn : (place : ℕ) (new : List (Option (Value Global))) → position_from (λ (own : Bor (List ℕ)). bytes_eq own.now k) 0 names ≡ Some place → all_differ (texts names) ≡ true
          → new ≡ slice_set vs place (Some v) → length r < length s → Gathers names all r new
      gathers-turn place new at differ is less =
          let both = fitting_some (json.value nested s) (value_view v) r read in
          let there = placed k (view v) g.found names 0 place differ at in
          let here : there.0 ≡ place = omega (arith, there.1) in
          let before = read_key-shorter now (Some k) s key in
          record {
            found = put k (view v) g.found;
            turns = g.turns - 1;
            enough = omega (arith, less, before, g.enough);
            shorter = omega (arith, less, before, g.shorter);
            left = turn (value_view v) r true both.0 both.1;
            seen =
                ap fields_view is
                ∙ map-set (option_map view) vs place (Some v)
                ∙ ap (λ xs. set xs place (Some (view v))) g.seen
                ∙ ap (λ i. set (at_names g.found names) i (Some (view v))) (sym here)
                ∙ there.2;
            asked = asked-put (texts names) k (view v) g.found ∙ ap (λ b. b && all_asked (texts names) g.found) (asked-place k names 0 place at) ∙ g.asked;
          }
