-- How a target is spelled that names a route.
use Rattle.std.proofs.Common.{◌≡◌, ℕ, ◌+◌, ◌<◌, List, ◌∷◌, ◌++◌, length, take, drop, get_or, codes, Bool, true, false, cond, Option, Some, None, refl, ap, sym, subst, ◌∙◌, arith, length-append}
use Rattle.std.proofs.Math.Seq.{get_or-append_seam, take-append_seam, drop-append-add}
use Rattle.std.proofs.Math.ListN.{get_or-append}
use Rattle.std.proofs.lemmas.Bool.{eqb-true}
use Rattle.std.proofs.lemmas.Bool.Decides.{nat_tests}
use Rattle.std.proofs.lemmas.List.{take-append-drop}
use Rattle.std.proofs.lemmas.List.Folds.{list_all_at}
use Rattle.std.proofs.lemmas.List.Sums.{passes_at_first, position_or_len_is, split_at_first}
use Rattle.std.proofs.lemmas.Slice.Eq.{bytes_eq-Decides}
use Rattle.std.specs.List.{list_all, position_or_len, starts_with}
use Rattle.std.specs.Prelude.{nat_eq, nat_le, nat_lt, option_map, ◌&&◌}
use Rattle.vocabulary.specs.Names.{in_places, is_name, is_name_letter, name_if}
use Rattle.vocabulary.specs.OptionSteps.{◌>>=◌}
use Rattle.json_requests.specs.Routes.{route_by, route_of, no_meeting}
use Rattle.json_requests.specs.Verbs.{verb_of}
use Rattle.json_requests.specs.declared.route.Route.{Route}
use Rattle.json_requests.specs.declared.route.Route.TheVariants as route
use Rattle.json_requests.specs.declared.verb.OfficeVerb.TheVariants.{Register}
use Rattle.json_requests.specs.declared.verb.Verb.{Verb}
use Rattle.json_requests.specs.declared.verb.Verb.TheVariants.{Call, Closed, Keys, Office, Party}
use Rattle.http_routes.specs.RouteSpelling.{target_of}
use Rattle.http_routes.specs.Targets.{behind_root, is_slash, at_first_slash, served, target_route}

-- ---- what names a route is spelled so

step_of : {A B : Type 0} (found : Option A) (next : A → Option B) (y : B) → found >>= next ≡ Some y → (x : A) × (found ≡ Some x) × (next x ≡ Some y)
step_of None next y e = cc
step_of (Some x) next y e = (x, refl, e)

root_stands : (target rest : List ℕ) → behind_root target ≡ Some rest → target ≡ codes "/m/" ++ rest
root_stands target rest e = by (starts_with nat_eq target (codes "/m/")) refl e
  where
    by : (b : Bool) → starts_with nat_eq target (codes "/m/") ≡ b → cond b (Some (drop 3 target)) None ≡ Some rest → target ≡ codes "/m/" ++ rest
    by true is e =
        let front : codes "/m/" ≡ take 3 target = (bytes_eq-Decides (codes "/m/") (take 3 target)).0 is in
        let same : drop 3 target ≡ rest = cc in
        sym (take-append-drop 3 target) ∙ ap (λ t. t ++ drop 3 target) (sym front) ∙ ap (λ r. codes "/m/" ++ r) same
    by false is e = cc

slash_stands : (bytes : List ℕ) (parts : List ℕ × List ℕ) → at_first_slash bytes ≡ Some parts → bytes ≡ parts.0 ++ (codes "/" ++ parts.1)
slash_stands bytes parts e = by (nat_lt (position_or_len is_slash bytes) (length bytes)) refl e
  where
    by : (b : Bool) → nat_lt (position_or_len is_slash bytes) (length bytes) ≡ b
        → option_map (λ place. (take place bytes, drop (place + 1) bytes)) (cond b (Some (position_or_len is_slash bytes)) None) ≡ Some parts
        → bytes ≡ parts.0 ++ (codes "/" ++ parts.1)
    by true is e =
        let place = position_or_len is_slash bytes in
        let within : place < length bytes = grind (arith, nat_tests) in
        let slash : get_or bytes place 0 ≡ 47 = eqb-true (get_or bytes place 0) 47 (passes_at_first is_slash bytes 0 within) in
        let same : (take place bytes, drop (place + 1) bytes) ≡ parts = cc in
        split_at_first is_slash bytes 0 within
        ∙ ap (λ b. take place bytes ++ (b ∷ drop (place + 1) bytes)) slash
        ∙ ap (λ (p : List ℕ × List ℕ). p.0 ++ (codes "/" ++ p.1)) same
    by false is e = cc

served_same : (found way : Route) → served found ≡ Some way → found ≡ way
served_same route.Closed way e = cc
served_same route.Keys way e = cc
served_same (route.Office meeting Register) way e = cc
served_same other way e = cc

pub no_other : (target : List ℕ) (way : Route) → target_route target ≡ Some way
    → (meeting : List ℕ) × (verb : List ℕ) × (target ≡ target_of meeting verb) × (route_of meeting verb ≡ Some way) × (served way ≡ Some way)
unfolding target_route
no_other target way e =
    let root = step_of (behind_root target) _ way e in
    let parts = step_of (at_first_slash root.0) _ way root.2 in
    let routed = step_of (route_of parts.0.0 parts.0.1) _ way parts.2 in
    let same : routed.0 ≡ way = served_same routed.0 way routed.2 in (
      parts.0.0,
      parts.0.1,
      root_stands target root.0 root.1 ∙ ap (λ r. codes "/m/" ++ r) (slash_stands root.0 parts.0 parts.1),
      routed.1 ∙ ap (λ w. Some w) same,
      subst (λ w. served w ≡ Some way) same routed.2,
    )

-- ---- what is spelled so names its route

letters_all : (a b c : Bool) → (a && b && c) ≡ true → c ≡ true
letters_all true true c e = e
letters_all true false c e = cc
letters_all false b c e = cc

no_slash : (name : List ℕ) → is_name name ≡ true → (k : ℕ) → k < length name → is_slash (get_or name k 0) ≡ false
no_slash name named k within = by (is_slash (get_or name k 0)) refl
  where
    by : (b : Bool) → is_slash (get_or name k 0) ≡ b → b ≡ false
    by false is = refl
    by true is =
        let slash : get_or name k 0 ≡ 47 = eqb-true (get_or name k 0) 47 is in
        let letter : is_name_letter (get_or name k 0) ≡ false = ap is_name_letter slash in
        let some : list_all is_name_letter name ≡ false = list_all_at is_name_letter name k 0 within letter in
        let all : list_all is_name_letter name ≡ true = letters_all (nat_le 1 (length name)) (nat_le (length name) 16) _ named in
        absurd (cc)

parted_at : (name verb : List ℕ) → is_name name ≡ true → at_first_slash (name ++ (codes "/" ++ verb)) ≡ Some (name, verb)
parted_at name verb named =
    let bytes = name ++ (codes "/" ++ verb) in
    let long : length bytes ≡ length name + length (codes "/" ++ verb) = length-append name (codes "/" ++ verb) in
    let place : position_or_len is_slash bytes ≡ length name =
    position_or_len_is is_slash bytes (length name) 0 (omega (arith, long))
    (λ k before. ap is_slash (get_or-append name (codes "/" ++ verb) 0 k before) ∙ no_slash name named k before)
    (λ within. ap is_slash (get_or-append_seam name 47 verb 0)) in
    let within : nat_lt (length name) (length bytes) ≡ true = grind (arith, nat_tests, long) in
    rw (place, within, take-append_seam name (codes "/" ++ verb), drop-append-add name (codes "/" ++ verb) 1) refl

name_there : {A : Type 0} (meeting : List ℕ) (to : List ℕ → A) (way : A) → option_map to (name_if 16 is_name meeting) ≡ Some way → is_name meeting ≡ true
name_there meeting to way e = by (is_name meeting) (in_places 16 meeting) e
  where
    by : (b : Bool) (places : List ℕ) → option_map to (cond b (Some places) None) ≡ Some way → b ≡ true
    by true places e = refl
    by false places e = cc

of_desk : {way : Route} (found : Option (Unit {0})) (desk : Route) → served desk ≡ None → option_map (λ nothing. desk) found ≡ Some way → served way ≡ Some way → ⊥
of_desk None desk none e preserved = cc
of_desk (Some nothing) desk none e preserved = cc

named_by : (verb : Verb) (meeting : List ℕ) (way : Route) → route_by verb meeting ≡ Some way → served way ≡ Some way → is_name meeting ≡ true
named_by Call meeting way e preserved = name_there meeting (λ m. route.Call m) way e
named_by Closed meeting way e preserved = absurd (of_desk (no_meeting meeting) route.Closed refl e preserved)
named_by Keys meeting way e preserved = absurd (of_desk (no_meeting meeting) route.Keys refl e preserved)
named_by (Office verb) meeting way e preserved = name_there meeting (λ m. route.Office m verb) way e
named_by (Party verb) meeting way e preserved = name_there meeting (λ m. route.Party m verb) way e

named_there : (meeting verb : List ℕ) (way : Route) → route_of meeting verb ≡ Some way → served way ≡ Some way → is_name meeting ≡ true
unfolding route_of
named_there meeting verb way e preserved =
    let listed = step_of (verb_of verb) _ way e in
    named_by listed.0 meeting way listed.2 preserved

pub named : (meeting verb : List ℕ) (way : Route) → route_of meeting verb ≡ Some way → served way ≡ Some way → target_route (target_of meeting verb) ≡ Some way
unfolding target_route
named meeting verb way e preserved = rw (parted_at meeting verb (named_there meeting verb way e preserved), e) preserved
