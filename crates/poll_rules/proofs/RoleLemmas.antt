-- The roles in which persons act.
use Rattle.std.proofs.Common.{◌≡◌, ℕ, zero, suc, ◌+◌, ◌<◌, Bool, true, false, cond, List, [], ◌∷◌, ◌++◌, length, get_or, take, refl, sym, ap, ◌∙◌, arith}
use Rattle.std.specs.Prelude.{◌||◌, not, nat_lt, sum_by, Option, Some, None, option_map}
use Rattle.std.specs.Cmp.Lexicographic.{nat_list_cmp_total, texts_ties}
use Rattle.std.specs.List.{cons_option, filter_map, flat_map, list_any}
use Rattle.std.specs.Option.{option_map_or}
use Rattle.std.specs.Ordering.{is_eq, is_lt, eq_by_cmp}
use Rattle.std.specs.Set.{is_member}
use Rattle.std.proofs.lemmas.Bool.Decides.{nat_tests}
use Rattle.std.proofs.lemmas.Grind.{flat_map-append}
use Rattle.std.proofs.lemmas.List.{append-nil, take_more}
use Rattle.std.proofs.lemmas.List.Folds.{list_any_more}
use Rattle.std.proofs.lemmas.List.Sums.{sum_by-cons}
use Rattle.seq.proofs.Booleans.{neither_first, neither_second}
use Rattle.std.proofs.Math.Bool.{or-false}
use Rattle.std.proofs.lemmas.Bool.{not-true, or_from}
use Rattle.std.specs.Cmp.{first_so, second_so}
use Rattle.seq.proofs.Ascending.{differs-from_ascends_by}
use Rattle.seq.specs.Ordered.{ascends_by, differ_by}
use Rattle.vocabulary.specs.Names.{same_name, name_cmp}
use Rattle.vocabulary.specs.declared.kinds.Capacity.{Capacity}
use Rattle.desk_words.proofs.WordRowLemmas.{same_name-true}
use Rattle.desk_words.specs.declared.records.Appointment.{Appointment}
use Rattle.desk_words.specs.declared.records.RegisterRow.{RegisterRow}
use Rattle.proxy_rules.specs.Tiles.{ArePieces, governing_of, places_in, shares_if}
use Rattle.proxy_rules.specs.declared.holdings.Holding.{Holding}
use Rattle.proxy_rules.specs.declared.meeting_records.Cutoffs.{Cutoffs}
use Rattle.proxy_rules.specs.declared.pieces.GovernedPiece.{GovernedPiece}
use Rattle.proxy_rules.proofs.ProxyNameLemmas.{same_name-sym}
use Rattle.proxy_rules.proofs.TileLemmas.{places_that-pieces}
use Rattle.poll_rules.specs.GatheredItems.{are_in}
use Rattle.poll_rules.specs.Roles.{is_proxy_in, proxy_of, role_if}
use Rattle.poll_rules.specs.declared.roles.Role.{Role}

-- ---- persons in order, each once

pub fails_at : {X : Type 0} (p : X → Bool) (xs : List X) (i : ℕ) (d : X) → list_any p xs ≡ false → i < length xs → p (get_or xs i d) ≡ false
fails_at p [] i d none lt = absurd (omega arith)
fails_at p (x ∷ xs) zero d none lt = neither_first (p x) (list_any p xs) none
fails_at p (x ∷ xs) (suc i) d none lt = fails_at p xs i d (neither_second (p x) (list_any p xs) none) (omega arith)

none_before : {X : Type 0} (same : X → X → Bool) (xs : List X) (i : ℕ) (d : X) → differ_by same xs ≡ true → i < length xs → list_any (λ x. same x (get_or xs i d)) (take i xs) ≡ false
none_before same [] i d differ lt = absurd (omega arith)
none_before same (x ∷ xs) zero d differ lt = refl
none_before same (x ∷ xs) (suc i) d differ lt =
    or_from (same x (get_or xs i d)) (list_any (λ y. same y (get_or xs i d)) (take i xs))
    (fails_at (same x) xs i d (not-true (list_any (same x) xs) (first_so (not (list_any (same x) xs)) (differ_by same xs) differ)) (omega arith))
    (none_before same xs i d (second_so (not (list_any (same x) xs)) (differ_by same xs) differ) (omega arith))

-- in order no person stands before itself
pub not_before : (xs : List (List ℕ)) (i : ℕ) (x : List ℕ) → ascends_by (λ a b. is_lt (name_cmp a b)) xs ≡ true → i < length xs → x ≡ get_or xs i x → are_in (take i xs) x ≡ false
not_before xs i x up lt is =
    ap (λ test. list_any test (take i xs)) (λ k (o : List ℕ). texts_ties o x k)
    ∙ ap (λ y. list_any (λ o. is_eq (name_cmp o y)) (take i xs)) is
    ∙ none_before (λ a b. is_eq (name_cmp a b)) xs i x (differs-from_ascends_by nat_list_cmp_total (λ (name : List ℕ). name) xs up) lt

-- to be among them is to be a member of them
pub are_in-is_member : (xs : List (List ℕ)) (person : List ℕ) → are_in xs person ≡ is_member (eq_by_cmp name_cmp) xs person
are_in-is_member xs person = ap (λ test. list_any test xs) (λ k (o : List ℕ). (same_name-sym o person ∙ texts_ties person o) k)

-- one person more is given the role, who was not given it before
given_one : (before : List Role) (capacity : Capacity) (member : List ℕ) (same seen : Bool) → (same ≡ true → seen ≡ false)
    → cond same ((before ++ role_if seen capacity member) ++ record { capacity = capacity; member = member } ∷ []) (before ++ role_if seen capacity member) ≡ before ++ role_if (seen || same) capacity member
given_one before capacity member true seen once =
    ap (λ b. (before ++ role_if b capacity member) ++ record { capacity = capacity; member = member } ∷ []) (once refl)
    ∙ ap (λ roles. roles ++ record { capacity = capacity; member = member } ∷ []) (append-nil before)
    ∙ ap (λ b. before ++ role_if (b || true) capacity member) (sym (once refl))
given_one before capacity member false seen once = ap (λ b. before ++ role_if b capacity member) (sym (or-false seen))

pub given-more : (before : List Role) (capacity : Capacity) (member : List ℕ) (xs : List (List ℕ)) (i : ℕ) (x person : List ℕ) → ascends_by (λ a b. is_lt (name_cmp a b)) xs ≡ true → i < length xs → x ≡ get_or xs i x
    → cond (same_name x person) ((before ++ role_if (are_in (take i xs) person) capacity member) ++ record { capacity = capacity; member = member } ∷ []) (before ++ role_if (are_in (take i xs) person) capacity member)
    ≡ before ++ role_if (are_in (take (i + 1) xs) person) capacity member
given-more before capacity member xs i x person up lt is =
    given_one before capacity member (same_name x person) (are_in (take i xs) person)
    (λ same. ap (are_in (take i xs)) (sym (same_name-true x person same)) ∙ not_before xs i x up lt is)
    ∙ ap (λ b. before ++ role_if b capacity member)
    (ap (λ y. are_in (take i xs) person || same_name y person) is ∙ sym (list_any_more (λ o. same_name o person) xs i x lt))

-- ---- the proxies of a holding

abbrev names : List ℕ → Option Appointment → Bool
names person by = option_map_or (λ (a : Appointment). same_name a.proxy person) by false

one_counted : (person : List ℕ) (by : Option Appointment) (others : List (List ℕ)) (places rest : ℕ) → 0 < places → are_in others person ≡ nat_lt 0 rest
    → are_in (cons_option (option_map (λ (a : Appointment). a.proxy) by) others) person ≡ nat_lt 0 (cond (names person by) places 0 + rest)
one_counted person None others places rest some is = is ∙ ap (nat_lt 0) (zero-add-sym rest)
  where
    zero-add-sym : (n : ℕ) → n ≡ 0 + n
    zero-add-sym n = omega arith
one_counted person (Some a) others places rest some is = one_or (same_name a.proxy person) (are_in others person) places rest some is
  where
    one_or : (b seen : Bool) (places rest : ℕ) → 0 < places → seen ≡ nat_lt 0 rest → (b || seen) ≡ nat_lt 0 (cond b places 0 + rest)
    one_or true seen places rest some is = grind (arith, nat_tests)
    one_or false seen places rest some is = grind (arith, nat_tests)

-- those who govern a piece are those whose pieces have shares together
pub proxies-pieces : (person : List ℕ) (holding : Holding) (pieces : List GovernedPiece) → are_in (filter_map (proxy_of holding) pieces) person ≡ nat_lt 0 (sum_by (shares_if (names person) holding) pieces)
proxies-pieces person holding [] = refl
proxies-pieces person holding (piece ∷ pieces) =
    one_counted person (governing_of holding piece) (filter_map (proxy_of holding) pieces) (places_in piece.range) (sum_by (shares_if (names person) holding) pieces)
    (omega arith) (proxies-pieces person holding pieces)
    ∙ ap (nat_lt 0) (sym (sum_by-cons (shares_if (names person) holding) piece pieces))

-- they are those who govern a share
pub proxies-shares : (person : List ℕ) (cutoffs : Cutoffs) (holding : Holding) (pieces : List GovernedPiece) → ArePieces cutoffs holding pieces
    → are_in (filter_map (proxy_of holding) pieces) person ≡ is_proxy_in cutoffs holding person
proxies-shares person cutoffs holding pieces are = proxies-pieces person holding pieces ∙ ap (nat_lt 0) (places_that-pieces (names person) cutoffs holding pieces are)

-- ---- rows

-- the roles by one row more
pub roles-more : (by : RegisterRow → List Role) (rows : List RegisterRow) (i : ℕ) (row : RegisterRow) → i < length rows → row ≡ get_or rows i row → flat_map by (take (i + 1) rows) ≡ flat_map by (take i rows) ++ by row
roles-more by rows i row lt is =
    ap (flat_map by) (take_more rows i row lt)
    ∙ flat_map-append by (take i rows) (get_or rows i row ∷ [])
    ∙ ap (λ r. flat_map by (take i rows) ++ (by r ++ [])) (sym is)
    ∙ ap (λ l. flat_map by (take i rows) ++ l) (append-nil (by row))
