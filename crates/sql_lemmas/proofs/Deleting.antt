-- What DELETE does, for any schema.
use Rattle.std.proofs.Common.{◌≡◌, ◌≢◌, inl, inr, ℕ, ℤ, pos, negsuc, List, [], ◌∷◌, ◌++◌, map, filter, flat_map, slice_get, Bool, true, false, not, cond, ◌&&◌, ◌||◌, Some, None, Ok, refl, sym, ap, subst, ◌∙◌, true≢false, IsPermutation, IsTrue, Ordering, Less, Equal, Greater, is_eq}
use Rattle.std.specs.List.{AllByRecursion, list_any, list_all}
use Rattle.std.proofs.lemmas.List.Sorted.{list_any-IsPermutation, IsPermutation-map}
use Rattle.sqlite.specs.declared.types.Value.TheVariants.{Null, Int}
use Rattle.sqlite.specs.Order.{Row, value_cmp}
use Rattle.sqlite_value.proofs.OrderLemmas.{value_cmp_total}
use Rattle.std.proofs.lemmas.Cmp.{tied_itself}
use Rattle.sqlite.specs.Term.{Term, lit, col, holds, eval_all}
use Rattle.sqlite.specs.Query.{Query, Output, inner, end, output, IsAnswer}
use Rattle.sqlite.specs.Program.{overlay, given_at}
use Rattle.sqlite.specs.Table.{Table}
use Rattle.sqlite.specs.Schema.{Schema}
use Rattle.sqlite.specs.Tree.{Trees, rowid, has_rowid, without_rowid}
use Rattle.sqlite.specs.Edit.{edit_of, id_in, without_all}
use Rattle.sqlite.specs.Rowids.TheVariants.{Given}
use Rattle.sqlite_rules.specs.Calls.{ids_of}
use Rattle.sqlite_rules.specs.Lists.{Has}
use Rattle.sqlite.specs.Command.TheVariants.{Delete}
use Rattle.sqlite.specs.Does.{Tally, Does}
use Rattle.sqlite.specs.Rows.{Written}
use Rattle.sqlite.specs.Effect.{Database}
use Rattle.sqlite.specs.State.{State, mode_of, Writes}
use Rattle.sqlite_trees.proofs.ListLemmas.{map-map}
use Rattle.sql_schema.specs.Statements.{IsRising, Layout, has_table}
use Rattle.sqlite_trees.specs.View.{is_int}
use Rattle.std.proofs.lemmas.Bool.{cases_Bool}
use Rattle.sqlite_rules.proofs.PlaceLemmas.{tied_same}
use Rattle.sqlite_rules.proofs.ListLemmas.{has_filtered}
use Rattle.sql_lemmas.proofs.Seq.{is_its_id}
use Rattle.sql_lemmas.proofs.Writing.{went, same_value}
use Rattle.sql_lemmas.proofs.Acting.{first_step, step}
use Rattle.sql_lemmas.proofs.Frames.{AreApart}

-- ---- the rows that are left

filter_both : {A : Type 0} (p q : A → Bool) (xs : List A) → filter p (filter q xs) ≡ filter (λ x. q x && p x) xs
filter_both p q [] = refl
filter_both p q (x ∷ xs) =
    elim (q x) as (λ b. filter p (cond b (x ∷ filter q xs) (filter q xs)) ≡ cond (b && p x) (x ∷ filter (λ y. q y && p y) xs) (filter (λ y. q y && p y) xs))
    [ true ↦ ap (λ l. cond (p x) (x ∷ l) l) (filter_both p q xs) | false ↦ filter_both p q xs ]

filter_same : {A : Type 0} (p q : A → Bool) (xs : List A) → AllByRecursion (λ x. p x ≡ q x) xs → filter p xs ≡ filter q xs
filter_same p q [] h = refl
filter_same p q (x ∷ xs) h = rw (h.0, filter_same p q xs h.1) refl

merged : (a b : Bool) → (not a && not b) ≡ not (a || b)
merged true b = refl
merged false b = refl

without_is : (ids : List ℤ) (rows : List Row) → without_all rows ids ≡ filter (λ r. not (list_any (λ id. has_rowid id r) ids)) rows
without_is [] rows = all_stay rows
  where
    all_stay : (rows : List Row) → rows ≡ filter (λ r. true) rows
    all_stay [] = refl
    all_stay (r ∷ rows) = ap (λ l. r ∷ l) (all_stay rows)
without_is (id ∷ ids) rows =
    without_is ids (without_rowid id rows) ∙ filter_both (λ r. not (list_any (λ i. has_rowid i r) ids)) (λ r. not (has_rowid id r)) rows
    ∙ ap (λ p. filter p rows) (λ i. λ r. merged (has_rowid id r) (list_any (λ j. has_rowid j r) ids) i)

-- a query of the rows that pass the tests, each with its number and then what the terms show of it
abbrev pub picked : ℕ → List Term → List Term → Query
picked tree tests shows = record { from = inner tree end; filter = tests; group = None; project = col 1 0 ∷ shows; distinct = false; collations = []; order = []; limit = lit (Int (negsuc 0)); offset = lit (Int (pos 0)) }

abbrev pub chosen : ℕ → List Term → Query
chosen tree tests = picked tree tests []

abbrev pub passes : List Term → Row → Row → Bool
passes tests params r = list_all (holds (params ∷ r ∷ [])) tests

found : (rows : List Row) (r : Row) → list_any (λ x. has_rowid (id_in (rowid x)) r) rows ≡ true → (x : Row) × Has rows x × (has_rowid (id_in (rowid x)) r ≡ true)
found [] r h = absurd (true≢false (sym h))
found (x ∷ rows) r h = go (has_rowid (id_in (rowid x)) r) refl h (found rows r)
  where
    go : (b : Bool) → has_rowid (id_in (rowid x)) r ≡ b → (b || list_any (λ y. has_rowid (id_in (rowid y)) r) rows) ≡ true
        → (list_any (λ y. has_rowid (id_in (rowid y)) r) rows ≡ true → (y : Row) × Has rows y × (has_rowid (id_in (rowid y)) r ≡ true)) → (y : Row) × Has (x ∷ rows) y × (has_rowid (id_in (rowid y)) r ≡ true)
    go true e t next = (x, inl refl, e)
    go false e t next = let y = next t in (y.0, inr y.1, y.2)

any_there : {A : Type 0} (p : A → Bool) (xs : List A) (x : A) → Has xs x → p x ≡ true → list_any p xs ≡ true
any_there p [] x h e = absurd h
any_there p (y ∷ xs) x (inl same) e = let here : p y ≡ true = ap p (sym same) ∙ e in rw here refl
any_there p (y ∷ xs) x (inr later) e = either_true (p y) _ (any_there p xs x later e)
  where
    either_true : (a b : Bool) → b ≡ true → (a || b) ≡ true
    either_true true b h = refl
    either_true false b h = h

pub stays_in : {A : Type 0} (p : A → Bool) (xs : List A) (x : A) → Has xs x → p x ≡ true → Has (filter p xs) x
stays_in p [] x h e = absurd h
stays_in p (y ∷ xs) x (inl same) e = let here : p y ≡ true = ap p (sym same) ∙ e in rw here (inl same)
stays_in p (y ∷ xs) x (inr later) e = go (p y) (stays_in p xs x later e)
  where
    go : (b : Bool) → Has (filter p xs) x → Has (cond b (y ∷ filter p xs) (filter p xs)) x
    go true h = inr h
    go false h = h

is_there : (rows : List Row) (x : Row) → AllByRecursion (λ r. IsTrue (is_int (rowid r))) rows → Has rows x → IsTrue (is_int (rowid x))
is_there [] x h there = absurd there
is_there (y ∷ rows) x h (inl same) = rw same h.0
is_there (y ∷ rows) x h (inr later) = is_there rows x h.1 later

equal_is : (o : Ordering) → is_eq o ≡ true → o ≡ Equal
equal_is Less h = absurd (true≢false (sym h))
equal_is Equal h = refl
equal_is Greater h = absurd (true≢false (sym h))

alike : (rows : List Row) (x r : Row) → IsRising rows → Has rows x → Has rows r → has_rowid (id_in (rowid x)) r ≡ true → r ≡ x
alike rows x r up hx hr h =
    let id = is_its_id x (is_there rows x up.1 hx) in
    tied_same rows r x up.0 hr hx (subst (λ v. value_cmp (rowid r) v ≡ Equal) (sym id) (equal_is _ h))

itself : (rows : List Row) (r : Row) → IsRising rows → Has rows r → has_rowid (id_in (rowid r)) r ≡ true
itself rows r up h = let id = is_its_id r (is_there rows r up.1 h) in subst (λ v. is_eq (value_cmp (rowid r) v) ≡ true) id (ap is_eq (tied_itself value_cmp_total (rowid r)))

each_row : (m : Row → Bool) (rows : List Row) (r : Row) → IsRising rows → Has rows r → list_any (λ x. has_rowid (id_in (rowid x)) r) (filter m rows) ≡ m r
each_row m rows r up h = elim (cases_Bool (m r)) [
  | inl so ↦ any_there (λ x. has_rowid (id_in (rowid x)) r) (filter m rows) r (stays_in m rows r h so) (itself rows r up h) ∙ sym so
  | inr not_so ↦ elim (cases_Bool (list_any (λ x. has_rowid (id_in (rowid x)) r) (filter m rows))) [
    | inl some ↦
        let y = found (filter m rows) r some in
        let was = has_filtered m rows y.0 y.1 in
        let same = alike rows y.0 r up was.0 h y.2 in
        absurd (true≢false (sym was.1 ∙ ap m (sym same) ∙ not_so))
    | inr none ↦ none ∙ sym not_so
  ]
]

by_each : {A : Type 0} (P : A → Type 0) (xs : List A) → ((x : A) → Has xs x → P x) → AllByRecursion P xs
by_each P [] h = tt
by_each P (x ∷ xs) h = (h x (inl refl), by_each P xs (λ y there. h y (inr there)))

any-map : {A B : Type 0} (p : B → Bool) (f : A → B) (xs : List A) → list_any p (map f xs) ≡ list_any (λ x. p (f x)) xs
any-map p f [] = refl
any-map p f (x ∷ xs) = ap (λ b. p (f x) || b) (any-map p f xs)

pub each_passed : {A B : Type 0} (f : A → B) (p : A → Bool) (xs : List A) → flat_map (λ x. cond (p x) (f x ∷ []) []) xs ≡ map f (filter p xs)
each_passed f p [] = refl
each_passed f p (x ∷ xs) =
    elim (p x) as (λ b. cond b (f x ∷ []) [] ++ flat_map (λ y. cond (p y) (f y ∷ []) []) xs ≡ map f (cond b (x ∷ filter p xs) (filter p xs)))
    [ true ↦ ap (λ l. f x ∷ l) (each_passed f p xs) | false ↦ each_passed f p xs ]

-- the rows that a choice finds, in some order
pub picked_rows : (tree : ℕ) (tests shows : List Term) (db : Trees) (params : Row) (rows : List Row) → given_at [] tree ≡ None → IsAnswer (picked tree tests shows) (overlay db []) params rows
    → IsPermutation (map (λ r. eval_all (col 1 0 ∷ shows) (params ∷ r ∷ [])) (filter (passes tests params) (db tree))) rows
picked_rows tree tests shows db params rows none a =
    let q = picked tree tests shows in
    let here : overlay db [] tree ≡ db tree = rw none in
    let staged : a.staged ≡ map (λ r. params ∷ r ∷ []) (filter (passes tests params) (db tree)) =
    a.grouped ∙ each_passed (λ r. params ∷ r ∷ []) (passes tests params) (overlay db [] tree) ∙ ap (λ rs. map (λ r. params ∷ r ∷ []) (filter (passes tests params) rs)) here in
    let preserved : a.kept ≡ map (λ r. output q (params ∷ r ∷ [])) (filter (passes tests params) (db tree)) = a.distinct ∙ ap (map (output q)) staged ∙ map-map (output q) (λ r. params ∷ r ∷ []) _ in
    let same = IsPermutation-map (λ (o : Output). o.1) _ _ (subst (λ k. IsPermutation k a.ordered) preserved a.same) in
    subst (IsPermutation (map (λ r. eval_all (col 1 0 ∷ shows) (params ∷ r ∷ [])) (filter (passes tests params) (db tree)))) (sym a.shown)
    (subst (λ l. IsPermutation l (map (λ (o : Output). o.1) a.ordered)) (map-map (λ (o : Output). o.1) (λ r. output q (params ∷ r ∷ [])) _) same)

-- the rows that are not chosen are left
pub left_are : (tree : ℕ) (tests shows : List Term) (db : Trees) (params : Row) (rows : List Row) → IsRising (db tree)
    → IsPermutation (map (λ r. eval_all (col 1 0 ∷ shows) (params ∷ r ∷ [])) (filter (passes tests params) (db tree))) rows
    → without_all (db tree) (ids_of rows) ≡ filter (λ r. not (passes tests params r)) (db tree)
left_are tree tests shows db params rows up same =
    let m = passes tests params in
    without_is (ids_of rows) (db tree) ∙ filter_same (λ r. not (list_any (λ id. has_rowid id r) (ids_of rows))) (λ r. not (m r)) (db tree) (by_each _ (db tree) (λ r there.
    ap not (any-map (λ id. has_rowid id r) (λ x. id_in (rowid x)) rows
    ∙ sym (list_any-IsPermutation (λ x. has_rowid (id_in (rowid x)) r) _ rows same)
    ∙ any-map (λ x. has_rowid (id_in (rowid x)) r) (λ x. eval_all (col 1 0 ∷ shows) (params ∷ x ∷ [])) (filter m (db tree))
    ∙ each_row m (db tree) r up there)))

pub record Deleted (layout : Layout) (schema : Schema) (table : Table) (tests : List Term) (params : Row) (old new : State) : Type 0 where
  pub same_schema : new.now.schema ≡ schema
  pub left : new.now.trees table.tree ≡ filter (λ r. not (passes tests params r)) (old.now.trees table.tree)
  pub preserved : (number : ℕ) → IsTrue (has_table layout number) → number ≢ table.tree → new.now.trees number ≡ old.now.trees number

pub deleted : {layout : Layout} {schema : Schema} → AreApart layout schema → (old new : State) (at : ℕ) (table : Table) (tests : List Term) (text : List ℕ) (params : Row) (count : ℕ)
    → old.now.schema ≡ schema → slice_get schema.tables at ≡ Some table → given_at [] table.tree ≡ None → IsRising (old.now.trees table.tree) → IsTrue (has_table layout table.tree)
    → Writes old new None (Delete at (record { lets = []; body = chosen table.tree tests })) text params count → Deleted layout schema table tests params old new
deleted {schema = schema} apart old new at table tests text params count has there none up is w =
    let command = Delete at (record { lets = []; body = chosen table.tree tests }) in
    let changed = rw there at (subst (λ s. Does old.step_limit (mode_of old) params (record old.now { schema = s }) text None command (Ok (w.tally, new.now))) has w.changed) in
    let done = went changed in
    let now = ap (λ (p : Tally × Database). p.1) (same_value (went (went done.2).2).2) in
    let given = went done.1 in
    let written = went given.2 in
    let trees : done.0.trees ≡ written.0 = ap (λ (it : Written). it.trees) (same_value written.2) in
    let final : new.now.trees ≡ written.0 = ap (λ (d : Database). d.trees) now ∙ trees in
    let edit = edit_of old.now.trees table (ids_of given.0) Given 0 [] in
    let one = first_step apart old.now.trees written.0 edit written.1 in
    record {
      same_schema = ap (λ (d : Database). d.schema) now;
      left = ap (λ (t : Trees). t table.tree) final ∙ one.2 table.tree is ∙ one.1.rows ∙ left_are table.tree tests [] old.now.trees params given.0 up (picked_rows table.tree tests [] old.now.trees params given.0 none (given.1.answer Null));
      preserved = λ number of other. ap (λ (t : Trees). t number) final ∙ one.2 number of ∙ step apart old.now.trees one.0 edit one.1 number of other;
    }
