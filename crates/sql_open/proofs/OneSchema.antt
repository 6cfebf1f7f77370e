-- A list of objects is that of one schema.
use Rattle.std.proofs.Common.{◌≡◌, ◌≢◌, inl, inr, ℕ, ◌+◌, ◌*◌, ◌==◌, length, slice_index_or, true≢false, pos, Bool, true, false, MatchBool, List, [], ◌∷◌, filter, codes, Option, Some, None, slice_get, Ok, Result, refl, sym, ap, subst, ◌∙◌, arith}
use Rattle.std.proofs.lemmas.Bool.Decides.{nat_tests}
use Rattle.std.proofs.lemmas.Int.{ints}
use Rattle.std.specs.List.{AllZip}
use Rattle.sqlite_value.specs.declared.value.Value.{Value}
use Rattle.sqlite_value.specs.declared.value.Value.TheVariants.{Null, Int, Real, Text, Blob}
use Rattle.sqlite_value.specs.Order.{Row, column}
use Rattle.sqlite_trees.specs.Tree.{rowid}
use Rattle.sqlite_resolve.specs.Compile.{table_defined_by}
use Rattle.sqlite_schema.specs.declared.schema.Index.{Index}
use Rattle.sqlite_schema.specs.declared.schema.Schema.{Schema}
use Rattle.sqlite_schema.specs.declared.schema.Table.{Table}
use Rattle.sqlite_schema.specs.declared.schema.View.{View as Stored}
use Rattle.sqlite_schema.specs.Names.{same_name}
use Rattle.sqlite_catalog.specs.Listing.{AreListed, IsAside, IsDefined, IsForeign, IsIndexRow, IsTableRow, IsViewRow, automatic, is_index_row, is_table_row, is_view_row}
use Rattle.sqlite_catalog.proofs.AlterLemmas.{numbers_differ}
use Rattle.sqlite_catalog.proofs.StepLemmas.{named_once, same_itself}

text_is : {a b : List ℕ} → Text a ≡ Text b → a ≡ b
text_is h = cc

ok_is : {A E : Type 0} {a b : A} → ◌≡◌ {A = Result A E} (Ok a) (Ok b) → a ≡ b
ok_is h = cc

some_is : {A : Type 0} {a b : A} → ◌≡◌ {A = _} (Some a) (Some b) → a ≡ b
some_is h = cc

number_is : (m n : ℕ) → Int (pos (m + 1)) ≡ Int (pos (n + 1)) → m ≡ n
number_is m n h = let same : pos (m + 1) ≡ pos (n + 1) = cc in grind (arith, ints)

one_tree : (row : Row) (m n : ℕ) → rowid row ≡ Int (pos (m + 1)) → rowid row ≡ Int (pos (n + 1)) → m ≡ n
one_tree row m n p q = number_is m n (sym p ∙ q)

module _ {A B : Type 0} (R : A → B → Type 0) (one : (x : A) (y z : B) → R x y → R x z → y ≡ z) where
  one_list : (xs : List A) (ys zs : List B) → AllZip R xs ys → AllZip R xs zs → ys ≡ zs
  one_list [] [] [] p q = refl
  one_list [] [] (z ∷ zs) p q = absurd q
  one_list [] (y ∷ ys) zs p q = absurd p
  one_list (x ∷ xs) [] zs p q = absurd p
  one_list (x ∷ xs) (y ∷ ys) [] p q = absurd q
  one_list (x ∷ xs) (y ∷ ys) (z ∷ zs) p q = ap (λ b. b ∷ ys) (one x y z p.0 q.0) ∙ ap (λ l. z ∷ l) (one_list xs ys zs p.1 q.1)

one_table : (row : Row) (s t : Table) → IsTableRow row s → IsTableRow row t → s ≡ t
one_table row s t p q =
    let sql = text_is (sym p.sql_is ∙ q.sql_is) in
    let made : p.defined.0 ≡ q.defined.0 = ok_is (sym p.defined.1 ∙ ap table_defined_by sql ∙ q.defined.1) in
    let tree = one_tree row s.tree t.tree p.described.id q.described.id in
    p.defined.2 ∙ ap (λ (m : Table). record m { tree = s.tree }) made ∙ ap (λ n. record q.defined.0 { tree = n }) tree ∙ sym q.defined.2

one_defined : (table : Table) (i j : Index) (value : Value) → i.name ≡ j.name → i.tree ≡ j.tree → IsDefined table i value → IsDefined table j value → i ≡ j
one_defined table i j Null names trees p q =
    let called : (automatic table p.0 [] 0).name ≡ (automatic table q.0 [] 0).name = sym (ap (λ (k : Index). k.name) p.3) ∙ names ∙ ap (λ (k : Index). k.name) q.3 in
    let at = numbers_differ table p.0 q.0 p.4 q.4 (subst (λ n. same_name (automatic table p.0 [] 0).name n ≡ true) called (same_itself (automatic table p.0 [] 0).name)) in
    let key : p.1 ≡ q.1 = some_is (sym p.2 ∙ ap (slice_get table.uniques) at ∙ q.2) in
    p.3 ∙ ap (λ n. automatic table n p.1 i.tree) at ∙ ap (λ k. automatic table q.0 k i.tree) key ∙ ap (automatic table q.0 q.1) trees ∙ sym q.3
one_defined table i j (Int n) names trees p q = absurd p
one_defined table i j (Real x) names trees p q = absurd p
one_defined table i j (Text sql) names trees p q =
    let made : p.0 ≡ q.0 = ok_is (sym p.1 ∙ q.1) in
    p.2 ∙ ap (λ (m : Index). record m { tree = i.tree; table = table.tree }) made ∙ ap (λ n. record q.0 { tree = n; table = table.tree }) trees ∙ sym q.2
one_defined table i j (Blob b) names trees p q = absurd p

one_index : (objects : List Row) (schema : Schema) → AreListed objects schema → (object : Row) (i j : Index) → IsIndexRow schema.tables object i → IsIndexRow schema.tables object j → i ≡ j
one_index objects schema are object i j p q =
    let owner : p.table.name ≡ q.table.name = text_is (sym p.described.owner_is ∙ q.described.owner_is) in
    let same = named_once schema.tables p.table q.table are.named p.listed q.listed (subst (λ n. same_name p.table.name n ≡ true) owner (same_itself p.table.name)) in
    let names : i.name ≡ j.name = text_is (sym p.described.name_is ∙ q.described.name_is) in
    let trees = one_tree object i.tree j.tree p.described.id q.described.id in
    one_defined q.table i j (column object 4) names trees (subst (λ (t : Table). IsDefined t i (column object 4)) same p.defined) q.defined

-- ---- what is kept aside, as a view is

same_number : (n : ℕ) → (n == n) ≡ true
same_number n = grind (arith, nat_tests)

-- tells the kinds of objects apart
abbrev mark : List ℕ → ℕ
mark kind = length kind + 10 * slice_index_or kind 0 0

apart : (a b : List ℕ) → (mark a == mark b) ≡ false → a ≢ b
apart a b differ same = true≢false (sym (subst (λ k. (mark a == mark k) ≡ true) same (same_number (mark a))) ∙ differ)

one_bound : (P : Type 0) (a b : Bool) → MatchBool a P (¬ P) → MatchBool b P (¬ P) → a ≡ b
one_bound P true true p q = refl
one_bound P true false p q = absurd (q p)
one_bound P false true p q = absurd (p q)
one_bound P false false p q = refl

abbrev IsSameAside : Stored → Stored → Type 0
IsSameAside u v = (u.sql ≡ v.sql) × (u.foreign ≡ v.foreign) × (u.binds ≡ v.binds) × (u.is_bound ≡ v.is_bound)

one_foreign : (row : Row) (u v : Stored) (kind : List ℕ) (code : ℕ) → IsForeign row u kind code → IsForeign row v kind code → (u.binds ≡ v.binds) × (u.is_bound ≡ v.is_bound)
one_foreign row u v kind code (inl p) (inl q) = (p.2 ∙ sym q.2, one_bound _ u.is_bound v.is_bound p.3 q.3)
one_foreign row u v kind code (inl p) (inr (inl q)) = absurd (apart (codes "table") (codes "index") refl (sym p.0 ∙ q.0))
one_foreign row u v kind code (inl p) (inr (inr q)) = absurd (apart (codes "table") (codes "trigger") refl (sym p.0 ∙ q.0))
one_foreign row u v kind code (inr (inl p)) (inl q) = absurd (apart (codes "index") (codes "table") refl (sym p.0 ∙ q.0))
one_foreign row u v kind code (inr (inl p)) (inr (inl q)) = (p.2 ∙ sym q.2, p.3 ∙ sym q.3)
one_foreign row u v kind code (inr (inl p)) (inr (inr q)) = absurd (apart (codes "index") (codes "trigger") refl (sym p.0 ∙ q.0))
one_foreign row u v kind code (inr (inr p)) (inl q) = absurd (apart (codes "trigger") (codes "table") refl (sym p.0 ∙ q.0))
one_foreign row u v kind code (inr (inr p)) (inr (inl q)) = absurd (apart (codes "trigger") (codes "index") refl (sym p.0 ∙ q.0))
one_foreign row u v kind code (inr (inr p)) (inr (inr q)) = (p.2 ∙ sym q.2, p.3 ∙ sym q.3)

no_view : (row : Row) (v : Stored) (code : ℕ) → ¬ IsForeign row v (codes "view") code
no_view row v code (inl q) = apart (codes "view") (codes "table") refl q.0
no_view row v code (inr (inl q)) = apart (codes "view") (codes "index") refl q.0
no_view row v code (inr (inr q)) = apart (codes "view") (codes "trigger") refl q.0

one_aside : (row : Row) (u v : Stored) (kind owner : List ℕ) (code : ℕ) (f g : Option (List ℕ)) → u.foreign ≡ f → v.foreign ≡ g → IsAside row u kind owner code f → IsAside row v kind owner code g → IsSameAside u v
one_aside row u v kind owner code None None it at p q = (text_is (sym p.3 ∙ q.3), it ∙ sym at, p.6 ∙ sym q.6, p.7 ∙ sym q.7)
one_aside row u v kind owner code None (Some table) it at p q = absurd (no_view row v code (subst (λ k. IsForeign row v k code) p.0 q.2))
one_aside row u v kind owner code (Some table) None it at p q = absurd (no_view row u code (subst (λ k. IsForeign row u k code) q.0 p.2))
one_aside row u v kind owner code (Some table) (Some other) it at p q =
    let both = one_foreign row u v kind code p.2 q.2 in
    (p.1 ∙ sym q.1, it ∙ ap (λ (t : List ℕ). Some t) (sym p.0 ∙ q.0) ∙ sym at, both.0, both.1)

one_view : (row : Row) (u v : Stored) → IsViewRow row u → IsViewRow row v → u ≡ v
one_view row u v p q =
    let kind : q.kind ≡ p.kind = text_is (sym q.described.kind_is ∙ p.described.kind_is) in
    let owner : q.owner ≡ p.owner = text_is (sym q.described.owner_is ∙ p.described.owner_is) in
    let code : q.code ≡ p.code = sym q.described.shape_is ∙ p.described.shape_is in
    let name : u.name ≡ v.name = text_is (sym p.described.name_is ∙ q.described.name_is) in
    let tree = one_tree row u.tree v.tree p.described.id q.described.id in
    let there = subst (λ c. IsAside row v p.kind p.owner c v.foreign) code (subst (λ o. IsAside row v p.kind o q.code v.foreign) owner (subst (λ k. IsAside row v k q.owner q.code v.foreign) kind q.aside)) in
    let same = one_aside row u v p.kind p.owner p.code u.foreign v.foreign refl refl p.aside there in
    ap (λ n. record u { name = n }) name
    ∙ ap (λ n. record u { name = v.name; tree = n }) tree
    ∙ ap (λ s. record v { sql = s; foreign = u.foreign; binds = u.binds; is_bound = u.is_bound }) same.0
    ∙ ap (λ f. record v { foreign = f; binds = u.binds; is_bound = u.is_bound }) same.1
    ∙ ap (λ b. record v { binds = b; is_bound = u.is_bound }) same.2
    ∙ ap (λ b. record v { is_bound = b }) same.3

-- one list of objects lists one schema
pub one_schema : (objects : List Row) (a b : Schema) → AreListed objects a → AreListed objects b → b ≡ a
one_schema objects a b p q =
    let tables : b.tables ≡ a.tables = one_list IsTableRow one_table (filter is_table_row objects) b.tables a.tables q.tables p.tables in
    let its : AllZip (IsIndexRow a.tables) (filter is_index_row objects) b.indexes = subst (λ (ts : List Table). AllZip (IsIndexRow ts) (filter is_index_row objects) b.indexes) tables q.indexes in
    let indexes : b.indexes ≡ a.indexes = one_list (IsIndexRow a.tables) (one_index objects a p) (filter is_index_row objects) b.indexes a.indexes its p.indexes in
    let views : b.views ≡ a.views = one_list IsViewRow one_view (filter is_view_row objects) b.views a.views q.views p.views in
    ap (λ ts. record b { tables = ts }) tables ∙ ap (λ is. record b { tables = a.tables; indexes = is }) indexes ∙ ap (λ vs. record b { tables = a.tables; indexes = a.indexes; views = vs }) views
