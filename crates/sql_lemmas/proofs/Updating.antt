-- What UPDATE does to the tables of a desk.
use Rattle.std.proofs.Common.{◌≡◌, ◌≢◌, inl, inr, ℕ, List, [], ◌∷◌, map, filter, drop, slice_get, Bool, true, false, not, if◌then◌else◌, Some, None, Ok, Err, Result, OnOk, IsTrue, IsPermutation, Less, refl, sym, ap, ap₂, subst, ◌∙◌}
use Rattle.std.specs.List.{AllByRecursion}
use Rattle.std.specs.Ordering.{ordering_reverse}
use Rattle.std.proofs.lemmas.Bool.{cases_Bool}
use Rattle.std.proofs.lemmas.List.Sorted.{IsPermutation-sym}
use Rattle.sqlite.specs.declared.types.Value.TheVariants.{Null}
use Rattle.sqlite.specs.Order.{Row, value_cmp}
use Rattle.sqlite.specs.Term.{Term, col, eval_all}
use Rattle.sqlite.specs.Program.{given_at}
use Rattle.sqlite.specs.Table.{Table}
use Rattle.sqlite.specs.Schema.{Schema}
use Rattle.sqlite.specs.Tree.{Trees, IsTable, rowid, put_row}
use Rattle.sqlite.specs.Cast.{cast_row}
use Rattle.sqlite.specs.Edit.{edit_of, without_all, put_all, numbered, are_fresh}
use Rattle.sqlite.specs.Rowids.TheVariants.{Given}
use Rattle.sqlite.specs.Command.TheVariants.{Update}
use Rattle.sqlite.specs.Does.{Tally, Does}
use Rattle.sqlite.specs.Rows.{Written}
use Rattle.sqlite.specs.Effect.{Database, IsDatabase}
use Rattle.sqlite.specs.declared.error.Error.{Error}
use Rattle.sqlite.specs.Listing.{understood}
use Rattle.sqlite.specs.State.{State, mode_of, ExecutesInside}
use Rattle.sqlite.proofs.Callers.{IsPlain, command_of, statement_of, runs_as}
use Rattle.sqlite_value.proofs.OrderLemmas.{value_cmp_total}
use Rattle.sqlite_rules.specs.Calls.{ids_of}
use Rattle.sqlite_rules.specs.Lists.{Has}
use Rattle.sqlite_rules.proofs.ListLemmas.{all_has, all_from, has_filtered}
use Rattle.sqlite_rules.proofs.ProbeLemmas.{has_mapped, mapped_has}
use Rattle.sqlite_rules.proofs.TableLemmas.{put_all_has, put_all_keeps, put_all_adds}
use Rattle.sqlite_trees.specs.View.{is_int}
use Rattle.sqlite_trees.proofs.TreeLemmas.{IsTable-put_row}
use Rattle.sqlite_trees.proofs.ListLemmas.{all-permutation, ascending-filter}
use Rattle.sql_rows.specs.Meanings.{all_meanings}
use Rattle.sql_schema.specs.Statements.{Layout, TableOf, columns_of, has_table, IsDeskOf, IsRising, KeepsOthersIn, ChangesIn, DeclaresNothing}
use Rattle.sql_lemmas.proofs.Deleting.{picked, picked_rows, left_are, passes, stays_in}
use Rattle.sql_lemmas.proofs.Frames.{AreApart, still_desk}
use Rattle.sql_lemmas.proofs.Acting.{first_step, step}
use Rattle.sql_lemmas.proofs.GivenNumbers.{each_means}
use Rattle.sql_lemmas.proofs.Writing.{went, same_value}

-- ---- tables with the same rows are one

never_both : (a b : Row) → value_cmp (rowid a) (rowid b) ≡ Less → value_cmp (rowid b) (rowid a) ≡ Less → ⊥
never_both a b p q = let e = value_cmp_total.antisymm (rowid a) (rowid b) ∙ ap ordering_reverse q in cc

same_rows : (xs ys : List Row) → IsTable xs → IsTable ys → ((r : Row) → Has xs r → Has ys r) → ((r : Row) → Has ys r → Has xs r) → xs ≡ ys
same_rows [] [] p q a b = refl
same_rows [] (y ∷ ys) p q a b = absurd (b y (inl refl))
same_rows (x ∷ xs) [] p q a b = absurd (a x (inl refl))
same_rows (x ∷ xs) (y ∷ ys) p q a b =
    let first : x ≡ y = elim (a x (inl refl)) [
      | inl e ↦ e
      | inr later ↦ elim (b y (inl refl)) [ inl e ↦ sym e | inr also ↦ absurd (never_both x y (all_has _ xs y p.0 also) (all_has _ ys x q.0 later)) ]
    ] in
    let past = λ (z : Row) (zs : List Row) (up : AllByRecursion (λ r. value_cmp (rowid z) (rowid r) ≡ Less) zs) (r : Row) (h : Has zs r) (e : r ≡ z).
    let lower = rw e at (all_has _ zs r up h) in never_both z z lower lower in
    ap₂ ◌∷◌ first (same_rows xs ys p.1 q.1
    (λ r h. elim (a r (inr h)) [ inl e ↦ absurd (past x xs p.0 r h (e ∙ sym first)) | inr k ↦ k ])
    (λ r h. elim (b r (inr h)) [ inl e ↦ absurd (past y ys q.0 r h (e ∙ first)) | inr k ↦ k ]))

has_permuted : {X : Type 0} (xs ys : List X) (x : X) → IsPermutation xs ys → Has ys x → Has xs x
has_permuted xs ys x same = all_has (Has xs) ys x (all-permutation (Has xs) xs ys same (all_from (Has xs) xs (λ e h. h)))

put_all_table : (news rows : List Row) → IsTable rows → IsTable (put_all rows news)
put_all_table [] rows up = up
put_all_table (n ∷ news) rows up = put_all_table news (put_row n rows) (IsTable-put_row n rows up)

given_stay : (xs rows : List Row) → numbered Given rows xs ≡ xs
given_stay [] rows = refl
given_stay (x ∷ xs) rows = ap (λ l. x ∷ l) (given_stay xs (put_row x rows))

-- ---- the rows after an UPDATE

-- what a row becomes
abbrev pub new_row : Table → List Term → Row → Row → Row
new_row table new params row = cast_row table (eval_all new (params ∷ row ∷ []))

module _ (table : Table) (tests new : List Term) (params : Row) (keeps : (row : Row) → IsTrue (is_int (rowid row)) → rowid (new_row table new params row) ≡ rowid row) where
  abbrev changed : Row → Row
  changed row = if passes tests params row then new_row table new params row else row

  abbrev shown : Row → Row
  shown row = eval_all (col 1 0 ∷ new) (params ∷ row ∷ [])

  same_number : (row : Row) → IsTrue (is_int (rowid row)) → rowid (changed row) ≡ rowid row
  same_number row keyed = elim (cases_Bool (passes tests params row)) [ inl e ↦ rw e (keeps row keyed) | inr e ↦ rw e refl ]

  still_above : (row : Row) (rows : List Row) → IsTrue (is_int (rowid row)) → AllByRecursion (λ r. IsTrue (is_int (rowid r))) rows → AllByRecursion (λ r. value_cmp (rowid row) (rowid r) ≡ Less) rows
      → AllByRecursion (λ r. value_cmp (rowid (changed row)) (rowid r) ≡ Less) (map changed rows)
  still_above row [] keyed all above = tt
  still_above row (r ∷ rows) keyed all above =
      (ap₂ value_cmp (same_number row keyed) (same_number r all.0) ∙ above.0, still_above row rows keyed all.1 above.1)

  still_table : (rows : List Row) → IsTable rows → AllByRecursion (λ r. IsTrue (is_int (rowid r))) rows → IsTable (map changed rows)
  still_table [] up keyed = tt
  still_table (r ∷ rows) up keyed = (still_above r rows keyed.0 keyed.1 up.0, still_table rows up.1 keyed.1)

  still_keyed : (rows : List Row) → AllByRecursion (λ r. IsTrue (is_int (rowid r))) rows → AllByRecursion (λ r. IsTrue (is_int (rowid r))) (map changed rows)
  still_keyed [] keyed = tt
  still_keyed (r ∷ rows) keyed = (ap is_int (same_number r keyed.0) ∙ keyed.0, still_keyed rows keyed.1)

  all_changed : (rows found : List Row) → IsRising rows → IsPermutation (map shown (filter (passes tests params) rows)) found
      → are_fresh (filter (λ r. not (passes tests params r)) rows) (map (λ s. cast_row table (drop 1 s)) found) ≡ true
      → put_all (filter (λ r. not (passes tests params r)) rows) (map (λ s. cast_row table (drop 1 s)) found) ≡ map changed rows
  all_changed rows found up same fresh =
      let m = passes tests params in
      let left = filter (λ r. not (m r)) rows in
      let news = map (λ s. cast_row table (drop 1 s)) found in
      same_rows (put_all left news) (map changed rows)
      (put_all_table news left (ascending-filter _ (λ r. not (m r)) rows up.0)) (still_table rows up.0 up.1)
      (λ x there. elim (put_all_has news left x there) [
        | inl new_one ↦
            let from = has_mapped (λ s. cast_row table (drop 1 s)) found x new_one in
            let row = has_mapped shown (filter m rows) from.0 (has_permuted (map shown (filter m rows)) found from.0 same from.1) in
            let was = has_filtered m rows row.0 row.1 in
            let is : changed row.0 ≡ x = rw was.1 (sym (from.2 ∙ ap (λ s. cast_row table (drop 1 s)) row.2)) in
            subst (Has (map changed rows)) is (mapped_has changed rows row.0 was.0)
        | inr preserved ↦
            let was = has_filtered (λ r. not (m r)) rows x preserved in
            let is : changed x ≡ x = go (m x) was.1 (new_row table new params x) x in
            subst (Has (map changed rows)) is (mapped_has changed rows x was.0)
      ])
      (λ x there.
      let row = has_mapped changed rows x there in
      elim (cases_Bool (m row.0)) [
        | inl chosen_one ↦
            let is : x ≡ new_row table new params row.0 = row.2 ∙ (rw chosen_one refl) in
            let shown_there = has_permuted found (map shown (filter m rows)) (shown row.0) (IsPermutation-sym _ _ same) (mapped_has shown (filter m rows) row.0 (stays_in m rows row.0 row.1 chosen_one)) in
            subst (Has (put_all left news)) (sym is) (put_all_adds news left (new_row table new params row.0) fresh (mapped_has (λ s. cast_row table (drop 1 s)) found (shown row.0) shown_there))
        | inr other ↦
            let is : x ≡ row.0 = row.2 ∙ (rw other refl) in
            subst (Has (put_all left news)) (sym is) (put_all_keeps news left row.0 fresh (stays_in (λ r. not (m r)) rows row.0 row.1 (ap not other)))
      ])
    where
      go : (b : Bool) → not b ≡ true → (y x : Row) → (if b then y else x) ≡ x
      go true h y x = absurd cc
      go false h y x = refl

-- some rows are changed, and nothing else
pub record ChangesRows (layout : Layout) (number : ℕ) (change : Row → Row) (old new : State) : Type 0 where
  pub rows : new.now.trees number ≡ map change (old.now.trees number)
  pub others : KeepsOthersIn layout number old new
  pub schema : DeclaresNothing old new
  pub desk : IsDeskOf layout new
  pub inside : IsTrue new.in_transaction
  pub sound : IsDatabase new.now

module _ {layout : Layout} {schema : Schema} (apart : AreApart layout schema) (at : ℕ) (table : Table) (tests new : List Term) (text : List ℕ) (params : Row)
    (is : command_of (understood schema text) ≡ Update at (record { lets = []; body = picked table.tree tests new })) (plain : IsPlain (understood schema text))
    (there : slice_get schema.tables at ≡ Some table) (numbered_so : IsTrue (has_table layout table.tree)) (none : given_at [] table.tree ≡ None)
    (keeps : (row : Row) → IsTrue (is_int (rowid row)) → rowid (new_row table new params row) ≡ rowid row) where
  pub changes_rows : (old now : State) (r : Result ℕ Error) → old.now.schema ≡ schema → IsDeskOf layout old → IsTrue old.in_transaction → ExecutesInside 0 text params old now r
      → OnOk r (ChangesRows layout table.tree (λ row. if passes tests params row then new_row table new params row else row) old now)
  changes_rows old now (Err e) has was inside h = tt
  changes_rows old now (Ok count) has was inside h =
      let command = Update at (record { lets = []; body = picked table.tree tests new }) in
      let w = runs_as text params old now schema has command is plain count h.0 in
      let changed = rw there at (subst (λ s. Does old.step_limit (mode_of old) params (record old.now { schema = s }) (statement_of text (understood schema text)) None command (Ok (w.tally, now.now))) has w.changed) in
      let done = went changed in
      let now_is = ap (λ (p : Tally × Database). p.1) (same_value (went (went done.2).2).2) in
      let given = went done.1 in
      let written = went given.2 in
      let trees : done.0.trees ≡ written.0 = ap (λ (it : Written). it.trees) (same_value written.2) in
      let final : now.now.trees ≡ written.0 = ap (λ (d : Database). d.trees) now_is ∙ trees in
      let edit = edit_of old.now.trees table (ids_of given.0) Given 1 given.0 in
      let one = first_step apart old.now.trees written.0 edit written.1 in
      let db = old.now.trees table.tree in
      let up = was.rising table.tree numbered_so in
      let same = picked_rows table.tree tests new old.now.trees params given.0 none (given.1.answer Null) in
      let left = left_are table.tree tests new old.now.trees params given.0 up same in
      let news = map (λ s. cast_row table (drop 1 s)) given.0 in
      let news_are : edit.news ≡ news = given_stay news (without_all db (ids_of given.0)) in
      let fresh = subst (λ l. are_fresh l news ≡ true) left (subst (λ n. are_fresh (without_all db (ids_of given.0)) n ≡ true) news_are one.1.fresh) in
      let rows = ap (λ (t : Trees). t table.tree) final ∙ one.2 table.tree numbered_so ∙ one.1.rows ∙ ap₂ put_all left news_are ∙ all_changed table tests new params keeps db given.0 up same fresh in
      let preserved = λ (number : ℕ) (is_one : IsTrue (has_table layout number)) (other : number ≢ table.tree). ap (λ (t : Trees). t number) final ∙ one.2 number is_one ∙ step apart old.now.trees one.0 edit one.1 number is_one other in
      record {
        rows = rows;
        others = preserved;
        schema = ap (λ (d : Database). d.schema) now_is ∙ sym has;
        desk = still_desk table.tree old now was (ap (λ (d : Database). d.schema) now_is ∙ sym has) preserved (subst IsRising (sym rows) (still_table table tests new params keeps db up.0 up.1, still_keyed table tests new params keeps db up.1));
        inside = w.shown.mode ∙ inside;
        sound = w.sound;
      }

-- where each row's record is changed so, what the rows mean is changed so
module _ {A : Type 0} (it : TableOf A) (change : Row → Row) (set : A → A) (same : (row : Row) (x : A) → it.means (columns_of it row) ≡ Some x → it.means (columns_of it (change row)) ≡ Some (set x)) where
  all_set : (rows : List Row) (was : List A) → all_meanings it.means (map (columns_of it) rows) ≡ Some was → all_meanings it.means (map (columns_of it) (map change rows)) ≡ Some (map set was)
  all_set [] was h = let none : [] ≡ was = cc in rw (← none) refl
  all_set (row ∷ rows) was h =
      let each = each_means it.means (columns_of it row) (map (columns_of it) rows) was h in
      rw (same row each.0 each.2, all_set rows each.1 each.3) (ap (λ (l : List A). Some (map set l)) (sym each.4))

  pub sets : (layout : Layout) (old new : State) (r : Result ℕ Error) → OnOk r (ChangesRows layout it.number change old new) → OnOk r (ChangesIn layout it (map set) old new)
  sets layout old new (Err e) h = tt
  sets layout old new (Ok count) h = record {
    records = λ was known. rw h.rows (all_set (old.now.trees it.number) was known);
    others = h.others;
    schema = h.schema;
    desk = h.desk;
    inside = h.inside;
    sound = h.sound;
  }
