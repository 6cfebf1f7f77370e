-- What DELETE does to the tables of a desk.
use Rattle.std.proofs.Common.{◌≡◌, ℕ, List, [], ◌∷◌, filter, map, slice_get, Bool, true, false, not, cond, Some, None, Ok, Err, Result, OnOk, IsTrue, refl, sym, subst, ◌∙◌}
use Rattle.sqlite.specs.Effect.{IsDatabase}
use Rattle.sqlite.specs.Order.{Row}
use Rattle.sqlite.specs.Term.{Term}
use Rattle.sqlite.specs.Table.{Table}
use Rattle.sqlite.specs.Schema.{Schema}
use Rattle.sqlite.specs.Program.{given_at}
use Rattle.sqlite.specs.Command.TheVariants.{Delete}
use Rattle.sqlite.specs.declared.error.Error.{Error}
use Rattle.sqlite.specs.Listing.{understood}
use Rattle.sqlite.specs.State.{State, ExecutesInside}
use Rattle.sqlite.proofs.Callers.{IsPlain, command_of, statement_of, runs_as}
use Rattle.sqlite_trees.proofs.TreeLemmas.{IsShaped-filter}
use Rattle.sqlite_trees.specs.declared.store.Shape.TheVariants as shape
use Rattle.sql_rows.specs.Meanings.{all_meanings}
use Rattle.sql_schema.specs.Statements.{Layout, TableOf, columns_of, has_table, IsDeskOf, IsRising, KeepsOthersIn, ChangesIn, DeclaresNothing}
use Rattle.sql_lemmas.proofs.Deleting.{chosen, passes, deleted}
use Rattle.sql_lemmas.proofs.Frames.{AreApart, still_desk}
use Rattle.sql_lemmas.proofs.GivenNumbers.{each_means}

-- some rows are left, and nothing else is changed
pub record LeavesRows (layout : Layout) (number : ℕ) (left : Row → Bool) (old new : State) : Type 0 where
  pub rows : new.now.trees number ≡ filter left (old.now.trees number)
  pub others : KeepsOthersIn layout number old new
  pub schema : DeclaresNothing old new
  pub desk : IsDeskOf layout new
  pub inside : IsTrue new.in_transaction
  pub sound : IsDatabase new.now

module _ {layout : Layout} {schema : Schema} (apart : AreApart layout schema) (at : ℕ) (table : Table) (tests : List Term) (text : List ℕ) (params : Row)
    (is : command_of (understood schema text) ≡ Delete at (record { lets = []; body = chosen table.tree tests })) (plain : IsPlain (understood schema text))
    (there : slice_get schema.tables at ≡ Some table) (numbered_so : IsTrue (has_table layout table.tree)) (none : given_at [] table.tree ≡ None) where
  pub leaves_rows : (old new : State) (r : Result ℕ Error) → old.now.schema ≡ schema → IsDeskOf layout old → IsTrue old.in_transaction → ExecutesInside 0 text params old new r
      → OnOk r (LeavesRows layout table.tree (λ row. not (passes tests params row)) old new)
  leaves_rows old new (Err e) has was inside h = tt
  leaves_rows old new (Ok count) has was inside h =
      let command = Delete at (record { lets = []; body = chosen table.tree tests }) in
      let w = runs_as text params old new schema has command is plain count h.0 in
      let up = was.rising table.tree numbered_so in
      let d = deleted apart old new at table tests (statement_of text (understood schema text)) params count has there none up numbered_so w in
      record {
        rows = d.left;
        others = d.preserved;
        schema = d.same_schema ∙ sym has;
        desk = still_desk table.tree old new was (d.same_schema ∙ sym has) d.preserved (subst IsRising (sym d.left) (IsShaped-filter shape.Table (λ row. not (passes tests params row)) (old.now.trees table.tree) up));
        inside = w.shown.mode ∙ inside;
        sound = w.sound;
      }

none_left : (rows : List Row) → filter (λ row. false) rows ≡ []
none_left [] = refl
none_left (row ∷ rows) = none_left rows

-- no row is left, so no record
pub empties : {A : Type 0} (layout : Layout) (it : TableOf A) (old new : State) (r : Result ℕ Error) → OnOk r (LeavesRows layout it.number (λ row. false) old new) → OnOk r (ChangesIn layout it (λ _. []) old new)
empties layout it old new (Err e) h = tt
empties layout it old new (Ok count) h = record {
  records = λ was known. rw (h.rows, none_left (old.now.trees it.number)) refl;
  others = h.others;
  schema = h.schema;
  desk = h.desk;
  inside = h.inside;
  sound = h.sound;
}

-- where a row is chosen exactly where its record passes, the records that pass are taken out
module _ {A : Type 0} (it : TableOf A) (chooses : Row → Bool) (test : A → Bool) (same : (row : Row) (x : A) → it.means (columns_of it row) ≡ Some x → chooses row ≡ test x) where
  taken_out : (rows : List Row) (was : List A) → all_meanings it.means (map (columns_of it) rows) ≡ Some was
      → all_meanings it.means (map (columns_of it) (filter (λ row. not (chooses row)) rows)) ≡ Some (filter (λ x. not (test x)) was)
  taken_out [] was h = let none : [] ≡ was = cc in rw (← none) refl
  taken_out (row ∷ rows) was h =
      let each = each_means it.means (columns_of it row) (map (columns_of it) rows) was h in
      let later = taken_out rows each.1 each.3 in
      subst (λ l. all_meanings it.means (map (columns_of it) (cond (not (chooses row)) (row ∷ filter (λ r. not (chooses r)) rows) (filter (λ r. not (chooses r)) rows))) ≡ Some (filter (λ x. not (test x)) l)) (sym each.4)
      (go (chooses row) (test each.0) (same row each.0 each.2) (filter (λ r. not (chooses r)) rows) (filter (λ x. not (test x)) each.1) each.0 each.2 later)
    where
      go : (a b : Bool) → a ≡ b → (left : List Row) (those : List A) (x : A) → it.means (columns_of it row) ≡ Some x → all_meanings it.means (map (columns_of it) left) ≡ Some those
          → all_meanings it.means (map (columns_of it) (cond (not a) (row ∷ left) left)) ≡ Some (cond (not b) (x ∷ those) those)
      go true true e left those x means later = later
      go true false e left those x means later = absurd cc
      go false true e left those x means later = absurd cc
      go false false e left those x means later = rw (means, later) refl

  pub takes_out : (layout : Layout) (old new : State) (r : Result ℕ Error) → OnOk r (LeavesRows layout it.number (λ row. not (chooses row)) old new) → OnOk r (ChangesIn layout it (filter (λ x. not (test x))) old new)
  takes_out layout old new (Err e) h = tt
  takes_out layout old new (Ok count) h = record {
    records = λ was known. rw h.rows (taken_out (old.now.trees it.number) was known);
    others = h.others;
    schema = h.schema;
    desk = h.desk;
    inside = h.inside;
    sound = h.sound;
  }
