-- What CREATE TABLE does, for any schema.
use Rattle.std.proofs.Common.{◌≡◌, ℕ, List, [], ◌∷◌, ◌++◌, true, false, drop, length, slice_get, Some, None, Ok, Err, Result, OnOk, IsTrue, refl, sym, ap, subst, ◌∙◌}
use Rattle.std.specs.List.{AllByRecursion}
use Rattle.sqlite.specs.Table.{Table}
use Rattle.sqlite.specs.Schema.{Schema}
use Rattle.sqlite_schema.specs.declared.schema.Index.{Index}
use Rattle.sqlite.specs.Tree.{Trees}
use Rattle.sqlite.specs.Command.TheVariants.{CreateTable, CreateIndex}
use Rattle.sqlite.specs.Compile.{table_defined_by, index_defined_by}
use Rattle.sqlite.specs.Change.{created, indexed, next_tree, KeepsRows}
use Rattle.sqlite.specs.Does.{Tally, Does, lacks_sequence, sequence_text}
use Rattle.sqlite.specs.Effect.{Database}
use Rattle.sqlite.specs.declared.error.Error.{Error}
use Rattle.sqlite.specs.Listing.{understood}
use Rattle.sqlite.specs.State.{State, mode_of, ExecutesInside, Writes}
use Rattle.sqlite.proofs.Callers.{IsPlain, command_of, statement_of, runs_as}
use Rattle.sql_schema.specs.Statements.{AreEmpty, ExtendsSchema}
use Rattle.sql_schema.specs.SqlTexts.{indexing_text}
use Rattle.sql_lemmas.proofs.Writing.{went, same_value}

-- ---- lists of tables, of which some stand behind the others

behind : (tables more : List Table) → drop (length tables) (tables ++ more) ≡ more
behind [] more = refl
behind (t ∷ tables) more = behind tables more

behind_both : (tables : List Table) (a b : Table) → drop (length tables) ((tables ++ a ∷ []) ++ b ∷ []) ≡ a ∷ b ∷ []
behind_both [] a b = refl
behind_both (t ∷ tables) a b = behind_both tables a b

behind_none : (tables : List Table) → drop (length tables) tables ≡ []
behind_none [] = refl
behind_none (t ∷ tables) = behind_none tables

module _ (P : Table → Type 0) where
  before_of : (tables more : List Table) → AllByRecursion P (tables ++ more) → AllByRecursion P tables
  before_of [] more h = tt
  before_of (t ∷ tables) more h = (h.0, before_of tables more h.1)

  behind_of : (tables more : List Table) → AllByRecursion P (tables ++ more) → AllByRecursion P more
  behind_of [] more h = h
  behind_of (t ∷ tables) more h = behind_of tables more h.1

  all_of : (tables more : List Table) → AllByRecursion P tables → AllByRecursion P more → AllByRecursion P (tables ++ more)
  all_of [] more h k = k
  all_of (t ∷ tables) more h k = (h.0, all_of tables more h.1 k)

-- rows that are kept twice
preserved_twice : (tables : List Table) (a b c : Trees) → KeepsRows tables a b → KeepsRows tables b c → KeepsRows tables a c
preserved_twice [] a b c h k = tt
preserved_twice (t ∷ tables) a b c h k = (k.0 ∙ h.0, preserved_twice tables a b c h.1 k.1)

-- tables with no row that keep their rows have none
still_empty : (tables : List Table) (a b : Trees) → AllByRecursion (λ (t : Table). a t.tree ≡ []) tables → KeepsRows tables a b → AllByRecursion (λ (t : Table). b t.tree ≡ []) tables
still_empty [] a b h k = tt
still_empty (t ∷ tables) a b h k = (k.0 ∙ h.0, still_empty tables a b h.1 k.1)

-- the tables of a schema stand first in another
abbrev pub Grows : Schema → Schema → Type 0
Grows before after = after.tables ≡ before.tables ++ drop (length before.tables) after.tables

-- of tables with no row such are made
pub extends_empty : (a b : Schema) → Grows a b → (old new : State) → ExtendsSchema a b old new → AreEmpty a old → AreEmpty b new
extends_empty a b ab old new made was = (
  made.schema,
  subst (λ (l : List Table). AllByRecursion (λ (t : Table). new.now.trees t.tree ≡ []) l) (sym ab)
      (all_of (λ t. new.now.trees t.tree ≡ []) a.tables (drop (length a.tables) b.tables) (still_empty a.tables old.now.trees new.now.trees was.1 made.preserved) made.empty),
)

-- ---- a table

pub made : (old new : State) (schema : Schema) (text : List ℕ) (table : Table) (r : Result ℕ Error)
    → command_of (understood schema text) ≡ CreateTable → statement_of text (understood schema text) ≡ text → IsPlain (understood schema text) → table_defined_by text ≡ Ok table
    → lacks_sequence (created schema table) ≡ false → old.now.schema ≡ schema → IsTrue old.in_transaction → ExecutesInside 0 text [] old new r → OnOk r (ExtendsSchema schema (created schema table) old new × IsTrue new.in_transaction)
made old new schema text table (Err e) is alone plain defined full was inside h = tt
made old new schema text table (Ok count) is alone plain defined full was inside h =
    let w = subst (λ t. Writes old new None CreateTable t [] count) alone (runs_as text [] old new schema was CreateTable is plain count h.0) in
    let all = went w.changed in
    let first = went all.1 in
    let it = first.1 in
    let same : it.table ≡ table = same_value (sym it.defined ∙ defined) in
    let is : first.0.schema ≡ created schema table = it.is ∙ ap (λ s. created s it.table) was ∙ ap (created schema) same in
    let whole : lacks_sequence first.0.schema ≡ false = ap lacks_sequence is ∙ full in
    let now : new.now ≡ first.0 = ap (λ (p : Tally × Database). p.1) (same_value all.2) ∙ same_value (rw whole at first.2) in
    let empty : first.0.trees (next_tree schema) ≡ [] = subst (λ s. first.0.trees (next_tree s) ≡ []) was it.empty in
    let preserved = subst (λ (s : Schema). KeepsRows s.tables old.now.trees first.0.trees) was it.others in (
      record {
        schema = ap (λ (d : Database). d.schema) now ∙ is;
        preserved = subst (λ (d : Database). KeepsRows schema.tables old.now.trees d.trees) (sym now) preserved;
        empty = subst (λ (l : List Table). AllByRecursion (λ (t : Table). new.now.trees t.tree ≡ []) l) (sym (behind schema.tables (record table { tree = next_tree schema } ∷ [])))
            (subst (λ (d : Database). d.trees (next_tree schema) ≡ []) (sym now) empty, tt);
      },
      w.shown.mode ∙ inside,
    )

-- the same of a table that counts its numbers, where it is the first such table: the table of the counts is made too
pub made_counted : (old new : State) (schema : Schema) (text : List ℕ) (table counts : Table) (r : Result ℕ Error)
    → command_of (understood schema text) ≡ CreateTable → statement_of text (understood schema text) ≡ text → IsPlain (understood schema text) → table_defined_by text ≡ Ok table
    → lacks_sequence (created schema table) ≡ true → table_defined_by sequence_text ≡ Ok counts → old.now.schema ≡ schema → IsTrue old.in_transaction → ExecutesInside 0 text [] old new r
    → OnOk r (ExtendsSchema schema (created (created schema table) counts) old new × IsTrue new.in_transaction)
made_counted old new schema text table counts (Err e) is alone plain defined lacks counts_are was inside h = tt
made_counted old new schema text table counts (Ok count) is alone plain defined lacks counts_are was inside h =
    let w = subst (λ t. Writes old new None CreateTable t [] count) alone (runs_as text [] old new schema was CreateTable is plain count h.0) in
    let all = went w.changed in
    let first = went all.1 in
    let it = first.1 in
    let same : it.table ≡ table = same_value (sym it.defined ∙ defined) in
    let mid : first.0.schema ≡ created schema table = it.is ∙ ap (λ s. created s it.table) was ∙ ap (created schema) same in
    let needs : lacks_sequence first.0.schema ≡ true = ap lacks_sequence mid ∙ lacks in
    let empty : first.0.trees (next_tree schema) ≡ [] = subst (λ s. first.0.trees (next_tree s) ≡ []) was it.empty in
    let preserved = subst (λ (s : Schema). KeepsRows s.tables old.now.trees first.0.trees) was it.others in
    let second = rw needs at first.2 in
    let same_counts : second.table ≡ counts = same_value (sym second.defined ∙ counts_are) in
    let now : new.now ≡ all.0 = ap (λ (p : Tally × Database). p.1) (same_value all.2) in
    let is_so : all.0.schema ≡ created (created schema table) counts = second.is ∙ ap (λ s. created s second.table) mid ∙ ap (created (created schema table)) same_counts in
    let last : all.0.trees (next_tree (created schema table)) ≡ [] = subst (λ s. all.0.trees (next_tree s) ≡ []) mid second.empty in
    let later = subst (λ (s : Schema). KeepsRows s.tables first.0.trees all.0.trees) mid second.others in
    let one = record table { tree = next_tree schema } in
    let stays = λ (t : Table). all.0.trees t.tree ≡ first.0.trees t.tree in (
      record {
        schema = ap (λ (d : Database). d.schema) now ∙ is_so;
        preserved = subst (λ (d : Database). KeepsRows schema.tables old.now.trees d.trees) (sym now) (preserved_twice schema.tables old.now.trees first.0.trees all.0.trees preserved (before_of stays schema.tables (one ∷ []) later));
        empty = subst (λ (l : List Table). AllByRecursion (λ (t : Table). new.now.trees t.tree ≡ []) l) (sym (behind_both schema.tables one (record counts { tree = next_tree (created schema table) })))
            (subst (λ (d : Database). (d.trees (next_tree schema) ≡ []) × ((d.trees (next_tree (created schema table)) ≡ []) × Unit {0})) (sym now) ((behind_of stays schema.tables (one ∷ []) later).0 ∙ empty, (last, tt)));
      },
      w.shown.mode ∙ inside,
    )

-- an index on a table
made_index : (old new : State) (schema : Schema) (at : ℕ) (text : List ℕ) (table : Table) (index : Index) (r : Result ℕ Error)
    → command_of (understood schema text) ≡ CreateIndex at → statement_of text (understood schema text) ≡ text → IsPlain (understood schema text) → slice_get schema.tables at ≡ Some table
    → index_defined_by table text ≡ Ok index → old.now.schema ≡ schema → IsTrue old.in_transaction → ExecutesInside 0 text [] old new r
    → OnOk r (ExtendsSchema schema (indexed schema table index) old new × IsTrue new.in_transaction)
made_index old new schema at text table index (Err e) is alone plain there defined was inside h = tt
made_index old new schema at text table index (Ok count) is alone plain there defined was inside h =
    let w = subst (λ t. Writes old new None (CreateIndex at) t [] count) alone (runs_as text [] old new schema was (CreateIndex at) is plain count h.0) in
    let changed = rw there at (subst (λ s. Does old.step_limit (mode_of old) [] (record old.now { schema = s }) text None (CreateIndex at) (Ok (w.tally, new.now))) was w.changed) in
    let done = went changed in
    let it = done.1 in
    let same : it.index ≡ index = same_value (sym it.defined ∙ defined) in
    let is_so : done.0.schema ≡ indexed schema table index = it.is ∙ ap (indexed schema table) same in
    let now : new.now ≡ done.0 = ap (λ (p : Tally × Database). p.1) (same_value done.2) in (
      record {
        schema = ap (λ (d : Database). d.schema) now ∙ is_so;
        preserved = subst (λ (d : Database). KeepsRows schema.tables old.now.trees d.trees) (sym now) it.rows;
        empty = subst (λ (l : List Table). AllByRecursion (λ (t : Table). new.now.trees t.tree ≡ []) l) (sym (behind_none schema.tables)) tt;
      },
      w.shown.mode ∙ inside,
    )

-- in the schema the text makes this table, and no other
pub record MakesTable (schema : Schema) (text : List ℕ) (table : Table) : Type 0 where
  pub is : command_of (understood schema text) ≡ CreateTable
  pub alone : statement_of text (understood schema text) ≡ text
  pub plain : IsPlain (understood schema text)
  pub defined : table_defined_by text ≡ Ok table
  pub full : lacks_sequence (created schema table) ≡ false

pub table_made : {schema : Schema} {text : List ℕ} {table : Table} → MakesTable schema text table → (old new : State) (r : Result ℕ Error) → old.now.schema ≡ schema → IsTrue old.in_transaction → ExecutesInside 0 text [] old new r
    → OnOk r (ExtendsSchema schema (created schema table) old new × IsTrue new.in_transaction)
table_made {schema} {text} {table} makes old new r = made old new schema text table r makes.is makes.alone makes.plain makes.defined makes.full

-- in the schema the text made of the table and of the index makes this index
pub record MakesIndex (schema : Schema) (table : Table) (index : Index) : Type 0 where
  pub place : ℕ
  pub is : command_of (understood schema (indexing_text table index)) ≡ CreateIndex place
  pub alone : statement_of (indexing_text table index) (understood schema (indexing_text table index)) ≡ indexing_text table index
  pub plain : IsPlain (understood schema (indexing_text table index))
  pub there : slice_get schema.tables place ≡ Some table
  pub defined : index_defined_by table (indexing_text table index) ≡ Ok index

pub index_made : {schema : Schema} {table : Table} {index : Index} → MakesIndex schema table index → (old new : State) (r : Result ℕ Error) → old.now.schema ≡ schema → IsTrue old.in_transaction → ExecutesInside 0 (indexing_text table index) [] old new r
    → OnOk r (ExtendsSchema schema (indexed schema table index) old new × IsTrue new.in_transaction)
index_made {schema} {table} {index} makes old new r = made_index old new schema makes.place (indexing_text table index) table index r makes.is makes.alone makes.plain makes.there makes.defined
