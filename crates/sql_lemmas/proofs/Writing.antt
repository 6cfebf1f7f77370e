-- What a write does, for any schema.
use Rattle.std.proofs.Common.{◌≡◌, ◌≢◌, IsTrue, ◌⊎◌, inl, inr, ℕ, ◌/◌, ℤ, List, [], length, fold, slice_get, false, if◌then◌else◌, Some, None, Ok, Err, Result, refl, ap, subst, ◌∙◌, Option}
use Rattle.std.specs.Ordering.{int_cmp, is_lt}
use Rattle.std.proofs.lemmas.Bool.{cases_Bool}
use Rattle.sqlite.specs.Order.{Row}
use Rattle.sqlite.specs.Term.{Term}
use Rattle.sqlite.specs.Table.{Table}
use Rattle.sqlite.specs.Schema.{Schema}
use Rattle.sqlite.specs.Source.{Source}
use Rattle.sqlite.specs.Source.TheVariants.{Values}
use Rattle.sqlite.specs.Command.TheVariants.{Insert}
use Rattle.sqlite.specs.Edit.{Edit, edit_of, Applies}
use Rattle.sqlite.specs.Does.{Tally, Does}
use Rattle.sqlite.specs.Rows.{Written, Task, count_of, rowids_for, stamped, Counts, sequence, higher, counting}
use Rattle.sqlite.specs.Effect.{Database, IsSource, value_rows}
use Rattle.sqlite.specs.Tree.{Trees}
use Rattle.sqlite.specs.State.{State, mode_of, Writes}
use Rattle.sqlite_rules.specs.Action.{Writes as Leaves}
use Rattle.sqlite_schema.specs.declared.schema.Keys.TheVariants.{Enforced}
use Rattle.sql_schema.specs.Statements.{Layout, has_table}
use Rattle.sql_lemmas.proofs.Frames.{AreApart}
use Rattle.sql_lemmas.proofs.Acting.{first_step, step}

-- ---- the parts of a statement

pub went : {B E R : Type 0} {b : B} {Stops : E → Type 0} → ((stop : E) × Stops stop × (Ok b ≡ Err stop)) ⊎ R → R
went (inl stopped) = absurd (let e = stopped.2 in cc)
went (inr on) = on

pub same_value : {B E : Type 0} {a b : B} → ◌≡◌ {A = Result B E} (Ok a) (Ok b) → a ≡ b
same_value e = cc

-- ---- INSERT

abbrev pub rows_of_values : Table → Row → ℕ → List Term → List Row
rows_of_values table params width terms = value_rows (stamped table params) width (length terms / width) terms

abbrev pub insert_edit : Trees → Table → Option Row → List Row → Edit
insert_edit db table counter rows = edit_of db table [] (rowids_for table (count_of counter)) 0 rows

-- the rows of the table are put in, and no other table is changed but that of the counts
pub record Inserted (layout : Layout) (schema : Schema) (table : Table) (rows : List Row) (old new : State) : Type 0 where
  pub counter : Option Row
  pub mid : Trees
  pub put : Applies schema Enforced old.now.trees (insert_edit old.now.trees table counter rows) mid
  pub same_schema : new.now.schema ≡ schema
  pub preserved : (c : Table) → sequence schema ≡ Some c → (number : ℕ) → IsTrue (has_table layout number) → number ≢ c.tree → new.now.trees number ≡ mid number

counting_table : (db : Trees) (table c : Table) (top : ℤ) (counter : Option Row) → (counting db table c top counter).table ≡ c
counting_table db table c top None = refl
counting_table db table c top (Some row) = refl

module _ {layout : Layout} {schema : Schema} (apart : AreApart layout schema) where
  counted_rest : (task : Task) → task.schema ≡ schema → task.keys ≡ Enforced → (mid next : Trees) (counter : Option Row) (top : ℤ) → Counts task mid counter top (Ok next)
      → (c : Table) → sequence schema ≡ Some c → (number : ℕ) → IsTrue (has_table layout number) → number ≢ c.tree → next number ≡ mid number
  counted_rest task same keys mid next counter top h c is number of other =
      elim (cases_Bool (if task.table.is_counted then is_lt (int_cmp (count_of counter) top) else false)) [
        | inl counts ↦
            let edit = counting mid task.table c top counter in
            let there : sequence task.schema ≡ Some c = ap sequence same ∙ is in
            let e : Leaves task.schema task.keys mid edit (Ok next) = rw there at (rw counts at h) in
            let one = first_step apart mid next edit (rw (same, keys) at e) in
            one.2 number of ∙ step apart mid one.0 edit one.1 number of (rw (counting_table mid task.table c top counter) other)
        | inr none ↦ let same : next ≡ mid = same_value (rw none at h) in ap (λ (t : Trees). t number) same
      ]

  -- the rows that are put in are those of what they are taken from
  pub inserted_from : (old new : State) (at : ℕ) (table : Table) (from : Source) (text : List ℕ) (params : Row) (count : ℕ)
      → old.now.schema ≡ schema → slice_get schema.tables at ≡ Some table
      → Writes old new None (Insert at from) text params count → (rows : List Row) × IsSource (record old.now { schema = schema }) (stamped table params) from rows × Inserted layout schema table rows old new
  inserted_from old new at table from text params count has there w =
      let task : Task = record { limit = old.step_limit; keys = Enforced; schema = schema; table = table; params = params } in
      let changed = rw there at (subst (λ s. Does old.step_limit (mode_of old) params (record old.now { schema = s }) text None (Insert at from) (Ok (w.tally, new.now))) has w.changed) in
      let done = went changed in
      let now = ap (λ (p : Tally × Database). p.1) (same_value (went (went done.2).2).2) in
      let given = went done.1 in
      let counter = went given.2 in
      let written = went counter.2 in
      let counted = went written.2 in
      let trees : done.0.trees ≡ counted.0 = ap (λ (it : Written). it.trees) (same_value counted.2) in
      let final : new.now.trees ≡ counted.0 = ap (λ (d : Database). d.trees) now ∙ trees in
      let edit = insert_edit old.now.trees table counter.0 given.0 in
      let one = first_step apart old.now.trees written.0 edit written.1 in (
        given.0,
        given.1,
        record {
          counter = counter.0;
          mid = one.0;
          put = one.1;
          same_schema = ap (λ (d : Database). d.schema) now;
          preserved = λ c is number of other. ap (λ (t : Trees). t number) final ∙ counted_rest task refl refl written.0 counted.0 counter.0 (fold higher (count_of counter.0) edit.news) counted.1 c is number of other ∙ one.2 number of;
        },
      )

  pub inserted : (old new : State) (at : ℕ) (table : Table) (terms : List Term) (width : ℕ) (text : List ℕ) (params : Row) (count : ℕ)
      → old.now.schema ≡ schema → slice_get schema.tables at ≡ Some table
      → Writes old new None (Insert at (Values terms width)) text params count → Inserted layout schema table (rows_of_values table params width terms) old new
  inserted old new at table terms width text params count has there w =
      let it = inserted_from old new at table (Values terms width) text params count has there w in
      subst (λ rows. Inserted layout schema table rows old new) it.1.1 it.2
