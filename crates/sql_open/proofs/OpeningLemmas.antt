-- What is read of tables when they are opened.
use Rattle.std.proofs.Common.{◌≡◌, Option, Some, Ok, Err, Result, refl, sym, ap, subst, ◌∙◌}
use Rattle.sqlite.specs.Effect.{Database, IsDatabase}
use Rattle.sqlite.specs.Held.{Held}
use Rattle.sqlite.specs.State.{State}
use Rattle.sqlite.specs.Tree.{Trees}
use Rattle.sqlite_catalog.specs.Listing.{AreListed}
use Rattle.sqlite_trees.specs.Objects.{catalog_tree}
use Rattle.sqlite_trees.specs.declared.store.Store as store
use Rattle.desk_words.specs.declared.office.OfficeLists.{OfficeLists}
use Rattle.sql_schema.specs.Statements.{HasTables, IsDesk, IsDeskOf, IsRising, Layout, layout_two}
use Rattle.sql_model.specs.OfficeRecords.{office_in}
use Rattle.sql_model.specs.Standing.{IsVersion, Stands}
use Rattle.sql_load.specs.declared.fault.LoadError.{LoadError}
use Rattle.sql_load.specs.declared.fault.LoadError.TheVariants as reading
use Rattle.sql_open.specs.Judging.{IsJudged}
use Rattle.sql_open.proofs.OneSchema.{one_schema}
use Rattle.sql_open.specs.Opening.{IsVerdict, fault_of_reading}
use Rattle.sql_open.specs.declared.fault.OpenFault.{OpenFault}

pub some_is : {A : Type 0} {a b : A} → ◌≡◌ {A = Option A} (Some a) (Some b) → a ≡ b
some_is h = cc

-- what is judged of the tables is why a database is opened as a desk, or not
module _ {S : Type 0} (g : store.Ghosts S) (a b : Held S) where
  pub verdict_right : (u : Unit {0}) → IsJudged g a b (Ok u) → IsVerdict g a b (Ok tt)
  verdict_right u judged = record { right = judged.right; same = judged.same; none = λ read reported. absurd cc; other = λ h. cc; changes = judged.changes }

  pub verdict_wrong : (e : LoadError) (r : Result (Unit {0}) OpenFault) → r ≡ Err (fault_of_reading e) → IsJudged g a b (Err e) → IsVerdict g a b r
  verdict_wrong e r is judged = subst (IsVerdict g a b) (sym is) (go e judged)
    where
      go : (e : LoadError) → IsJudged g a b (Err e) → IsVerdict g a b (Err (fault_of_reading e))
      go reading.NoOffice judged = record { right = λ read. tt; same = λ read. tt; none = λ read _. judged.none read refl; other = λ h. cc; changes = judged.changes }
      go reading.Store judged = record { right = λ read. tt; same = λ read. tt; none = λ read h. absurd cc; other = λ h. cc; changes = judged.changes }
      go reading.Memory judged = record { right = λ read. tt; same = λ read. tt; none = λ read h. absurd cc; other = λ h. cc; changes = judged.changes }

-- databases whose tables are the same are declared alike
pub same_database : (old new : State) → new.now.trees ≡ old.now.trees → IsDatabase old.now → IsDatabase new.now → new.now ≡ old.now
same_database old new same was is =
    let there : AreListed (old.now.trees catalog_tree) new.now.schema = subst (λ (t : Trees). AreListed (t catalog_tree) new.now.schema) same is.lists.listed in
    let declared = one_schema _ old.now.schema new.now.schema was.lists.listed there in
    ap (λ t. record new.now { trees = t }) same ∙ ap (λ s. record old.now { schema = s }) declared

-- what is so of tables is so of the same tables
pub desk_of_same : (layout : Layout) (s t : State) → s.now ≡ t.now → IsDeskOf layout s → IsDeskOf layout t
desk_of_same layout s t same desk = record {
  schema = subst (λ (d : Database). HasTables layout d.schema) same desk.schema;
  rising = λ number is. subst (λ (d : Database). IsRising (d.trees number)) same (desk.rising number is);
}

pub desk_same : (s t : State) → s.now ≡ t.now → IsDesk s → IsDesk t
desk_same = desk_of_same layout_two

pub stands_same : (s t : State) (office : OfficeLists) → s.now ≡ t.now → Stands s office → Stands t office
stands_same s t office same stands = record {
  desk = desk_same s t same stands.desk;
  version = subst (λ (d : Database). IsVersion (record s { now = d })) same stands.version;
  holds = subst (λ (d : Database). office_in d.trees ≡ Some office) same stands.holds;
  preserved = stands.preserved;
}
