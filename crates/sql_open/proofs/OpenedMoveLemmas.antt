-- The move of tables of version 1, and what is known of them after it.
use Rattle.std.proofs.Common.{◌≡◌, true, Option, Some, Ok, Err, Result, OnOk, IsTrue, refl, sym, ap, subst, ◌∙◌, arith}
use Rattle.sqlite.specs.Effect.{Database, IsDatabase}
use Rattle.sqlite.specs.Held.{Held, state}
use Rattle.sqlite.specs.State.{State, HasCleanDisk, IsUnchanged, Survives}
use Rattle.sqlite.specs.Tree.{Trees}
use Rattle.sqlite.proofs.StateLemmas.{survives_then}
use Rattle.sqlite_trees.specs.declared.store.Store as store
use Rattle.sql_model.specs.MigratedRecords.{IsMoved}
use Rattle.sql_model.specs.OfficeRecords.{FlatLists, flat_one, flat_two, office_of_records, office_one}
use Rattle.sql_model.specs.Standing.{HasNoOffice, HasNoOfficeBy, IsVersionOf, one}
use Rattle.sql_open.specs.Migration.{IsFirst, IsSecond, MovesTables}
use Rattle.sql_schema.specs.Statements.{layout_one}
use Rattle.sql_schema.specs.Tables.{schema_one}
use Rattle.sql_desk_tables.specs.ColumnChecks.{HasColumnsOf}
use Rattle.sql_open.specs.Crashes.{LeavesItself}
use Rattle.sql_open.specs.Known.{IsMadeAs}
use Rattle.sql_open.specs.OpeningByMigration.{HoldsMoved, IsMove, MayMove, MovesWhole}
use Rattle.sql_open.specs.Judging.{HasOffice}
use Rattle.sql_open.specs.Opened.{StandsFor}
use Rattle.sql_open.specs.Opening.{IsVerdict}
use Rattle.sql_open.specs.Rising.{RowsRise}
use Rattle.sql_open.specs.WholeDesk.{IsWhole}
use Rattle.sql_open.specs.declared.fault.OpenFault.{OpenFault}
use Rattle.sql_open.specs.declared.version.KnownVersion.TheVariants.{One}
use Rattle.sql_rows.proofs.RowMeaningLemmas.{bound}
use Rattle.vocabulary.specs.OptionSteps.{◌>>=◌}
use Rattle.sql_open.proofs.CrashLemmas.{nothing_then}
use Rattle.sql_open.proofs.OpeningLemmas.{desk_of_same, stands_same}
use Rattle.sql_open.proofs.OpenedPreservedLemmas.{made_same, moved_same, version_same}
use Rattle.sql_open.proofs.RisingLemmas.{are_a_desk_one}
use Rattle.sql_open.proofs.WholeLemmas.{leaves_whole, ones_made, whole_of}

-- ---- in the transaction

-- tables of version 1 are moved, and then judged
module _ {S T : Type 0} (g : store.Ghosts S) (a b c : Held S) (t : T) (r : Result (Unit {0}) OpenFault) (moves : MovesTables g a b (Ok t)) (judged : IsVerdict g b c r) where
  early : HasCleanDisk (state g c) → HasCleanDisk (state g b)
  early clean = omega (arith, judged.changes.crash.clean, clean)

  -- the office that the moved tables hold is that of the tables of version 1
  held_so : IsSecond (state g a) (state g b) → IsUnchanged (state g b) (state g c) → HasOffice (state g b).now.trees → HoldsMoved (state g a) (state g c)
  held_so second same has =
      let now = sym same.0.now_is in
      let flat = bound (flat_two (state g b).now.trees) office_of_records has.0 has.1 in
      let meant = second.meant flat.0 flat.1 in
      record {
        office = has.0;
        stands = stands_same (state g b) (state g c) has.0 now (record { desk = second.desk; version = second.version; holds = has.1; preserved = has.2 });
        sound = subst IsDatabase now second.sound;
        was = ap (λ (o : Option FlatLists). o >>= office_of_records) meant ∙ flat.2;
        moved = moved_same (state g a) (state g b) (state g a) (state g c) refl now (second.moved flat.0 meant);
      }

  -- and so they hold none where the tables of version 1 held none
  none_so : IsSecond (state g a) (state g b) → HasNoOffice (state g b) → HasNoOfficeBy one (state g a)
  none_so second none office h =
      let flat = bound (flat_one (state g a).now.trees) office_of_records office h in
      none office (ap (λ (o : Option FlatLists). o >>= office_of_records) ((second.moved flat.0 flat.1).records ∙ flat.1) ∙ flat.2)

  right_so : (r : Result (Unit {0}) OpenFault) → IsSecond (state g a) (state g b) → OnOk r (IsUnchanged (state g b) (state g c)) → OnOk r (HasOffice (state g b).now.trees) → OnOk r (HoldsMoved (state g a) (state g c))
  right_so (Ok u) second same has = held_so second same has
  right_so (Err fault) second same has = tt

  pub moves_judged : IsMove g a c r
  moves_judged = record {
    right = λ clean inside first.
        let second = moves.moved (early clean) inside first in
        right_so r second (judged.same (clean, second.desk)) (judged.right (clean, second.desk));
    none = λ clean inside first reported.
        let second = moves.moved (early clean) inside first in
        none_so second (judged.none (clean, second.desk) reported);
    other = judged.other;
    was_open = λ clean is_open. (moves.commits.preserved (early clean)).was_open (judged.changes.was_open clean is_open);
    crash = nothing_then (state g a) (state g b) (state g c) moves.commits.crash judged.changes.crash;
  }

-- ---- the transaction

-- what is held is held of the same tables
pub holds_same : (a b old new : State) → a.now ≡ old.now → b.now ≡ new.now → HoldsMoved a b → HoldsMoved old new
holds_same a b old new from to holds = record {
  office = holds.office;
  stands = stands_same b new holds.office to holds.stands;
  sound = subst IsDatabase to holds.sound;
  was = subst (λ (d : Database). office_one d.trees ≡ Some holds.office) from holds.was;
  moved = moved_same a b old new from to holds.moved;
}

-- and so are tables of version 1
pub first_same : (s t : State) → s.now ≡ t.now → IsFirst s → IsFirst t
first_same s t same first = record {
  desk = desk_of_same layout_one s t same first.desk;
  schema = subst (λ (d : Database). d.schema ≡ schema_one) same first.schema;
  version = version_same One s t same first.version;
  sound = subst IsDatabase same first.sound;
}

-- what is done in a transaction that was just begun
module _ {S : Type 0} (g : store.Ghosts S) (conn begun mid : Held S) (is : begun ≡ record conn { in_transaction = true }) (r : Result (Unit {0}) OpenFault) (moves : IsMove g begun mid r) where
  begins : IsMove g (record conn { in_transaction = true }) mid r
  begins = subst (λ (h : Held S). IsMove g h mid r) is moves

  right_of : (x : Result (Unit {0}) OpenFault) → OnOk x (HoldsMoved (state g (record conn { in_transaction = true })) (state g mid)) → OnOk x (HoldsMoved (state g conn) (state g mid))
  right_of (Ok u) holds = holds_same (state g (record conn { in_transaction = true })) (state g mid) (state g conn) (state g mid) refl refl holds
  right_of (Err fault) holds = tt

  pub right_begun : HasCleanDisk (state g mid) → IsFirst (state g conn) → OnOk r (HoldsMoved (state g conn) (state g mid))
  right_begun clean first = right_of r (begins.right clean refl (first_same (state g conn) (state g (record conn { in_transaction = true })) refl first))

  pub survives_begun : Survives (state g conn) (state g mid) (λ _. ⊥)
  survives_begun = let s = begins.crash in record { clean = s.clean; shield = s.shield; counts = s.counts; limit = s.limit; closes = s.closes; crash = s.crash }

-- and then committed
module _ {S : Type 0} (g : store.Ghosts S) (conn begun mid : Held S) (is : begun ≡ record conn { in_transaction = true }) (moves : IsMove g begun mid (Ok tt)) (end : State)
    (commits : Survives (state g mid) end (λ db. db ≡ (state g mid).now.trees)) where
  held_before : HasCleanDisk end → IsFirst (state g conn) → HoldsMoved (state g conn) (state g mid)
  held_before clean = right_begun g conn begun mid is (Ok tt) moves (omega (arith, commits.clean, clean))

  pub ends_moved : (HasCleanDisk end → end.now ≡ (state g mid).now) → HasCleanDisk end → IsFirst (state g conn) → HoldsMoved (state g conn) end
  ends_moved same clean first = holds_same (state g conn) (state g mid) (state g conn) end refl (sym (same clean)) (held_before clean first)

  -- a crash leaves no other tables than these, whole
  pub commits_moved : Survives (state g conn) end (MovesWhole (state g conn))
  commits_moved =
      survives_then (state g conn) (state g mid) end (λ _. ⊥) (λ db. db ≡ (state g mid).now.trees) (MovesWhole (state g conn)) (λ _ _ none. absurd none)
      (λ clean db same first.
      let holds = held_before clean first in (
        holds.office,
        holds.was,
        subst (λ (t : Trees). IsWhole t holds.office) (sym same) (whole_of (state g mid) holds.office holds.stands holds.sound),
      ))
      (survives_begun g conn begun mid is (Ok tt) moves) commits

-- ---- tables of version 1 whose columns stand

pub first_of : (s : State) → IsMadeAs One s.now.schema → IsVersionOf one s → RowsRise s → IsDatabase s.now → IsFirst s
first_of s made version rise sound = record { desk = are_a_desk_one s (ones_made s.now.schema made) rise; schema = made; version = version; sound = sound }

-- and that were moved
module _ (old judged new : State) (same : judged.now ≡ old.now) where
  pub stands_moved : HoldsMoved judged new → LeavesItself new → StandsFor old new One
  stands_moved holds itself = (holds.office, subst (λ (d : Database). office_one d.trees ≡ Some holds.office) same holds.was, holds.stands, leaves_whole new holds.office holds.stands holds.sound itself)

  pub moved_from : HoldsMoved judged new → IsMoved old new
  moved_from holds = moved_same judged new old new same refl holds.moved

  pub no_office_from : HasNoOfficeBy one judged → HasNoOfficeBy one old
  no_office_from = subst (λ (d : Database). HasNoOfficeBy one (record judged { now = d })) same

  -- they were made as their program makes them
  pub made_from : IsMadeAs One judged.now.schema → IsMadeAs One old.now.schema
  made_from = made_same One judged old same

  pub first_from : IsMadeAs One judged.now.schema → IsVersionOf one old → RowsRise old → IsDatabase old.now → IsFirst judged
  first_from made version rise sound = first_same old judged (sym same) (first_of old (made_from made) version rise sound)

  pub may_move : (db : Trees) → IsTrue old.is_open → HasColumnsOf one.asked old.now.schema → IsMadeAs One judged.now.schema → RowsRise old → IsDatabase old.now → MovesWhole judged db → MayMove old db
  may_move db was_open columns made rise sound whole = record {
    was_open = was_open;
    columns = columns;
    made = made_from made;
    whole = λ version.
        let it = whole (first_from made version rise sound) in
        (it.0, subst (λ (d : Database). office_one d.trees ≡ Some it.0) same it.1, it.2);
  }
