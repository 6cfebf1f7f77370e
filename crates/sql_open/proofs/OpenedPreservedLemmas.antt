-- What is known of tables once their version was judged, whichever it is.
use Rattle.std.proofs.Common.{◌≡◌, ◌≢◌, ◌⊎◌, true, [], Some, IsTrue, refl, Ok, Err, Result, IfErr, OnErr, OnOk, sym, ap, subst, ◌∙◌, inl, inr, arith}
use Rattle.sqlite.specs.Effect.{Database}
use Rattle.sqlite.specs.Held.{Held, state}
use Rattle.sqlite.specs.State.{State, HasCleanDisk, IsLive, Survives}
use Rattle.sqlite.specs.Tree.{Trees}
use Rattle.sqlite.proofs.StateLemmas.{survives_then}
use Rattle.sqlite_trees.specs.declared.store.Store as store
use Rattle.sql_model.specs.MigratedRecords.{IsMoved}
use Rattle.sql_model.specs.OfficeRecords.{are_left_empty, flat_one, flat_two, office_one}
use Rattle.sql_model.specs.Standing.{HasNoVersion, IsVersion, IsVersionOf, one}
use Rattle.sql_schema.specs.Contents as table
use Rattle.sql_schema.specs.Contents.{demands_before_sessions, polls_before_sessions, presences_before_sessions}
use Rattle.sql_schema.specs.CopiedRows.{Copied}
use Rattle.sql_schema.specs.Tables.{desk_schema}
use Rattle.sql_desk_tables.specs.ColumnChecks.{HasColumnsOf}
use Rattle.sql_desk_tables.specs.Versions.{AreNoted, NotesVersion}
use Rattle.sql_open.specs.Crashes.{AreMoved}
use Rattle.sql_open.specs.Known.{AreOpened, IsMadeAs, ShowsKnown, WereOf, edition_of}
use Rattle.sql_open.specs.OpeningByMigration.{MayMove}
use Rattle.sql_open.specs.Opened.{IsWhyUnopened, KeepsOpenRows, StandsFor, StandsWhole, WereKnown}
use Rattle.sql_open.specs.Opening.{IsFaultOf, IsNoDeskOf, IsOpenCause, ShowsLater}
use Rattle.sql_open.specs.Rising.{RowsRise}
use Rattle.sql_open.specs.WholeDesk.{OpensWhole}
use Rattle.sql_open.specs.declared.fault.OpenFault.{OpenFault}
use Rattle.sql_open.specs.declared.fault.OpenFault.TheVariants.{NotADesk, NewerVersion}
use Rattle.sql_open.specs.declared.opening.HandedBack.TheVariants as back
use Rattle.sql_open.specs.declared.version.KnownVersion.{KnownVersion}
use Rattle.sql_open.specs.declared.version.KnownVersion.TheVariants.{One, Two}
use Rattle.sql_open.proofs.FaultLemmas.{by_known, by_version}
use Rattle.sql_open.proofs.RisingLemmas.{are_noted}
use Rattle.sql_open.proofs.WholeLemmas.{no_fault_of_whole, notes_so, opens_whole, same_version}

-- ---- the same tables

-- tables that were moved were moved, whatever else is known of the stores
pub moved_same : (a b c d : State) → a.now ≡ c.now → b.now ≡ d.now → IsMoved a b → IsMoved c d
moved_same a b c d p q h = record {
  schema = subst (λ (x : Database). x.schema ≡ desk_schema) q h.schema;
  version = subst (λ (x : Database). IsVersion (record b { now = x })) q h.version;
  sessions = subst (λ (x : Database). x.trees 29 ≡ []) q h.sessions;
  presences = both (λ x y. Copied presences_before_sessions table.presences x.trees y.trees) h.presences;
  demands = both (λ x y. Copied demands_before_sessions table.demands x.trees y.trees) h.demands;
  polls = both (λ x y. Copied polls_before_sessions table.polls x.trees y.trees) h.polls;
  left = subst (λ (x : Database). are_left_empty x.trees ≡ true) q h.left;
  others = λ number stays. both (λ x y. y.trees number ≡ x.trees number) (h.others number stays);
  records = both (λ x y. flat_two y.trees ≡ flat_one x.trees) h.records;
}
  where
    both : (P : Database → Database → Type 0) → P a.now b.now → P c.now d.now
    both P it = subst (λ x. P x d.now) p (subst (P a.now) q it)

pub made_same : (known : KnownVersion) (s t : State) → s.now ≡ t.now → IsMadeAs known s.now.schema → IsMadeAs known t.now.schema
made_same known s t same = subst (λ (d : Database). IsMadeAs known d.schema) same

pub version_same : (known : KnownVersion) (s t : State) → s.now ≡ t.now → IsVersionOf (edition_of known) s → IsVersionOf (edition_of known) t
version_same known s t same = subst (λ (d : Database). IsVersionOf (edition_of known) (record s { now = d })) same

pub columns_same : (known : KnownVersion) (s t : State) → s.now ≡ t.now → HasColumnsOf (edition_of known).asked s.now.schema → HasColumnsOf (edition_of known).asked t.now.schema
columns_same known s t same = subst (λ (d : Database). HasColumnsOf (edition_of known).asked d.schema) same

pub none_same : (known : KnownVersion) (s t : State) → s.now ≡ t.now → IsNoDeskOf known s → IsNoDeskOf known t
none_same known s t same = subst (λ (d : Database). IsNoDeskOf known (record s { now = d })) same

pub opened_same : (known : KnownVersion) (s t new : State) → s.now ≡ t.now → AreOpened known s new → AreOpened known t new
opened_same One s t new same h = (made_same One s t same h.0, moved_same s new t new same refl h.1)
opened_same Two s t new same h = h ∙ same

-- ---- tables whose version was read, and what was then judged of them

module _ {S : Type 0} (g : store.Ghosts S) (known : KnownVersion) (old reported new : Held S) (live : IsLive (state g old))
    (same : HasCleanDisk (state g reported) → IsTrue (state g reported).is_open → IsTrue (state g old).is_open × ((state g reported).now ≡ (state g old).now)) (early : HasCleanDisk (state g new) → HasCleanDisk (state g reported))
    (noted : HasCleanDisk (state g reported) → NotesVersion (state g old).now.schema → IsVersionOf (edition_of known) (state g old)) (shown : HasCleanDisk (state g reported) → ShowsKnown g (state g old).now known) where
  -- the tables that were judged are those that were
  as_reported : HasCleanDisk (state g new) → IsTrue (state g reported).is_open → (state g reported).now ≡ (state g old).now
  as_reported clean is_open = (same (early clean) is_open).1

  abbrev pub StandsIfReturned : Type 0
  StandsIfReturned = IsMadeAs known (state g reported).now.schema → IsVersionOf (edition_of known) (state g reported) → StandsFor (state g reported) (state g new) known

  stands_from : HasCleanDisk (state g new) → IsTrue (state g reported).is_open → StandsIfReturned → (k : KnownVersion) → IsMadeAs k (state g old).now.schema → IsVersionOf (edition_of k) (state g old)
      → StandsFor (state g old) (state g new) k
  stands_from clean is_open stands k made version =
      let there_is = as_reported clean is_open in
      let here = noted (early clean) (notes_so k (state g old).now.schema made) in
      let is : known ≡ k = same_version known k (state g old) here version in
      let made_here : IsMadeAs known (state g old).now.schema = subst (λ j. IsMadeAs j (state g old).now.schema) (sym is) made in
      let there = stands (made_same known (state g old) (state g reported) (sym there_is) made_here) (version_same known (state g old) (state g reported) (sym there_is) here) in
      subst (λ j. StandsFor (state g old) (state g new) j) is (subst (λ (d : Database). StandsFor (record (state g reported) { now = d }) (state g new) known) there_is there)

  module _ (r : Result (Unit {0}) OpenFault) where
    abbrev pub StandsReturned : Type 0
    StandsReturned = HasCleanDisk (state g new) → IsMadeAs known (state g reported).now.schema → IsVersionOf (edition_of known) (state g reported) → OnOk r (StandsFor (state g reported) (state g new) known)

    abbrev pub OpenedReturned : Type 0 → Type 0
    OpenedReturned More = HasCleanDisk (state g new) → OnOk r (IsTrue (state g reported).is_open × HasColumnsOf (edition_of known).asked (state g reported).now.schema × More)

  pub preserved_stands : (r : Result (Unit {0}) OpenFault) (More : Type 0) → StandsReturned r → OpenedReturned r More → OnOk r (StandsWhole g old new)
  preserved_stands (Ok u) More stands opened = λ clean. stands_from clean (opened clean).0 (stands clean)
  preserved_stands (Err e) More stands opened = tt

  pub preserved_whole : (r : Result (Unit {0}) OpenFault) (More : Type 0) → StandsReturned r → OpenedReturned r More → OnOk r (OpensWhole g old new)
  preserved_whole (Ok u) More stands opened = λ clean was whole.
      let is_open = (opened clean).0 in
      opens_whole (state g old) (state g new) live (same (early clean) is_open).0 (stands_from clean is_open (stands clean)) was whole
  preserved_whole (Err e) More stands opened = tt

  were_of : HasCleanDisk (state g new) → IsTrue (state g reported).is_open → HasColumnsOf (edition_of known).asked (state g reported).now.schema → WereOf g known (state g old)
  were_of clean is_open columns = record {
    shown = shown (early clean);
    noted = noted (early clean);
    columns = columns_same known (state g reported) (state g old) (as_reported clean is_open) columns;
  }

  -- what they became, where their version was noted
  pub are_if_noted : HasCleanDisk (state g new) → IsTrue (state g reported).is_open → (IsVersionOf (edition_of known) (state g reported) → AreOpened known (state g reported) (state g new)) → NotesVersion (state g old).now.schema
      → AreOpened known (state g old) (state g new)
  are_if_noted clean is_open are notes =
      let there_is = as_reported clean is_open in
      opened_same known (state g reported) (state g old) (state g new) there_is (are (version_same known (state g old) (state g reported) (sym there_is) (noted (early clean) notes)))

  -- so it is where they were made as the program of their version makes them
  pub are_if_made : HasCleanDisk (state g new) → IsTrue (state g reported).is_open → IsMadeAs known (state g reported).now.schema × (IsVersionOf (edition_of known) (state g reported) → AreOpened known (state g reported) (state g new))
      → AreOpened known (state g old) (state g new)
  are_if_made clean is_open it = are_if_noted clean is_open it.1 (notes_so known (state g old).now.schema (made_same known (state g reported) (state g old) (as_reported clean is_open) it.0))

  pub are_as_reported : HasCleanDisk (state g new) → IsTrue (state g reported).is_open → AreOpened known (state g reported) (state g new) → AreOpened known (state g old) (state g new)
  are_as_reported clean is_open are = opened_same known (state g reported) (state g old) (state g new) (as_reported clean is_open) are

  pub preserved_known : (r : Result (Unit {0}) OpenFault) (More : Type 0) → OpenedReturned r More → (HasCleanDisk (state g new) → IsTrue (state g reported).is_open → More → AreOpened known (state g old) (state g new)) → OnOk r (WereKnown g old new)
  preserved_known (Ok u) More opened are = λ clean. let it = opened clean in (known, were_of clean it.0 it.1, are clean it.0 it.2)
  preserved_known (Err e) More opened are = tt

  pub preserved_cause : (r : Result (Unit {0}) OpenFault)
      → (HasCleanDisk (state g new) → r ≡ Err NotADesk → IsTrue (state g reported).is_open × (IsVersionOf (edition_of known) (state g reported) → IsNoDeskOf known (state g reported)))
      → r ≢ Err NewerVersion → IfErr r (λ fault. IsWhyUnopened g old fault (back.Connection new))
  preserved_cause (Ok u) none other = tt
  preserved_cause (Err fault) none other = record { cause = cause; newer = λ clean why. absurd (not_newer why); whole = λ clean office whole. no_fault_of_whole fault (state g old) office whole live (opened clean) (cause clean) }
    where
      as_one : (f : OpenFault) → fault ≡ f → ◌≡◌ {A = Result (Unit {0}) OpenFault} (Err fault) (Err f)
      as_one f e = ap (λ (x : OpenFault). Err x) e

      not_newer : fault ≢ NewerVersion
      not_newer e = other (as_one NewerVersion e)

      opened : HasCleanDisk (state g new) → (fault ≡ NotADesk) ⊎ (fault ≡ NewerVersion) → IsTrue (state g old).is_open
      opened clean (inl e) = (same (early clean) (none clean (as_one NotADesk e)).0).0
      opened clean (inr e) = absurd (not_newer e)

      cause : HasCleanDisk (state g new) → NotesVersion (state g old).now.schema → IsOpenCause fault (state g old)
      cause clean notes = by_known fault known (state g old) (noted (early clean) notes) not_newer λ e.
          let it = none clean (as_one NotADesk e) in
          let there_is = as_reported clean it.0 in
          none_same known (state g reported) (state g old) there_is (it.1 (version_same known (state g old) (state g reported) (sym there_is) (noted (early clean) notes)))

  pub preserved_rows : (r : Result (Unit {0}) OpenFault) → (HasCleanDisk (state g new) → IsTrue (state g new).is_open → OnErr r (IsTrue (state g reported).is_open × ((state g new).now.trees ≡ (state g reported).now.trees)))
      → OnErr r (KeepsOpenRows g old new)
  preserved_rows (Ok u) preserved = tt
  preserved_rows (Err e) preserved = λ clean is_open. let it = preserved clean is_open in it.1 ∙ ap (λ (d : Database). d.trees) (as_reported clean it.0)

module _ {S : Type 0} (g : store.Ghosts S) (old reported new : Held S) (judged : Survives (state g old) (state g reported) (λ _. ⊥)) where
  -- of version 2 a crash leaves what it left before
  pub survives_as_is : Survives (state g reported) (state g new) (λ _. ⊥) → Survives (state g old) (state g new) (AreMoved g (state g old))
  survives_as_is later = survives_then (state g old) (state g reported) (state g new) (λ _. ⊥) (λ _. ⊥) (AreMoved g (state g old)) (λ _ _ none. absurd none) (λ _ _ none. absurd none) judged later

  -- and of version 1 also the tables, moved
  pub survives_moved : (same : HasCleanDisk (state g reported) → IsTrue (state g reported).is_open → IsTrue (state g old).is_open × ((state g reported).now ≡ (state g old).now))
      → (HasCleanDisk (state g reported) → NotesVersion (state g old).now.schema → IsVersionOf one (state g old)) → (HasCleanDisk (state g reported) → ShowsKnown g (state g old).now One)
      → Survives (state g reported) (state g new) (MayMove (state g reported)) → Survives (state g old) (state g new) (AreMoved g (state g old))
  survives_moved same noted shown later =
      survives_then (state g old) (state g reported) (state g new) (λ _. ⊥) (MayMove (state g reported)) (AreMoved g (state g old)) (λ _ _ none. absurd none)
      (λ clean db may.
      let early : HasCleanDisk (state g reported) = omega (arith, later.clean, clean) in
      let there_is = (same early may.was_open).1 in
      let made = made_same One (state g reported) (state g old) there_is may.made in
      let it = may.whole (version_same One (state g old) (state g reported) (sym there_is) (noted early (notes_so One (state g old).now.schema made))) in
      record {
        were = record { shown = shown early; noted = noted early; columns = columns_same One (state g reported) (state g old) there_is may.columns };
        made = made;
        office = it.0;
        was = subst (λ (d : Database). office_one d.trees ≡ Some it.0) there_is it.1;
        whole = it.2;
      })
      judged later

-- why their version was not read
pub version_cause : {S : Type 0} (g : store.Ghosts S) (old new : Held S) (fault : OpenFault) → IsLive (state g old) → (HasCleanDisk (state g new) → RowsRise (state g old)) → (HasCleanDisk (state g new) → AreNoted (state g old) → IsFaultOf HasNoVersion fault (state g old))
    → (HasCleanDisk (state g new) → fault ≡ NewerVersion → ShowsLater g (state g old).now) → (HasCleanDisk (state g new) → (fault ≡ NotADesk) ⊎ (fault ≡ NewerVersion) → IsTrue (state g old).is_open) → IsWhyUnopened g old fault (back.Connection new)
version_cause g old new fault live rise cause newer was_open = record { cause = why; newer = newer; whole = λ clean office whole. no_fault_of_whole fault (state g old) office whole live (was_open clean) (why clean) }
  where
    why : HasCleanDisk (state g new) → NotesVersion (state g old).now.schema → IsOpenCause fault (state g old)
    why clean notes = by_version fault (state g old) (cause clean (are_noted (state g old) notes (rise clean)))

-- ---- tables that were opened once more

module _ {S : Type 0} (g : store.Ghosts S) (conn opened : Held S) (same : (state g opened).now ≡ (state g conn).now) where
  pub were_same : (known : KnownVersion) → WereOf g known (state g opened) → WereOf g known (state g conn)
  were_same known were = record {
    shown = subst (λ (d : Database). ShowsKnown g d known) same were.shown;
    noted = λ notes. version_same known (state g opened) (state g conn) same (were.noted (subst (λ (d : Database). NotesVersion d.schema) (sym same) notes));
    columns = columns_same known (state g opened) (state g conn) same were.columns;
  }

  pub are_moved_same : (db : Trees) → AreMoved g (state g opened) db → AreMoved g (state g conn) db
  are_moved_same db moved = record {
    were = were_same One moved.were;
    made = made_same One (state g opened) (state g conn) same moved.made;
    office = moved.office;
    was = subst (λ (d : Database). office_one d.trees ≡ Some moved.office) same moved.was;
    whole = moved.whole;
  }

  pub stands_as_opened : (new : State) (known : KnownVersion) → StandsFor (state g opened) new known → StandsFor (state g conn) new known
  stands_as_opened new known = subst (λ (d : Database). StandsFor (record (state g opened) { now = d }) new known) same
