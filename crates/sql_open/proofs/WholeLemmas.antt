-- Tables that are whole: how they are known, and as what they are opened.
use Rattle.std.proofs.Common.{◌≡◌, ◌≢◌, ◌⊎◌, ◌≤◌, ℕ, List, [], ◌∷◌, Option, Some, IsTrue, refl, sym, ap, subst, ◌∙◌, inl, inr, true≢false, arith}
use Rattle.sqlite.specs.Effect.{Database, IsDatabase}
use Rattle.sqlite.specs.Held.{state}
use Rattle.sqlite.specs.Schema.{Schema}
use Rattle.sqlite.specs.State.{State, IsLive}
use Rattle.sqlite.specs.Tree.{Trees}
use Rattle.sqlite_catalog.specs.Listing.{AreListed}
use Rattle.sqlite_trees.specs.Objects.{catalog_tree}
use Rattle.sqlite_trees.specs.declared.store.Store as store
use Rattle.desk_words.specs.Changes.{empty_office}
use Rattle.desk_words.specs.declared.office.OfficeLists.{OfficeLists}
use Rattle.sql_rows.specs.declared.stored_records.Version.{Version}
use Rattle.sql_schema.specs.Statements.{HasTables, layout_one}
use Rattle.sql_schema.specs.Tables.{desk_schema}
use Rattle.sql_lemmas.proofs.Frames.{as_one, ones_declared}
use Rattle.sql_model.specs.Standing.{IsVersionOf, Stands}
use Rattle.sql_desk_tables.proofs.TableColumnLemmas.{columns_one_stand, columns_stand}
use Rattle.sql_desk_tables.proofs.TableDeskLemmas.{desk_notes}
use Rattle.sql_desk_tables.specs.ColumnChecks.{HasColumnsOf}
use Rattle.sql_desk_tables.specs.Versions.{NotesVersion}
use Rattle.sql_open.specs.Crashes.{LeavesItself}
use Rattle.sql_open.specs.Known.{IsMadeAs, edition_of}
use Rattle.sql_open.specs.Opened.{OpensFirst, StandsFor}
use Rattle.sql_open.specs.Opening.{IsOpenCause}
use Rattle.sql_open.specs.WholeDesk.{IsNewDesk, IsWhole, IsWholeAs, IsWholeDesk, LeavesWhole}
use Rattle.sql_open.specs.declared.fault.OpenFault.{OpenFault}
use Rattle.sql_open.specs.declared.fault.OpenFault.TheVariants.{NotADesk, NewerVersion, Store, Memory}
use Rattle.sql_open.specs.declared.version.KnownVersion.{KnownVersion}
use Rattle.sql_open.specs.declared.version.KnownVersion.TheVariants.{One, Two}
use Rattle.sql_open.proofs.OneSchema.{one_schema}
use Rattle.sql_open.proofs.OpeningLemmas.{some_is}

-- ---- tables of a version

-- tables of version 1, as its program makes them, are declared as its are
pub ones_made : (s : Schema) → IsMadeAs One s → HasTables layout_one s
ones_made s made = subst (HasTables layout_one) (sym made) ones_declared

-- tables of a version note it
pub notes_so : (known : KnownVersion) (s : Schema) → IsMadeAs known s → NotesVersion s
notes_so One s made = desk_notes s (ones_made s made)
notes_so Two s made = desk_notes s (as_one s made)

-- and have each column that is read of it
pub columns_so : (known : KnownVersion) (s : Schema) → IsMadeAs known s → HasColumnsOf (edition_of known).asked s
columns_so One s made = columns_one_stand s (ones_made s made)
columns_so Two s made = columns_stand s made

-- the number of the version that is noted
abbrev number_of : Option (List Version) → ℕ
number_of (Some (version ∷ [])) = version.number
number_of other = 0

-- tables are of one version
pub same_version : (a b : KnownVersion) (s : State) → IsVersionOf (edition_of a) s → IsVersionOf (edition_of b) s → a ≡ b
same_version One One s p q = refl
same_version One Two s p q = absurd (let e : ◌≡◌ {A = ℕ} 1 2 = ap number_of (sym p ∙ q) in cc)
same_version Two One s p q = absurd (let e : ◌≡◌ {A = ℕ} 2 1 = ap number_of (sym p ∙ q) in cc)
same_version Two Two s p q = refl

above_none : (known : KnownVersion) → (edition_of known).version.number ≢ 0
above_none One h = cc
above_none Two h = cc

below_three : (known : KnownVersion) → ¬ (3 ≤ (edition_of known).version.number)
below_three One h = omega (arith, h)
below_three Two h = omega (arith, h)

-- ---- whole tables

-- a database whose tables are whole is made as the program of their version makes it
pub made_so : (known : KnownVersion) (d : Database) (office : OfficeLists) → IsWholeAs known d.trees office → IsDatabase d → IsMadeAs known d.schema
made_so known d office whole is = subst (IsMadeAs known) (sym (one_schema (d.trees catalog_tree) whole.schema d.schema whole.listed is.lists.listed)) whole.declared

-- the tables of a database that stand for an office are whole
pub whole_of : (s : State) (office : OfficeLists) → Stands s office → IsDatabase s.now → IsWhole s.now.trees office
whole_of s office stands is = record {
  schema = s.now.schema;
  listed = is.lists.listed;
  declared = stands.desk.schema;
  version = stands.version;
  holds = stands.holds;
  preserved = stands.preserved;
}

-- where a crash leaves the tables that are read, it leaves the office whole for which they stand
pub leaves_whole : (s : State) (office : OfficeLists) → Stands s office → IsDatabase s.now → LeavesItself s → LeavesWhole s office
leaves_whole s office stands is itself = λ db may. subst (λ (t : Trees). IsWhole t office) (sym ((itself db).0 may)) (whole_of s office stands is)

-- tables that are whole are refused by no fault but the store's and want of memory
pub no_other_fault : (fault : OpenFault) (known : KnownVersion) (s : State) (office : OfficeLists) → IsWholeAs known s.now.trees office → IsMadeAs known s.now.schema → IsOpenCause fault s → (fault ≡ Store) ⊎ (fault ≡ Memory)
no_other_fault NotADesk known s office whole made (inl none) = absurd (above_none known (none (edition_of known).version whole.version))
no_other_fault NotADesk known s office whole made (inr (reported, is, inl missing)) =
    let same : known ≡ reported = same_version known reported s whole.version is in
    absurd (missing (columns_so reported s.now.schema (subst (λ k. IsMadeAs k s.now.schema) same made)))
no_other_fault NotADesk known s office whole made (inr (reported, is, inr none)) =
    let same : known ≡ reported = same_version known reported s whole.version is in
    let there : IsWholeAs reported s.now.trees office = subst (λ k. IsWholeAs k s.now.trees office) same whole in
    absurd (true≢false (sym whole.preserved ∙ none (subst (λ k. IsMadeAs k s.now.schema) same made) office there.holds))
no_other_fault NewerVersion known s office whole made (version, noted, later) =
    let both : ◌≡◌ {A = Option _} (Some (version ∷ [])) (Some ((edition_of known).version ∷ [])) = sym noted ∙ whole.version in
    let same : version ≡ (edition_of known).version = cc in
    absurd (below_three known (subst (λ (v : Version). 3 ≤ v.number) same later))
no_other_fault Store known s office whole made h = inl refl
no_other_fault Memory known s office whole made h = inr refl

-- so are those that were found no desk's, or a later version's, while the store was open
pub no_fault_of_whole : (fault : OpenFault) (s : State) (office : OfficeLists) → IsWholeDesk s.now.trees office → IsLive s → ((fault ≡ NotADesk) ⊎ (fault ≡ NewerVersion) → IsTrue s.is_open) → (NotesVersion s.now.schema → IsOpenCause fault s)
    → (fault ≡ Store) ⊎ (fault ≡ Memory)
no_fault_of_whole fault s office (known, whole) live opened cause = go fault refl
  where
    of_desk : IsTrue s.is_open → (fault ≡ Store) ⊎ (fault ≡ Memory)
    of_desk is_open =
        let made = made_so known s.now office whole (live is_open).0 in
        no_other_fault fault known s office whole made (cause (notes_so known s.now.schema made))

    go : (f : OpenFault) → fault ≡ f → (fault ≡ Store) ⊎ (fault ≡ Memory)
    go NotADesk is = of_desk (opened (inl is))
    go NewerVersion is = of_desk (opened (inr is))
    go Store is = inl is
    go Memory is = inr is

-- tables that were whole stand for their office, where tables of its version stand for the office that they held
pub opens_whole : (old new : State) → IsLive old → IsTrue old.is_open
    → ((known : KnownVersion) → IsMadeAs known old.now.schema → IsVersionOf (edition_of known) old → StandsFor old new known) → (office : OfficeLists) → IsWholeDesk old.now.trees office → Stands new office × LeavesWhole new office
opens_whole old new live is_open stands office (known, whole) =
    let made = made_so known old.now office whole (live is_open).0 in
    let it = stands known made whole.version in
    let same : it.0 ≡ office = some_is (sym it.1 ∙ whole.holds) in
    (subst (Stands new) same it.2, subst (LeavesWhole new) same it.3)

-- tables of version 1 that were opened stand for the office that they held
pub first_stands : {S : Type 0} (g : store.Ghosts S) → OpensFirst g
first_stands g old new were opened stands clean = stands clean One opened.0 (were.noted (notes_so One (state g old).now.schema opened.0))

-- the tables of a database that is a new desk are those of one
pub new_desk : (s : State) (db : Trees) → Stands s empty_office → s.now.schema ≡ desk_schema → IsDatabase s.now → db ≡ s.now.trees → IsNewDesk db
new_desk s db stands made sound is =
    subst IsNewDesk (sym is) (record { listed = subst (AreListed (s.now.trees catalog_tree)) made sound.lists.listed; whole = whole_of s empty_office stands sound })
