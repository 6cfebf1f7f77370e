-- What the file of a desk stores before and after it is made, opened, refused or closed.
use Rattle.std.proofs.Common.{◌≡◌, inl, inr, ℕ, List, Option, Some, Ok, Err, OnOk, sym, subst, ◌∙◌, arith}
use Rattle.sqlite.specs.Held.{Held, state}
use Rattle.sqlite.specs.State.{State, HasCleanDisk}
use Rattle.sqlite.specs.Tree.{Trees}
use Rattle.sqlite_trees.specs.declared.store.Store as store
use Rattle.desk_words.specs.Changes.{empty_office}
use Rattle.desk_words.specs.declared.office.OfficeLists.{OfficeLists}
use Rattle.file_probe.specs.declared.fault.DeskFileError.{DeskFileError}
use Rattle.sql_model.specs.Standing.{Stands}
use Rattle.sql_open.specs.Crashes.{AreMoved}
use Rattle.sql_open.specs.WholeDesk.{IsWhole, IsWholeDesk, LeavesWhole}
use Rattle.sql_open.specs.declared.version.KnownVersion.TheVariants.{One, Two}
use Rattle.sql_open.proofs.WholeLemmas.{notes_so, same_version}
use Rattle.sql_file.specs.ClosedFiles.{HoldsWhatIsLeft, LetsGo}
use Rattle.sql_file.specs.MadeFiles.{CreatesFile, Making}
use Rattle.sql_file.specs.OpenedFiles.{OpensFile, RefusesFile}

-- an error is no desk that was made
no_desk : (result : Making) (why : DeskFileError) → result ≡ Err why → result ≡ Ok tt → ⊥
no_desk result why failed made = let both : ◌≡◌ {A = Making} (Err why) (Ok tt) = sym failed ∙ made in absurd (cc)

-- tables of version 1 that were moved are whole of the office that they held
moved_whole : {S : Type 0} (g : store.Ghosts S) (first : State) (db : Trees) (office : OfficeLists) → AreMoved g first db → IsWholeDesk first.now.trees office → IsWholeDesk db office
moved_whole g first db office moved (One, whole) =
    let both : ◌≡◌ {A = Option OfficeLists} (Some moved.office) (Some office) = sym moved.was ∙ whole.holds in
    let same : moved.office ≡ office = cc in
    (Two, subst (IsWhole db) same moved.whole)
moved_whole g first db office moved (Two, whole) =
    let not : ◌≡◌ One Two = same_version One Two first (moved.were.noted (notes_so One first.now.schema moved.made)) whole.version in
    absurd (cc)

-- what is known of the store that is closed is known of its connection
pub let_go_held : {F S : Type 0} (g : store.Ghosts S) (MayHold : F → List ℕ → Trees → Type 0) (IsReliable : F → Type 0) (Does : F → List ℕ → S → F → Type 0)
    → ((old new : F) (name : List ℕ) (store : S) → Does old name store new → IsReliable new → HoldsWhatIsLeft g store (MayHold new name))
    → (old new : F) (name : List ℕ) (conn : Held S) → LetsGo Does g old name conn new → IsReliable new → HasCleanDisk (state g conn) × ((db : Trees) → MayHold new name db → (state g conn).may_leave db)
let_go_held g MayHold IsReliable Does law old new name conn (store, quiet, does) reliable =
    let it = law old new name store does reliable in
    (omega (arith, quiet.clean, it.clean), λ db may. quiet.outcomes db (it.left db may))

module _ {F S : Type 0} (MayHold : F → List ℕ → Trees → Type 0) (IsReliable : F → Type 0) (g : store.Ghosts S) where
  module _ (Finds : F → List ℕ → Held S → F → Type 0) (finds_held : (old new : F) (name : List ℕ) (conn : Held S) → Finds old name conn new → HasCleanDisk (state g conn) → MayHold old name (state g conn).now.trees) where
    -- the office that is opened is the one as which all is opened that the file may hold
    pub opens_stored : (old new : F) (name : List ℕ) (desk : Held S) (office : OfficeLists) → OpensFile Finds g old name desk new → HasCleanDisk (state g desk) → ((db : Trees) → MayHold old name db → IsWholeDesk db office)
        → Stands (state g desk) office × ((db : Trees) → (state g desk).may_leave db → IsWholeDesk db office)
    opens_stored old new name desk office (first, finds, tables) clean stores =
        let early : HasCleanDisk (state g first) = omega (arith, tables.survives.clean, clean) in
        let it = tables.whole clean office (stores (state g first).now.trees (finds_held old new name first finds early)) in
        (it.0, λ db may. (Two, it.1 db may))

    -- what a file that is refused may hold it could hold before, or it is opened as what it could hold
    pub refuses_held : (Refuses : F → List ℕ → F → Type 0) → ((old new : F) (name : List ℕ) (db : Trees) → Refuses old name new → IsReliable new → MayHold new name db → MayHold old name db)
        → (GivesUp : F → List ℕ → S → F → Type 0) → ((old between new : F) (name : List ℕ) (conn : Held S) (store : S) → Finds old name conn between → GivesUp between name store new → IsReliable new
        → HoldsWhatIsLeft g store (MayHold new name) × ((db : Trees) → (state g conn).may_leave db → MayHold old name db))
        → (old new : F) (name : List ℕ) (why : DeskFileError) (db : Trees) → RefusesFile Finds Refuses (LetsGo GivesUp g) g old name why new → IsReliable new → MayHold new name db
        → (was : Trees) × MayHold old name was × ((office : OfficeLists) → IsWholeDesk was office → IsWholeDesk db office)
    refuses_held Refuses refused GivesUp given_up old new name why db (inl same) reliable may = (db, subst (λ (f : F). MayHold f name db) same may, λ office whole. whole)
    refuses_held Refuses refused GivesUp given_up old new name why db (inr (inl refuses)) reliable may = (db, refused old new name db refuses reliable may, λ office whole. whole)
    refuses_held Refuses refused GivesUp given_up old new name why db (inr (inr (between, first, finds, tables))) reliable may =
        let gone = tables.given_up in
        let it = given_up old between new name first gone.0 finds gone.2 reliable in
        let clean : HasCleanDisk (state g tables.back) = omega (arith, gone.1.clean, it.0.clean) in
        let early : HasCleanDisk (state g first) = omega (arith, tables.survives.clean, clean) in
        elim (tables.survives.crash clean db (gone.1.outcomes db (it.0.left db may))) [
          | inl was ↦ (db, it.1 db was, λ office whole. whole)
          | inr moved ↦ ((state g first).now.trees, finds_held old between name first finds early, λ office whole. moved_whole g (state g first) db office moved whole)
        ]

  module _ (Closes : F → List ℕ → S → F → Type 0) (closes_held : (old new : F) (name : List ℕ) (store : S) → Closes old name store new → IsReliable new → HoldsWhatIsLeft g store (MayHold new name)) where
    -- a file in which a desk was made is opened as the office that holds nothing
    pub creates_held : (Finds : F → List ℕ → Held S → F → Type 0) (Refuses Removes Makes : F → List ℕ → F → Type 0) (old new : F) (name : List ℕ) (result : Making) (db : Trees)
        → CreatesFile Finds Refuses Removes (LetsGo Closes g) Makes g old name result new → IsReliable new → result ≡ Ok tt → MayHold new name db → IsWholeDesk db empty_office
    creates_held Finds Refuses Removes Makes old new name result db (inl refused) reliable made may = absurd (no_desk result refused.why refused.is made)
    creates_held Finds Refuses Removes Makes old new name result db (inr (between, makes, inl (till, first, finds, tables))) reliable made may =
        let it = let_go_held g MayHold IsReliable Closes closes_held till new name tables.made tables.closed reliable in
        let leaves : HasCleanDisk (state g tables.made) → LeavesWhole (state g tables.made) empty_office = subst (λ (r : Making). OnOk r (HasCleanDisk (state g tables.made) → LeavesWhole (state g tables.made) empty_office)) made tables.leaves in
        (Two, leaves it.0 db (it.1 db may))
    creates_held Finds Refuses Removes Makes old new name result db (inr (between, makes, inr none)) reliable made may = absurd (no_desk result none.why none.is made)
