-- What a query found, as what is returned of the office.
use Rattle.std.proofs.Common.{◌≡◌, ℕ, pos, length, Bool, true, false, ◌&&◌, cond, List, [], ◌∷◌, map, filter, find, slice_get, Option, Some, Ok, Err, Result, OnOk, IfOk, IsTrue, refl, sym, ap, subst, ◌∙◌, true≢false}
use Rattle.std.specs.Prelude.{MatchResult}
use Rattle.std.specs.Option.{option_map_or}
use Rattle.sqlite.specs.declared.error.Error.{Error}
use Rattle.sqlite.specs.declared.error.Error.TheVariants.{SqliteFailure}
use Rattle.sqlite.specs.declared.error.ErrorCode.TheVariants.{OutOfMemory}
use Rattle.sqlite.specs.declared.types.Value.TheVariants.{Int}
use Rattle.sqlite.specs.Held.{Held, state}
use Rattle.sqlite.specs.Order.{Row}
use Rattle.sqlite.specs.State.{IsUnchanged}
use Rattle.sqlite.specs.Tree.{Trees}
use Rattle.sqlite_trees.specs.declared.store.Store as store
use Rattle.desk_words.specs.Finding.{meeting_named}
use Rattle.desk_words.specs.Office.{is_office}
use Rattle.desk_words.specs.declared.office.OfficeLists.{OfficeLists}
use Rattle.sql_rows.specs.Meanings.{all_meanings}
use Rattle.sql_rows.specs.declared.stored_records.InMeeting.{InMeeting}
use Rattle.sql_rows.proofs.RowMeaningLemmas.{bound}
use Rattle.vocabulary.specs.Names.{same_name}
use Rattle.sql_schema.specs.Statements.{ChangesNothing, FindsRecords, IsRead, TableOf, records_in}
use Rattle.sql_lemmas.specs.CountedRows.{most}
use Rattle.sql_queries.specs.CountedRecords.{CountsRecords}
use Rattle.sql_model.specs.OfficeRecords.{FlatLists, flat_in, of_meeting, office_of_records}
use Rattle.sql_model.proofs.ListChanges.{ListOf}
use Rattle.sql_model.proofs.ModelOfficeLemmas.{AreOf, are_of}
use Rattle.sql_load.specs.declared.fault.LoadError.{LoadError}
use Rattle.sql_load.specs.declared.fault.LoadError.TheVariants as fault
use Rattle.sql_load.specs.LoadResults.{ReadErrAgrees, ReadAgrees, any_at_all, fault_of_error}
use Rattle.sql_load.specs.MeetingRecords.{without_meeting}
use Rattle.sql_load.specs.TableLookUps.{HoldsOfStoredOffice, HoldsOrFails}
use Rattle.sql_load.proofs.NamedMeetingLemmas.{HoldAll, all_held, list_is, passing, the_same}
use Rattle.sql_load.proofs.StoredOfficeLemmas.{returns_fault, returns_weaker}

-- what a statement is refused for is no want of an office
pub error_returns : {X : Type 0} (P : X → Type 0) (e : Error) → HoldsOrFails P (Err (fault_of_error e))
error_returns P (SqliteFailure OutOfMemory) = tt
error_returns P other = tt

-- where something is said, the fault is never that there is no office
pub cause_returns : {X Y : Type 0} (P : Y → Type 0) (right : X → Bool) (e : LoadError) (said : X) (read : Option X) → read ≡ Some said → right said ≡ true → ReadErrAgrees right e read → HoldsOrFails {X = Y} P (Err e)
cause_returns P right fault.NoOffice said read is good none = absurd (true≢false (sym good ∙ none said is))
cause_returns P right fault.Store said read is good none = tt
cause_returns P right fault.Memory said read is good none = tt

-- what is said is returned, or why it is not
pub yields_return : {X : Type 0} (right : X → Bool) (r : Result X LoadError) (said : X) (read : Option X) → ReadAgrees right r read → read ≡ Some said → right said ≡ true → HoldsOrFails (λ x. x ≡ said) r
yields_return right (Ok x) said read h is good = the_same (sym h ∙ is)
yields_return right (Err e) said read h is good = cause_returns (λ x. x ≡ said) right e said read is good h

module _ {V A : Type 0} (rows_in : V → List Row) (means : Row → Option A) (rows : Result V Error) (r : Result (List A) LoadError)
    (found : MatchResult rows (λ v. ReadAgrees any_at_all r (all_meanings means (rows_in v))) (λ e. r ≡ Err (fault_of_error e))) where
  rows_return : (said : List A) → IfOk rows (λ v. all_meanings means (rows_in v) ≡ Some said) → HoldsOrFails (λ l. l ≡ said) r
  rows_return said = go rows found
    where
      go : (q : Result V Error) → MatchResult q (λ v. ReadAgrees any_at_all r (all_meanings means (rows_in v))) (λ e. r ≡ Err (fault_of_error e)) → IfOk q (λ v. all_meanings means (rows_in v) ≡ Some said) → HoldsOrFails (λ l. l ≡ said) r
      go (Ok v) h is = yields_return any_at_all r said (all_meanings means (rows_in v)) h is refl
      go (Err e) h is = subst (HoldsOrFails (λ l. l ≡ said)) (sym h) (error_returns (λ l. l ≡ said) e)

  -- what holds where there are rows holds where there are records
  rows_on : (W : Type 0) → OnOk rows W → OnOk r W
  rows_on W = go rows found
    where
      returned : (q : Result (List A) LoadError) → W → OnOk q W
      returned (Ok x) w = w
      returned (Err e) w = tt

      go : (q : Result V Error) → MatchResult q (λ v. ReadAgrees any_at_all r (all_meanings means (rows_in v))) (λ e. r ≡ Err (fault_of_error e)) → OnOk q W → OnOk r W
      go (Ok v) h w = returned r w
      go (Err e) h w = subst (λ (q : Result (List A) LoadError). OnOk q W) (sym h) tt

-- the records without their meetings
module _ {A : Type 0} (found : Result (List (InMeeting A)) LoadError) (r : Result (List A) LoadError)
    (made : MatchResult found (λ all. MatchResult r (λ items. items ≡ map without_meeting all) (λ e. e ≡ fault.Memory)) (λ e. r ≡ Err e)) where
  items_return : (said : List (InMeeting A)) → HoldsOrFails (λ l. l ≡ said) found → HoldsOrFails (λ l. l ≡ map without_meeting said) r
  items_return said = go found r made
    where
      go : (f : Result (List (InMeeting A)) LoadError) (q : Result (List A) LoadError) → MatchResult f (λ all. MatchResult q (λ items. items ≡ map without_meeting all) (λ e. e ≡ fault.Memory)) (λ e. q ≡ Err e)
          → HoldsOrFails (λ l. l ≡ said) f → HoldsOrFails (λ l. l ≡ map without_meeting said) q
      go (Ok all) (Ok items) h is = h ∙ ap (map without_meeting) is
      go (Ok all) (Err e) h is = subst (λ e. HoldsOrFails (λ l. l ≡ map without_meeting said) (Err e)) (sym h) tt
      go (Err e) q h is = subst (HoldsOrFails (λ l. l ≡ map without_meeting said)) (sym h) (returns_fault (λ l. l ≡ said) (λ l. l ≡ map without_meeting said) e is)

  items_on : (W : Type 0) → OnOk found W → OnOk r W
  items_on W = go found r made
    where
      go : (f : Result (List (InMeeting A)) LoadError) (q : Result (List A) LoadError) → MatchResult f (λ all. MatchResult q (λ items. items ≡ map without_meeting all) (λ e. e ≡ fault.Memory)) (λ e. q ≡ Err e) → OnOk f W → OnOk q W
      go (Ok all) (Ok items) h w = w
      go (Ok all) (Err e) h w = tt
      go (Err e) q h w = subst (λ (p : Result (List A) LoadError). OnOk p W) (sym h) tt

found_changes : {V A : Type 0} {S : Type 0} (g : store.Ghosts S) (a b : Held S) (rows_in : V → List Row) (table : TableOf A) (test : A → Bool) (rows : Result V Error) → IfOk rows (λ v. FindsRecords g a b table test (rows_in v))
    → OnOk rows (IsUnchanged (state g a) (state g b))
found_changes g a b rows_in table test (Ok v) h = h.1
found_changes g a b rows_in table test (Err e) h = tt

found_said : {V A : Type 0} {S : Type 0} (g : store.Ghosts S) (a b : Held S) (rows_in : V → List Row) (table : TableOf A) (test : A → Bool) (rows : Result V Error) (was : List A) → records_in table (state g a).now.trees ≡ Some was
    → IfOk rows (λ v. FindsRecords g a b table test (rows_in v)) → IfOk rows (λ v. all_meanings table.means (rows_in v) ≡ Some (filter test was))
found_said g a b rows_in table test (Ok v) was held h = h.0 was held
found_said g a b rows_in table test (Err e) was held h = tt

-- what is returned follows from what the records of the tables are
pub says : {X : Type 0} (R : X → Type 0) (said : X) (r : Result X LoadError) → R said → HoldsOrFails (λ x. x ≡ said) r → HoldsOrFails R r
says R said r holds = returns_weaker (λ x. x ≡ said) R r (λ x is. subst R (sym is) holds)

module _ {V A S : Type 0} (g : store.Ghosts S) (a b : Held S) (rows_in : V → List Row) (table : TableOf A) (all : FlatLists → List A) (held : (trees : Trees) (flat : FlatLists) → HoldAll trees flat → records_in table trees ≡ Some (all flat))
    (test : A → Bool) (rows : Result V Error) (finds : IsRead g a b → IfOk rows (λ v. FindsRecords g a b table test (rows_in v))) (changes : ChangesNothing g a b) where
  module _ (r : Result (List A) LoadError) (found : MatchResult rows (λ v. ReadAgrees any_at_all r (all_meanings table.means (rows_in v))) (λ e. r ≡ Err (fault_of_error e))) where
    found_flat : (flat : FlatLists) → IsRead g a b → flat_in (state g a).now.trees ≡ Some flat → HoldsOrFails (λ l. l ≡ filter test (all flat)) r
    found_flat flat read is =
        rows_return rows_in table.means rows r found (filter test (all flat))
        (found_said g a b rows_in table test rows (all flat) (held (state g a).now.trees flat (all_held (state g a).now.trees flat is)) (finds read))

    -- the records that were found, where what is to be returned follows from the records of the tables
    pub found_returned : (R : OfficeLists → List A → Type 0) → ((flat : FlatLists) (office : OfficeLists) → AreOf flat office → IsTrue (is_office office) → R office (filter test (all flat))) → HoldsOfStoredOffice g a b r R
    found_returned R so = record {
      holds = λ read office holds preserved.
          let flat = bound (flat_in (state g a).now.trees) office_of_records office holds in
          says (R office) (filter test (all flat.0)) r (so flat.0 office (are_of flat.0 office flat.2) preserved) (found_flat flat.0 read flat.1);
      same = λ read. rows_on rows_in table.means rows r found _ (found_changes g a b rows_in table test rows (finds read));
      changes = changes;
    }

-- and without their meetings
module _ {V A S : Type 0} (g : store.Ghosts S) (a b : Held S) (rows_in : V → List Row) (table : TableOf (InMeeting A)) (all : FlatLists → List (InMeeting A))
    (held : (trees : Trees) (flat : FlatLists) → HoldAll trees flat → records_in table trees ≡ Some (all flat)) (test : InMeeting A → Bool) (rows : Result V Error) (finds : IsRead g a b → IfOk rows (λ v. FindsRecords g a b table test (rows_in v))) (changes : ChangesNothing g a b)
    (found : Result (List (InMeeting A)) LoadError) (read_as : MatchResult rows (λ v. ReadAgrees any_at_all found (all_meanings table.means (rows_in v))) (λ e. found ≡ Err (fault_of_error e))) (r : Result (List A) LoadError)
    (made : MatchResult found (λ them. MatchResult r (λ items. items ≡ map without_meeting them) (λ e. e ≡ fault.Memory)) (λ e. r ≡ Err e)) where
  pub items_returned : (R : OfficeLists → List A → Type 0) → ((flat : FlatLists) (office : OfficeLists) → AreOf flat office → IsTrue (is_office office) → R office (map without_meeting (filter test (all flat)))) → HoldsOfStoredOffice g a b r R
  items_returned R so = record {
    holds = λ read office holds preserved.
        let flat = bound (flat_in (state g a).now.trees) office_of_records office holds in
        says (R office) (map without_meeting (filter test (all flat.0))) r (so flat.0 office (are_of flat.0 office flat.2) preserved)
        (items_return found r made (filter test (all flat.0)) (found_flat g a b rows_in table all held test rows finds changes found read_as flat.0 read flat.1));
    same = λ read. items_on found r made _ (rows_on rows_in table.means rows found read_as _ (found_changes g a b rows_in table test rows (finds read)));
    changes = changes;
  }

-- of a list that is kept as it was received, those of a meeting's records that pass a test
pub received_so : {A : Type 0} (k : ListOf A) → ((l : List A) → k.arrange l ≡ l) → (id : List ℕ) (test : A → Bool) (flat : FlatLists) (office : OfficeLists) → AreOf flat office
    → map without_meeting (filter (λ (r : InMeeting A). same_name r.meeting id && test r.item) (k.all flat)) ≡ filter test (option_map_or k.own (meeting_named office.meetings id) [])
received_so k as_it_came id test flat office of =
    passing id test (k.all flat) ∙ ap (filter test) (sym (as_it_came (of_meeting id (k.all flat))) ∙ list_is k (as_it_came []) flat office id of)

-- the first of those that pass is the first that passes
pub first_passing : {X : Type 0} (test : X → Bool) (xs : List X) → slice_get (filter test xs) 0 ≡ find test xs
first_passing test [] = refl
first_passing test (x ∷ xs) =
    elim (test x) as (λ b. slice_get (cond b (x ∷ filter test xs) (filter test xs)) 0 ≡ cond b (Some x) (find test xs)) [ true ↦ refl | false ↦ first_passing test xs ]

-- how many records were counted, where what is to be returned follows from the records of the tables
module _ {V A S : Type 0} (g : store.Ghosts S) (a b : Held S) (rows_in : V → List Row) (table : TableOf A) (all : FlatLists → List A) (held : (trees : Trees) (flat : FlatLists) → HoldAll trees flat → records_in table trees ≡ Some (all flat))
    (test : A → Bool) (rows : Result V Error) (finds : IsRead g a b → IfOk rows (λ v. CountsRecords g a b table test (rows_in v))) (changes : ChangesNothing g a b)
    (r : Result ℕ LoadError) (found : MatchResult rows (λ v. (count : ℕ) → rows_in v ≡ (Int (pos count) ∷ []) ∷ [] → r ≡ Ok count) (λ e. r ≡ Err (fault_of_error e))) where
  count_said : (flat : FlatLists) → records_in table (state g a).now.trees ≡ Some (all flat) → (q : Result V Error) → IfOk q (λ v. CountsRecords g a b table test (rows_in v)) → MatchResult q (λ v. (count : ℕ) → rows_in v ≡ (Int (pos count) ∷ []) ∷ [] → r ≡ Ok count) (λ e. r ≡ Err (fault_of_error e))
      → HoldsOrFails (λ count. count ≡ most (length (filter test (all flat)))) r
  count_said flat holds (Ok v) counted h =
      subst (HoldsOrFails (λ count. count ≡ most (length (filter test (all flat))))) (sym (h (most (length (filter test (all flat)))) (counted.0 (all flat) holds))) refl
  count_said flat holds (Err e) counted h =
      subst (HoldsOrFails (λ count. count ≡ most (length (filter test (all flat))))) (sym h) (error_returns (λ count. count ≡ most (length (filter test (all flat)))) e)

  unchanged_by : (q : Result V Error) → IfOk q (λ v. CountsRecords g a b table test (rows_in v)) → MatchResult q (λ v. (count : ℕ) → rows_in v ≡ (Int (pos count) ∷ []) ∷ [] → r ≡ Ok count) (λ e. r ≡ Err (fault_of_error e))
      → OnOk r (IsUnchanged (state g a) (state g b))
  unchanged_by (Ok v) counted h = given r counted.1
    where
      given : (q : Result ℕ LoadError) → IsUnchanged (state g a) (state g b) → OnOk q (IsUnchanged (state g a) (state g b))
      given (Ok x) same = same
      given (Err e) same = tt
  unchanged_by (Err e) counted h = subst (λ (q : Result ℕ LoadError). OnOk q (IsUnchanged (state g a) (state g b))) (sym h) tt

  pub count_returned : (R : OfficeLists → ℕ → Type 0) → ((flat : FlatLists) (office : OfficeLists) → AreOf flat office → IsTrue (is_office office) → R office (most (length (filter test (all flat))))) → HoldsOfStoredOffice g a b r R
  count_returned R so = record {
    holds = λ read office holds preserved.
        let flat = bound (flat_in (state g a).now.trees) office_of_records office holds in
        says (R office) (most (length (filter test (all flat.0)))) r (so flat.0 office (are_of flat.0 office flat.2) preserved)
        (count_said flat.0 (held (state g a).now.trees flat.0 (all_held (state g a).now.trees flat.0 flat.1)) rows (finds read) found);
    same = λ read. unchanged_by rows (finds read) found;
    changes = changes;
  }
