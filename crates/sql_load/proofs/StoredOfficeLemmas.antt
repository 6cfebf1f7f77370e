-- One reading of the stored office after another.
use Rattle.std.proofs.Common.{◌≡◌, Some, Ok, Err, Result, OnOk, IsTrue, sym, subst}
use Rattle.std.specs.Prelude.{MatchResult}
use Rattle.std.proofs.lemmas.Result.{on_ok_weaker}
use Rattle.sqlite.specs.Effect.{Database}
use Rattle.sqlite.specs.Held.{Held, state}
use Rattle.sqlite_trees.specs.declared.store.Store as store
use Rattle.desk_words.specs.Office.{is_office}
use Rattle.desk_words.specs.declared.office.OfficeLists.{OfficeLists}
use Rattle.sql_model.specs.OfficeRecords.{office_in}
use Rattle.sql_load.proofs.ReadingLemmas.{changes_then, read_first, read_second, unchanged_then}
use Rattle.sql_load.specs.declared.fault.LoadError.{LoadError}
use Rattle.sql_load.specs.declared.fault.LoadError.TheVariants.{NoOffice, Store, Memory}
use Rattle.sql_load.specs.TableLookUps.{HoldsOfStoredOffice, HoldsOrFails}

-- what is returned holds in another form too
pub returns_weaker : {X : Type 0} (P Q : X → Type 0) (r : Result X LoadError) → ((x : X) → P x → Q x) → HoldsOrFails P r → HoldsOrFails Q r
returns_weaker P Q (Ok x) next h = next x h
returns_weaker P Q (Err NoOffice) next h = h
returns_weaker P Q (Err Store) next h = h
returns_weaker P Q (Err Memory) next h = h

-- a fault says the same, whatever was to be returned
pub returns_fault : {X Y : Type 0} (P : X → Type 0) (Q : Y → Type 0) (e : LoadError) → HoldsOrFails {X = X} P (Err e) → HoldsOrFails {X = Y} Q (Err e)
returns_fault P Q NoOffice h = h
returns_fault P Q Store h = h
returns_fault P Q Memory h = h

-- what is made tells what it is, where nothing but memory can fail
pub made_returns : {X : Type 0} (P : X → Type 0) (r : Result X LoadError) → MatchResult r P (λ e. e ≡ Memory) → HoldsOrFails P r
made_returns P (Ok x) h = h
made_returns P (Err e) h = subst (λ f. HoldsOrFails P (Err f)) (sym h) tt

always : {X W : Type 0} (r : Result X LoadError) → W → OnOk r W
always (Ok x) w = w
always (Err e) w = tt

module _ {S : Type 0} (g : store.Ghosts S) where
  -- what was returned first is known of what is returned then
  pub returned_then : {X Y : Type 0} (a b c : Held S) (x : X) (r : Result Y LoadError) (P : OfficeLists → X → Type 0) (R : OfficeLists → Y → Type 0)
      → HoldsOfStoredOffice g a b (Ok x) P → HoldsOfStoredOffice g b c r (λ office y. P office x → R office y) → HoldsOfStoredOffice g a c r R
  returned_then a b c x r P R one two = record {
    holds = λ read office holds preserved.
        let first = read_first g a b c two.changes.crash read in
        let same = one.same first in
        let there : office_in (state g b).now.trees ≡ Some office = subst (λ (d : Database). office_in d.trees ≡ Some office) (sym same.0.now_is) holds in
        returns_weaker (λ y. P office x → R office y) (R office) r (λ y next. next (one.holds first office holds preserved)) (two.holds (read_second g a b c same read) office there preserved);
    same = λ read.
        let first = read_first g a b c two.changes.crash read in
        let same = one.same first in
        on_ok_weaker r (unchanged_then (state g a) (state g b) (state g c) same) (two.same (read_second g a b c same read));
    changes = changes_then g a b c one.same one.changes two.changes;
  }

  -- what was returned first stays known
  pub holds_both : {X Y : Type 0} (a b c : Held S) (x : X) (y : Y) (P : OfficeLists → X → Type 0) (Q : OfficeLists → Y → Type 0)
      → HoldsOfStoredOffice g a b (Ok x) P → HoldsOfStoredOffice g b c (Ok y) Q → HoldsOfStoredOffice g a c (Ok y) (λ office z. P office x × Q office z)
  holds_both a b c x y P Q one two = returned_then a b c x (Ok y) P (λ office z. P office x × Q office z) one (record {
    holds = λ read office holds preserved first. (first, two.holds read office holds preserved);
    same = two.same;
    changes = two.changes;
  })

  -- and a reading after it may fail
  pub holds_after : {X Y : Type 0} (a b c : Held S) (x : X) (r : Result Y LoadError) (P : OfficeLists → X → Type 0) (Q : OfficeLists → Y → Type 0)
      → HoldsOfStoredOffice g a b (Ok x) P → HoldsOfStoredOffice g b c r Q → HoldsOfStoredOffice g a c r Q
  holds_after a b c x r P Q one two = returned_then a b c x r P Q one (record {
    holds = λ read office holds preserved. returns_weaker (Q office) (λ y. P office x → Q office y) r (λ y is _. is) (two.holds read office holds preserved);
    same = two.same;
    changes = two.changes;
  })

  -- what is returned holds in another form too, of an office
  pub returned_so : {X : Type 0} (a b : Held S) (r : Result X LoadError) (P R : OfficeLists → X → Type 0) → ((office : OfficeLists) → IsTrue (is_office office) → (x : X) → P office x → R office x)
      → HoldsOfStoredOffice g a b r P → HoldsOfStoredOffice g a b r R
  returned_so a b r P R next one = record {
    holds = λ read office holds preserved. returns_weaker (P office) (R office) r (next office preserved) (one.holds read office holds preserved);
    same = one.same;
    changes = one.changes;
  }

  module _ {X Y : Type 0} (a b : Held S) (P : OfficeLists → X → Type 0) (R : OfficeLists → Y → Type 0) where
    -- where a reading fails, the whole does
    pub holds_stop : (e : LoadError) (r : Result Y LoadError) → r ≡ Err e → HoldsOfStoredOffice g a b (Err e) P → HoldsOfStoredOffice g a b r R
    holds_stop e r is one = subst (λ (q : Result Y LoadError). HoldsOfStoredOffice g a b q R) (sym is) (record {
      holds = λ read office holds preserved. returns_fault (P office) (R office) e (one.holds read office holds preserved);
      same = λ _. tt;
      changes = one.changes;
    })

    -- what is made of what was returned last
    pub holds_so : (x : X) (r : Result Y LoadError) → HoldsOfStoredOffice g a b (Ok x) P → ((office : OfficeLists) → IsTrue (is_office office) → P office x → HoldsOrFails (R office) r) → HoldsOfStoredOffice g a b r R
    holds_so x r one next = record {
      holds = λ read office holds preserved. next office preserved (one.holds read office holds preserved);
      same = λ read. always r (one.same read);
      changes = one.changes;
    }

    -- and why nothing is made of it
    pub holds_refused : (x : X) (e : LoadError) (r : Result Y LoadError) → r ≡ Err e → HoldsOfStoredOffice g a b (Ok x) P → ((office : OfficeLists) → IsTrue (is_office office) → P office x → HoldsOrFails {X = Y} (R office) (Err e)) → HoldsOfStoredOffice g a b r R
    holds_refused x e r is one next = holds_so x r one (λ office preserved p. subst (HoldsOrFails (R office)) (sym is) (next office preserved p))
