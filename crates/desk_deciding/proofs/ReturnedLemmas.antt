-- What is returned where one result becomes another, and of the office for which the tables stand.
use Rattle.std.proofs.Common.{◌≡◌, Ok, Err, Result, IfOk, OnOk, IsErr, IsErrAnd, subst, sym}
use Rattle.std.specs.Prelude.{MatchResult}
use Rattle.sqlite.specs.Held.{Held}
use Rattle.sqlite_trees.specs.declared.store.Store as store
use Rattle.desk_words.specs.declared.office.OfficeLists.{OfficeLists}
use Rattle.sql_load.specs.declared.fault.LoadError.{LoadError}
use Rattle.sql_load.specs.TableLookUps.{HoldsOfStoredOffice, HoldsOrFails}
use Rattle.desk_deciding.specs.Deciding.{HoldsOfTables}

pub mapped_ok : {X E D : Type 0} (Q : E → D → Type 0) (P : X → Type 0) (s : Result X E) (r : Result X D) → MatchResult s (λ x. r ≡ Ok x) (λ e. IsErrAnd r (Q e)) → IfOk s P → IfOk r P
mapped_ok Q P (Ok x) r is h = subst (λ q. IfOk q P) (sym is) h
mapped_ok Q P (Err e) (Ok x) is h = absurd is
mapped_ok Q P (Err e) (Err d) is h = tt

pub always : {X E : Type 0} {W : Type 0} (r : Result X E) → W → OnOk r W
always (Ok x) w = w
always (Err e) w = tt

pub ok_weaker : {X E : Type 0} (P Q : X → Type 0) (r : Result X E) → ((x : X) → P x → Q x) → IfOk r P → IfOk r Q
ok_weaker P Q (Ok x) next h = next x h
ok_weaker P Q (Err e) next h = tt

-- where the office is not read, or nothing is decided, nothing is said of it
pub failed_returned : {S X Y : Type 0} (g : store.Ghosts S) (a b : Held S) (IsSo : OfficeLists → X → Type 0) (IsThat : OfficeLists → Y → Type 0) (old : Result X LoadError) (r : Result Y LoadError) → IsErr r → HoldsOfTables g a b old IsSo → HoldsOfTables g a b r IsThat
failed_returned g a b IsSo IsThat old (Ok y) bad read = absurd cc
failed_returned g a b IsSo IsThat old (Err e) bad read = record { holds = λ clean office stands. tt; same = λ done. tt; changes = read.changes }

if_returned : {X : Type 0} (P : X → Type 0) (r : Result X LoadError) → HoldsOrFails P r → IfOk r P
if_returned P (Ok x) h = h
if_returned P (Err e) h = tt

-- is read of the office for which they stand
pub returned_office : {S X : Type 0} (g : store.Ghosts S) (a b : Held S) (r : Result X LoadError) (P : OfficeLists → X → Type 0) → HoldsOfStoredOffice g a b r P → HoldsOfTables g a b r P
returned_office g a b r P returned = record {
  holds = λ clean office stands. if_returned (P office) r (returned.holds (clean, stands.desk) office stands.holds stands.preserved);
  same = returned.same;
  changes = returned.changes;
}
