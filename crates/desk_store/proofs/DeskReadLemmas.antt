-- What is read of the office for which the tables stand.
use Rattle.std.proofs.Common.{◌≡◌, Option, Some, Ok, Err, Result, IfErr, IfOk, OnOk, IsErr, IsErrAnd, refl, sym, ap, subst, ◌∙◌}
use Rattle.std.specs.Prelude.{MatchResult}
use Rattle.sqlite.specs.Held.{Held}
use Rattle.sqlite_trees.specs.declared.store.Store as store
use Rattle.desk_words.specs.Office.{is_office}
use Rattle.desk_words.specs.declared.office.OfficeLists.{OfficeLists}
use Rattle.sql_model.specs.OfficeRecords.{office_in}
use Rattle.sql_load.specs.declared.fault.LoadError.{LoadError}
use Rattle.sql_load.specs.WholeReading.{IsReading}
use Rattle.office_validation.specs.Validation.{office_in_order}
use Rattle.desk_deciding.specs.Deciding.{HoldsOfTables}
use Rattle.desk_deciding.proofs.ReturnedLemmas.{always, mapped_ok, ok_weaker}
use Rattle.desk_store.specs.TableReads.{IsBookOf}
use Rattle.sql_open.proofs.OrderedMeetingLemmas.{office_ordered}

module _ {S : Type 0} (g : store.Ghosts S) (a b : Held S) where
  -- the lists that are read are the office, and so is the book of them
  pub book_returned : {E : Type 0} (Q : E → LoadError → Type 0) (lists : OfficeLists) (made : Result OfficeLists E) (r : Result OfficeLists LoadError) → IsReading g a b is_office (Ok lists) office_in
      → IfOk made (λ book. book ≡ office_in_order lists) → MatchResult made (λ x. r ≡ Ok x) (λ e. IsErrAnd r (Q e)) → HoldsOfTables g a b r IsBookOf
  book_returned Q lists made r reading is mapped = record {
    holds = λ clean office stands.
        let found : ◌≡◌ {A = Option OfficeLists} (Some lists) (Some office) = sym (reading.holds (clean, stands.desk)) ∙ stands.holds in
        let same : lists ≡ office = cc in
        mapped_ok Q (IsBookOf office) made r mapped (ok_weaker (λ book. book ≡ office_in_order lists) (IsBookOf office) made (λ book ordered. ordered ∙ ap office_in_order same ∙ office_ordered office stands.preserved) is);
    same = λ read. always r (reading.same read);
    changes = reading.changes;
  }

-- ---- what is given where an error becomes another

pub mapped_is : {X E D : Type 0} (Q : E → D → Type 0) (P : X → Type 0) (s : Result X E) (r : Result X D) (x : X) → MatchResult s (λ x. r ≡ Ok x) (λ e. IsErrAnd r (Q e)) → r ≡ Ok x → IfOk s P → P x
mapped_is Q P s r x is got h = subst (λ q. IfOk q P) got (mapped_ok Q P s r is h)

pub mapped_on : {X E D : Type 0} {W : Type 0} (Q : E → D → Type 0) (s : Result X E) (r : Result X D) (x : X) → MatchResult s (λ x. r ≡ Ok x) (λ e. IsErrAnd r (Q e)) → r ≡ Ok x → OnOk s W → W
mapped_on Q (Ok y) r x is got h = h
mapped_on Q (Err e) r x is got h = absurd (subst (λ q. IsErrAnd q (Q e)) got is)

pub mapped_failed : {X E D : Type 0} (Q : E → D → Type 0) (s : Result X E) (r : Result X D) {d : D} → MatchResult s (λ x. r ≡ Ok x) (λ e. IsErrAnd r (Q e)) → r ≡ Err d → IsErr s
mapped_failed Q (Ok x) r is got = absurd cc
mapped_failed Q (Err e) r is got = refl

pub error_of : {X E : Type 0} (P : E → Type 0) (r : Result X E) → IsErr r → IfErr r P → (e : E) × P e
error_of P (Ok x) failed h = absurd cc
error_of P (Err e) failed h = (e, h)
