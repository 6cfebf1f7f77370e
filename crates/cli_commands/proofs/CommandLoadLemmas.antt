-- From what was read and what followed of it to how the command ends.
use Rattle.std.proofs.Common.{◌≡◌, ℕ, List, Result, Ok, Err, IfErr, inl, inr, sym, subst}
use Rattle.vocabulary.specs.Identity.{id}
use Rattle.desk_words.specs.ViewTypes.{Moment}
use Rattle.desk_words.specs.declared.office.OfficeLists.{OfficeLists}
use Rattle.desk_words.specs.declared.request.Request.{Request}
use Rattle.csv_import.specs.FileErrors.{FileAgrees, IfRecordsRead}
use Rattle.csv_import.specs.WholeFiles.{IsReadCause, HasReceived, IsReadWhole}
use Rattle.csv_import.specs.declared.fault.FileError.{FileError}
use Rattle.csv_import.specs.declared.fault.FileError.TheVariants as file
use Rattle.cli_exit.specs.Endings.{Ending}
use Rattle.cli_commands.specs.LoadCommands.{AnswersFile, Loads}
use Rattle.cli_commands.specs.FileReading.{Reader, load_asked}

module _ {X : Type 0} (spelled_by : List ℕ → Result X FileError) (asking : X → Request) (limit : ℕ)
    (before after : Reader) (held : OfficeLists) (now : Moment) (end : Ending) (Stands Unsure : OfficeLists → Type 0) where
  -- it is what some bytes spell that came
  abbrev pub IsSpelled : Result X FileError → Type 0
  IsSpelled read =
      (bytes : List ℕ) × HasReceived bytes before.rest before.passed after.passed
      × FileAgrees id read (spelled_by bytes)

  abbrev pub IsWhole : Type 0
  IsWhole =
      IsReadWhole limit before.rest after.rest before.passed after.passed
      before.failures after.failures

  asked : (read : Result X FileError) (bytes : List ℕ)
      → HasReceived bytes before.rest before.passed after.passed → spelled_by bytes ≡ read → IsWhole
      → AnswersFile held now (load_asked asking read) end Stands Unsure
      → Loads spelled_by asking limit before after held now end Stands Unsure
  asked read bytes came spelled whole after_it =
      inl (record {
        bytes = bytes;
        came = came;
        whole = whole;
        follows = subst (λ r. AnswersFile held now (load_asked asking r) end Stands Unsure) (sym spelled) after_it;
      })

  follows : (read : Result X FileError) → IfRecordsRead read (IsSpelled read) → IfRecordsRead read IsWhole
      → IfErr read
      (λ f. IsReadCause f limit before.passed after.passed before.failures after.failures)
      → AnswersFile held now (load_asked asking read) end Stands Unsure
      → Loads spelled_by asking limit before after held now end Stands Unsure
  follows (Ok rows) spelled whole cause after_it =
      asked (Ok rows) spelled.0 spelled.1 spelled.2 whole after_it
  follows (Err (file.BadRow line why)) spelled whole cause after_it =
      asked (Err (file.BadRow line why)) spelled.0 spelled.1 spelled.2 whole after_it
  follows (Err (file.Twice line)) spelled whole cause after_it =
      asked (Err (file.Twice line)) spelled.0 spelled.1 spelled.2 whole after_it
  follows (Err file.ReadFault) spelled whole cause after_it =
      inr (record { why = file.ReadFault; of_reading = tt; cause = cause; ended = after_it.0; stands = after_it.1 })
  follows (Err file.Memory) spelled whole cause after_it =
      inr (record { why = file.Memory; of_reading = tt; cause = cause; ended = after_it.0; stands = after_it.1 })

  -- the request was made of what was read
  pub loads : (read : Result X FileError) (file : Result Request FileError)
      → IfRecordsRead read (IsSpelled read) → IfRecordsRead read IsWhole
      → IfErr read
      (λ f. IsReadCause f limit before.passed after.passed before.failures after.failures)
      → file ≡ load_asked asking read → AnswersFile held now file end Stands Unsure
      → Loads spelled_by asking limit before after held now end Stands Unsure
  loads read file spelled whole cause made after_it =
      follows read spelled whole cause
      (subst (λ f. AnswersFile held now f end Stands Unsure) made after_it)
