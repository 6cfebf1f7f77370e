-- How a command that loads a file ends, and what office it leaves.
use Rattle.std.specs.Prelude.{◌≡◌, ◌⊎◌, ℕ, List, Result, Ok, Err, codes}
use Rattle.desk_words.specs.ViewTypes.{Moment}
use Rattle.desk_words.specs.declared.caller.Caller.TheVariants as caller
use Rattle.desk_words.specs.declared.office.OfficeLists.{OfficeLists}
use Rattle.desk_words.specs.declared.reply.Reply.{Reply}
use Rattle.desk_words.specs.declared.reply.Reply.TheVariants as reply
use Rattle.desk_words.specs.declared.request.Call.{Call}
use Rattle.desk_words.specs.declared.request.Request.{Request}
use Rattle.meeting_core.specs.Step.{decided, stepped}
use Rattle.csv_import.specs.WholeFiles.{HasReceived, IsReadWhole, IsReadCause, IsOfReading}
use Rattle.csv_import.specs.declared.fault.FileError.{FileError}
use Rattle.cli_exit.specs.Endings.{Ending, success, ending, ended_by, ended_by_refusal, ended_by_file}
use Rattle.cli_exit.specs.declared.ended.ExitError.TheVariants as fault
use Rattle.cli_commands.specs.FileReading.{Reader, load_asked}

-- the office asks at a moment
abbrev pub by_office : Moment → Request → Call
by_office now request = record { moment = now; caller = caller.Office; request = request }

-- how the program ends after a reply to what loads: `loaded` or `same`, or the refusal; no other
-- reply has a word
abbrev pub ended_by_reply : Reply → Ending
ended_by_reply reply.Loaded = ending 0 (codes "loaded")
ended_by_reply reply.Same = ending 0 (codes "same")
ended_by_reply (reply.Refused refusal) = ended_by_refusal refusal
ended_by_reply other = success

-- the call was answered, and the office after it is stored; or the store failed, or memory ran out,
-- and it is unsure whether that office is stored, or the one before
abbrev pub AnswersCall : OfficeLists → Call → Ending → (OfficeLists → Type 0)
    → (OfficeLists → Type 0) → Type 0
AnswersCall held call end Stands Unsure =
    ((end ≡ ended_by_reply (decided held call).reply) × Stands (stepped held call))
    ⊎ (((end ≡ ended_by fault.Store) ⊎ (end ≡ ended_by fault.Memory)) × Unsure (stepped held call))

-- what a file asks was answered so; or its fault was reported, and the office is stored as it was
abbrev pub AnswersFile : OfficeLists → Moment → Result Request FileError → Ending
    → (OfficeLists → Type 0) → (OfficeLists → Type 0) → Type 0
AnswersFile held now (Err fault) end Stands Unsure = (end ≡ ended_by_file fault) × Stands held
AnswersFile held now (Ok request) end Stands Unsure =
    AnswersCall held (by_office now request) end Stands Unsure

-- the whole file was read: `bytes` came, and what they spell was asked of the office, or the first
-- fault that they have was reported
pub record HasAsked {X : Type 0} (spelled_by : List ℕ → Result X FileError) (asking : X → Request)
    (limit : ℕ) (before after : Reader) (held : OfficeLists) (now : Moment) (end : Ending)
    (Stands Unsure : OfficeLists → Type 0) : Type 0 where
  pub bytes : List ℕ
  pub came : HasReceived bytes before.rest before.passed after.passed
  pub whole : IsReadWhole limit before.rest after.rest before.passed after.passed
      before.failures after.failures
  pub follows : AnswersFile held now (load_asked asking (spelled_by bytes)) end Stands Unsure

-- what the file spells was not found out: a read failed, or it had more bytes than the limit, or
-- memory ran out; nothing was asked, and the office is stored as it was
pub record HasNotRead (limit : ℕ) (before after : Reader) (held : OfficeLists) (end : Ending)
    (Stands : OfficeLists → Type 0) : Type 0 where
  pub why : FileError
  pub of_reading : IsOfReading why
  pub cause : IsReadCause why limit before.passed after.passed before.failures after.failures
  pub ended : end ≡ ended_by_file why
  pub stands : Stands held

-- it has done either
abbrev pub Loads : {X : Type 0} → (List ℕ → Result X FileError) → (X → Request) → ℕ
    → Reader → Reader → OfficeLists → Moment → Ending → (OfficeLists → Type 0)
    → (OfficeLists → Type 0) → Type 0
Loads spelled_by asking limit before after held now end Stands Unsure =
    HasAsked spelled_by asking limit before after held now end Stands Unsure
    ⊎ HasNotRead limit before after held end Stands
