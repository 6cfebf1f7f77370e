-- What one turn of a replay does: it reads a line and answers it.
use Rattle.std.specs.Prelude.{◌≡◌, ℕ, ◌<◌, ◌⊎◌, List, ◌++◌, length, Bool, true, false, Option, None, Some, IfSome, Result, Ok, Err, IfErr, ⊤}
use Rattle.std.specs.Io.KnownBytes.{Appends, IsAtEnd}
use Rattle.std.specs.declared.alloc.Global.{Global}
use Rattle.std.specs.declared.vec.Vec.{Vec}
use Rattle.any_office.specs.declared.Office as office
use Rattle.byte_io.specs.Counts.{one_more}
use Rattle.byte_io.specs.Written.{AppendsPrefix}
use Rattle.line_reader.specs.FirstLine.{StaysInLine}
use Rattle.line_reader.specs.Lines.{first_line, after_line}
use Rattle.line_reader.specs.NextLine.{longest_input}
use Rattle.desk_words.specs.declared.office.OfficeLists.{OfficeLists}
use Rattle.desk_words.specs.declared.reply.Failure.{Failure}
use Rattle.replay.specs.Gathered.{IsGathered}
use Rattle.replay.specs.declared.script.ReplayFault.{ReplayFault}
use Rattle.replay.specs.declared.script.ReplayFault.TheVariants.{Read, Write}
use Rattle.replay.specs.Transcript.{LineMayFail, line_answered, text_or_failure}

-- where a replay stands: what is unread, as far as it is known, the office, what is written, and
-- which answers wait to be written
pub record ReplayState : Type 0 where
  pub unread : Option (List ℕ)
  pub office : OfficeLists
  pub written : Option (List ℕ)
  pub waiting : List ℕ

abbrev pub replay_state : Option (List ℕ) → OfficeLists → Option (List ℕ) → List ℕ → ReplayState
replay_state unread office written waiting =
    record { unread = unread; office = office; written = written; waiting = waiting }

-- why there is no text
abbrev pub err_of : {T : Type 0} → Result T Failure → Option Failure
err_of (Ok text) = None
err_of (Err why) = Some why

-- this is the text of the answer to a line, or why it failed, and the office after it is stored
pub record AnswersLine {O : Type 0} (g : office.Ghosts O) (before : OfficeLists) (line : List ℕ)
    (text : Result (Vec ℕ Global) Failure) (new : O) : Type 0 where
  pub cause : IfErr text (LineMayFail g.may_fail)
  pub text_is : text_or_failure text ≡ (line_answered (err_of text) before line).text
  pub stands : g.stands new (line_answered (err_of text) before line).office

-- the first of these lines was answered, and this holds of its answer
pub record AnswersFirst (may_fail : Failure → Type 0) (bytes : List ℕ) (before after : OfficeLists)
    (IsWritten : List ℕ → Type 0) : Type 0 where
  pub some_left : 0 < length bytes
  pub failed : Option Failure
  pub cause : IfSome failed (LineMayFail may_fail)
  pub after_is : after ≡ (line_answered failed before (first_line bytes)).office
  pub written : IsWritten (line_answered failed before (first_line bytes)).text

module _ (may_fail : Failure → Type 0) where
  -- where it is known what was unread and what is left, the first line was answered
  abbrev pub AnswersIfKnown : Option (List ℕ) → Option (List ℕ) → ReplayState → ReplayState → Type 0
  AnswersIfKnown None left before after = ⊤
  AnswersIfKnown (Some bytes) None before after = ⊥
  AnswersIfKnown (Some bytes) (Some rest) before after =
      (rest ≡ after_line bytes)
      × AnswersFirst may_fail bytes before.office after.office
      (λ text. IsGathered before.written after.written after.waiting (before.waiting ++ text))

  -- a turn that went well: the first of the unread lines was answered, or there was none, and
  -- nothing waits any longer
  abbrev pub Turns : Bool → ReplayState → ReplayState → Type 0
  Turns false before after =
      IsAtEnd before.unread × Appends before.written after.written before.waiting
      × (after.office ≡ before.office)
  Turns true before after = AnswersIfKnown before.unread after.unread before after

  -- where it is known what was unread, its first line was answered; of that answer and of those
  -- that waited a part was written
  abbrev pub InPartIfKnown : Option (List ℕ) → ReplayState → ReplayState → Type 0
  InPartIfKnown None before after = ⊤
  InPartIfKnown (Some bytes) before after =
      AnswersFirst may_fail bytes before.office after.office
      (λ text. AppendsPrefix before.written after.written (before.waiting ++ text))

  -- a turn that a device ended: the reader before the line feed of the next line came, and what
  -- waited was written; or the writer, before or after a line was answered
  abbrev pub Stops : ReplayFault → Option (List ℕ) → ReplayState → ReplayState → Type 0
  Stops Read left before after =
      Appends before.written after.written before.waiting × StaysInLine before.unread left
      × (after.office ≡ before.office)
  Stops Write left before after =
      (AppendsPrefix before.written after.written before.waiting
      × (after.office ≡ before.office))
      ⊎ InPartIfKnown before.unread before after

-- how often the devices of a replay have failed
pub record Failures : Type 0 where
  pub of_reader : ℕ
  pub of_writer : ℕ

-- why a replay that was given so many bytes ended early: the reader failed once in the call, or
-- more bytes came than an input has, or the writer failed once; nothing else failed
abbrev pub HasEndedFor : ReplayFault → ℕ → Failures → Failures → Type 0
HasEndedFor Read given before after =
    ((after.of_reader ≡ one_more before.of_reader)
    ⊎ ((after.of_reader ≡ before.of_reader) × (longest_input < given)))
    × (after.of_writer ≡ before.of_writer)
HasEndedFor Write given before after =
    (after.of_writer ≡ one_more before.of_writer) × (after.of_reader ≡ before.of_reader)
