-- What a replay writes.
use Rattle.std.specs.Prelude.{◌≡◌, ◌⊎◌, ⊤, ℕ, ◌==◌, ◌≤◌, List, [], ◌∷◌, ◌++◌, length, take, All, Option, Some, None, IfSome, Result, Ok, Err, if◌then◌else◌}
use Rattle.std.specs.Io.KnownBytes.{Appends}
use Rattle.std.specs.declared.alloc.Global.{Global}
use Rattle.std.specs.declared.vec.Vec.{Vec}
use Rattle.any_office.specs.declared.Office as office
use Rattle.byte_io.specs.Written.{AppendsPrefix}
use Rattle.line_reader.specs.Lines.{feeds_in, lines_of}
use Rattle.vocabulary.specs.declared.refusal.Refusal.{Refusal}
use Rattle.desk_words.specs.declared.office.OfficeLists.{OfficeLists}
use Rattle.desk_words.specs.declared.request.Call.{Call}
use Rattle.desk_words.specs.declared.reply.Failure.{Failure}
use Rattle.desk_words.specs.declared.reply.Failure.TheVariants.{Memory}
use Rattle.desk_words.specs.declared.reply.Reply.TheVariants.{Refused}
use Rattle.json_replies.specs.Replies.{reply_bytes, failure_bytes}
use Rattle.desk_words.specs.Changes.{empty_office}
use Rattle.meeting_core.specs.Step.{decided, run_of, stepped}
use Rattle.replay.specs.ReplayLines.{asked_in_line}
use Rattle.replay.specs.ReplayRuns.{as_line, calls_of, interleaved}
use Rattle.replay.specs.declared.script.ReplayFault.{ReplayFault}
use Rattle.replay.specs.declared.script.ReplayFault.TheVariants.{Read, Write}

-- what a line is answered, and the office after it
pub record Answered : Type 0 where
  pub text : List ℕ
  pub office : OfficeLists

-- to a call the reply of the office's step, and to what is no call its refusal
abbrev pub answered_call : OfficeLists → Result Call Refusal → Answered
answered_call office (Ok call) = record {
  text = as_line (reply_bytes (decided office call).reply);
  office = stepped office call;
}
answered_call office (Err refusal) = record {
  text = as_line (reply_bytes (Refused refusal));
  office = office;
}

-- a line that failed is answered by the failure's text, and the office is as it was
abbrev pub unless_failed : Option Failure → OfficeLists → List ℕ → Answered
unless_failed (Some why) office line = record {
  text = as_line (failure_bytes why);
  office = office;
}
unless_failed None office line = answered_call office (asked_in_line line)

-- an empty line is skipped
abbrev pub line_answered : Option Failure → OfficeLists → List ℕ → Answered
line_answered failed office line =
    if length line == 0
    then record { text = []; office = office }
    else unless_failed failed office line

-- what is written for lines, of which some failed: the replies of the run of the calls that the
-- lines ask, each for its line, and for a line that is no call its own answer
abbrev pub transcript : OfficeLists → List (List ℕ) → List (Option Failure) → List ℕ
transcript office lines failed =
    interleaved lines failed (run_of office (calls_of lines failed)).replies

-- the lines are answered in turn: each by its own answer, in the office after those before it
abbrev pub LinesAreAnsweredInTurn : Type 0
LinesAreAnsweredInTurn =
    (office : OfficeLists) (line : List ℕ) (lines : List (List ℕ)) (f : Option Failure)
    (failed : List (Option Failure))
    → let answer = line_answered f office line in transcript office (line ∷ lines) (f ∷ failed)
    ≡ answer.text ++ transcript answer.office lines failed

-- a line fails for want of memory, or as a call on the office may fail
abbrev pub LineMayFail : (Failure → Type 0) → Failure → Type 0
LineMayFail may_fail why = (why ≡ Memory) ⊎ may_fail why

-- why calls may fail, the office at the beginning, and what holds of the one in the end
module _ (may_fail : Failure → Type 0) (office : OfficeLists) (IsLeft : OfficeLists → Type 0) where
  -- these lines are answered in a run from the office, and this holds of what is written for them;
  -- some may have failed
  pub record AreAnsweredOn (lines : List (List ℕ)) (IsWritten : List ℕ → Type 0) : Type 0 where
    pub failed : List (Option Failure)
    pub each : length failed ≡ length lines
    pub causes : All (λ (f : Option Failure). IfSome f (LineMayFail may_fail)) failed
    pub written : IsWritten (transcript office lines failed)
    pub left : IsLeft (run_of office (calls_of lines failed)).office

  -- the first lines of the input are answered, at least as many as line feeds stand among the bytes
  -- that the reader gave
  pub record IsAnsweredSoFarOn (input : List ℕ) (given : ℕ) (old new : Option (List ℕ))
      : Type 0 where
    pub count : ℕ
    pub each_that_came : feeds_in (take given input) ≤ count
    pub answered : AreAnsweredOn (take count (lines_of input)) (Appends old new)

  -- the first lines of the input are answered; some bytes from the front of their answers were
  -- written, and not all of them
  pub record IsAnsweredInPartOn (input : List ℕ) (old new : Option (List ℕ)) : Type 0 where
    pub count : ℕ
    pub answered : AreAnsweredOn (take count (lines_of input)) (AppendsPrefix old new)

  -- what was written where a device ended the replay: whole answers alone where it was the reader;
  -- where it was the writer, the last answers may be missing, and one may be cut
  abbrev pub IsReplayedUntilOn : ReplayFault → List ℕ → ℕ → Option (List ℕ) → Option (List ℕ)
      → Type 0
  IsReplayedUntilOn Read input given old new = IsAnsweredSoFarOn input given old new
  IsReplayedUntilOn Write input given old new = IsAnsweredInPartOn input old new

-- this holds of the office that was stored, where it is reliable and can still be asked afterwards
abbrev pub OfOpenOffice : {O : Type 0} → office.Ghosts O → O → O → (OfficeLists → Type 0) → Type 0
OfOpenOffice g old new Holds =
    g.is_reliable new → g.is_open new → (it : OfficeLists) → g.stands old it → Holds it

-- in memory a line fails for want of memory alone
abbrev pub IsMemory : Failure → Type 0
IsMemory why = why ≡ Memory

-- nothing is asked of the office in the end
abbrev pub IsForgotten : OfficeLists → Type 0
IsForgotten office = ⊤

-- the answers to these lines were written, each whole, in a run from the empty office; some lines
-- may have been refused memory
abbrev pub AreAnswered : List (List ℕ) → Option (List ℕ) → Option (List ℕ) → Type 0
AreAnswered lines old new =
    AreAnsweredOn IsMemory empty_office IsForgotten lines (Appends old new)

-- what was written where a device ended such a replay
abbrev pub IsReplayedUntil : ReplayFault → List ℕ → ℕ → Option (List ℕ) → Option (List ℕ) → Type 0
IsReplayedUntil = IsReplayedUntilOn IsMemory empty_office IsForgotten

-- a text that was made, or the line that says why there is none
abbrev pub text_or_failure : Result (Vec ℕ Global) Failure → List ℕ
text_or_failure (Ok text) = text.items
text_or_failure (Err why) = as_line (failure_bytes why)
