-- A replay answers its lines in turn.
use Rattle.std.proofs.Common.{◌≡◌, ℕ, ◌==◌, true, false, cond, List, [], ◌∷◌, ◌++◌, length, refl}
use Rattle.std.specs.Prelude.{Option, Some, None, Result, Ok, Err}
use Rattle.vocabulary.specs.declared.refusal.Refusal.{Refusal}
use Rattle.desk_words.specs.declared.office.OfficeLists.{OfficeLists}
use Rattle.desk_words.specs.declared.reply.Failure.{Failure}
use Rattle.desk_words.specs.declared.request.Call.{Call}
use Rattle.meeting_core.specs.Step.{run_of}
use Rattle.replay.specs.ReplayLines.{asked_in_line}
use Rattle.replay.specs.ReplayRuns.{answer_before, answer_unless, call_before, call_unless, calls_of, interleaved}
use Rattle.replay.specs.Transcript.{Answered, answered_call, line_answered, transcript, unless_failed, LinesAreAnsweredInTurn}

-- an answer, before what is written for the lines that follow it
abbrev Follows : Answered → List (List ℕ) → List (Option Failure) → List ℕ
Follows a lines failed = a.text ++ transcript a.office lines failed

asked_line : (asked : Result Call Refusal) (office : OfficeLists) (lines : List (List ℕ)) (failed : List (Option Failure))
    → answer_before asked (run_of office (call_before asked (calls_of lines failed))).replies (interleaved lines failed) ≡ Follows (answered_call office asked) lines failed
asked_line (Ok call) office lines failed = refl
asked_line (Err refusal) office lines failed = refl

unless_line : (f : Option Failure) (line : List ℕ) (office : OfficeLists) (lines : List (List ℕ)) (failed : List (Option Failure))
    → answer_unless f line (run_of office (call_unless f line (calls_of lines failed))).replies (interleaved lines failed) ≡ Follows (unless_failed f office line) lines failed
unless_line (Some why) line office lines failed = refl
unless_line None line office lines failed = asked_line (asked_in_line line) office lines failed

pub answered_in_turn : LinesAreAnsweredInTurn
answered_in_turn office line lines f failed =
    let calls = calls_of lines failed in
    let skipped : Answered = record { text = []; office = office } in
    elim (length line == 0) as (λ b.
    cond b (interleaved lines failed (run_of office (cond b calls (call_unless f line calls))).replies) (answer_unless f line (run_of office (cond b calls (call_unless f line calls))).replies (interleaved lines failed))
    ≡ Follows (cond b skipped (unless_failed f office line)) lines failed)
    [ true ↦ refl | false ↦ unless_line f line office lines failed ]

-- ---- the office after lines

asked_after : (asked : Result Call Refusal) (office : OfficeLists) (calls : List Call) → (run_of office (call_before asked calls)).office ≡ (run_of (answered_call office asked).office calls).office
asked_after (Ok call) office calls = refl
asked_after (Err refusal) office calls = refl

unless_after : (f : Option Failure) (line : List ℕ) (office : OfficeLists) (calls : List Call)
    → (run_of office (call_unless f line calls)).office ≡ (run_of (unless_failed f office line).office calls).office
unless_after (Some why) line office calls = refl
unless_after None line office calls = asked_after (asked_in_line line) office calls

-- the run of the calls of lines is that of the first, and then of the others
pub run_in_turn : (office : OfficeLists) (line : List ℕ) (lines : List (List ℕ)) (f : Option Failure) (failed : List (Option Failure))
    → (run_of office (calls_of (line ∷ lines) (f ∷ failed))).office ≡ (run_of (line_answered f office line).office (calls_of lines failed)).office
run_in_turn office line lines f failed =
    let calls = calls_of lines failed in
    let skipped : Answered = record { text = []; office = office } in
    elim (length line == 0) as (λ b.
    (run_of office (cond b calls (call_unless f line calls))).office ≡ (run_of (cond b skipped (unless_failed f office line)).office calls).office)
    [ true ↦ refl | false ↦ unless_after f line office calls ]
