-- What a replay writes tells a run.
use Rattle.std.proofs.Common.{◌≡◌, ℕ, ◌==◌, Bool, true, false, cond, List, [], ◌∷◌, ◌++◌, length, refl, ap, sym, ◌∙◌}
use Rattle.std.specs.Prelude.{Option, Some, None, Result, Ok, Err}
use Rattle.std.specs.List.{flat_map}
use Rattle.vocabulary.specs.declared.refusal.Refusal.{Refusal}
use Rattle.desk_words.specs.Changes.{empty_office}
use Rattle.desk_words.specs.declared.office.OfficeLists.{OfficeLists}
use Rattle.desk_words.specs.declared.reply.Failure.{Failure}
use Rattle.desk_words.specs.declared.request.Call.{Call}
use Rattle.meeting_core.specs.Step.{decided}
use Rattle.replay.specs.ReplayLines.{asked_in_line}
use Rattle.replay.specs.ReplayRuns.{call_before, call_unless, calls_of}
use Rattle.replay.specs.Transcript.{Answered, LinesAreAnsweredInTurn, answered_call, transcript, unless_failed}
use Rattle.laws_run.specs.Traces.{with_head}
use Rattle.laws_text.specs.Exchanges.{Exchange, AreTextsOfRun, calls_made}
use Rattle.laws_text.specs.ReplayLaws.{AlikeReplaysAreIsolated, ReplaysAreIsolated, ReplaysKeepSecrets, ReplaysMakeTheCalls, ReplaysAnswerTheRun, ReplaysWriteThem, call_asked, call_by_line, exchanges_of, reply_line}
use Rattle.laws_text.specs.TextSecrecy.{TextsAreIsolated, TextsFromNothingAreIsolated, TextsKeepSecrets, RunTexts}

-- what a line is answered, where it is empty or not
abbrev answered_if : Bool → Option Failure → OfficeLists → List ℕ → Answered
answered_if is_empty f office line = cond is_empty (record { text = []; office = office }) (unless_failed f office line)

-- what is written for lines, of which the first is empty or not
abbrev exchanges_if : Bool → Option Failure → OfficeLists → List ℕ → List (List ℕ) → List (Option Failure) → List Exchange
exchanges_if is_empty f office line lines failed =
    let later = exchanges_of (answered_if is_empty f office line).office lines failed in
    cond is_empty later (record { made = call_by_line f line; text = (answered_if is_empty f office line).text } ∷ later)

pub replays_write : LinesAreAnsweredInTurn → ReplaysWriteThem
replays_write law office [] failed = refl
replays_write law office (line ∷ lines) [] = refl
replays_write law office (line ∷ lines) (f ∷ failed) =
    (elim (length line == 0) as (λ b. flat_map (λ (e : Exchange). e.text) (exchanges_if b f office line lines failed)
    ≡ (answered_if b f office line).text ++ transcript (answered_if b f office line).office lines failed) [
      | true ↦ replays_write law office lines failed
      | false ↦ ap (λ rest. (unless_failed f office line).text ++ rest) (replays_write law (unless_failed f office line).office lines failed)
    ])
    ∙ sym (law office line lines f failed)

-- the call that a line asks, before those that follow
asked-before : (f : Option Failure) (line : List ℕ) (calls : List Call) → with_head (call_by_line f line) calls ≡ call_unless f line calls
asked-before (Some why) line calls = refl
asked-before None line calls =
    elim (asked_in_line line) as (λ asked. with_head (call_asked asked) calls ≡ call_before asked calls) [ Ok call ↦ refl | Err refusal ↦ refl ]

pub replays_make : ReplaysMakeTheCalls
replays_make office [] failed = refl
replays_make office (line ∷ lines) [] = refl
replays_make office (line ∷ lines) (f ∷ failed) =
    elim (length line == 0) as (λ b. calls_made (exchanges_if b f office line lines failed) ≡ cond b (calls_of lines failed) (call_unless f line (calls_of lines failed))) [
      | true ↦ replays_make office lines failed
      | false ↦ ap (with_head (call_by_line f line)) (replays_make (unless_failed f office line).office lines failed) ∙ asked-before f line (calls_of lines failed)
    ]

-- the text of the reply to what a line asked, where the texts that follow are those of the run
exchanged-first : (office : OfficeLists) (asked : Result Call Refusal) (lines : List (List ℕ)) (failed : List (Option Failure))
    → AreTextsOfRun reply_line (answered_call office asked).office (exchanges_of (answered_call office asked).office lines failed)
    → AreTextsOfRun reply_line office (record { made = call_asked asked; text = (answered_call office asked).text } ∷ exchanges_of (answered_call office asked).office lines failed)
exchanged-first office (Ok call) lines failed states = ap (λ texts. reply_line (decided office call).reply ∷ texts) states
exchanged-first office (Err refusal) lines failed states = states

pub replays_answer : ReplaysAnswerTheRun
replays_answer office [] failed = refl
replays_answer office (line ∷ lines) [] = refl
replays_answer office (line ∷ lines) (f ∷ failed) =
    elim (length line == 0) as (λ b. AreTextsOfRun reply_line office (exchanges_if b f office line lines failed)) [
      | true ↦ replays_answer office lines failed
      | false ↦ unless_exchanged f (replays_answer (unless_failed f office line).office lines failed)
    ]
  where
    unless_exchanged : (f : Option Failure) → AreTextsOfRun reply_line (unless_failed f office line).office (exchanges_of (unless_failed f office line).office lines failed)
        → AreTextsOfRun reply_line office (exchanges_if false f office line lines failed)
    unless_exchanged (Some why) states = states
    unless_exchanged None states = exchanged-first office (asked_in_line line) lines failed states

-- ---- two replays

-- the run that a replay tells
abbrev replayed : OfficeLists → (lines : List (List ℕ)) (failed : List (Option Failure)) → RunTexts reply_line
replayed office lines failed = record { office = office; exchanges = exchanges_of office lines failed; states = replays_answer office lines failed }

pub replays_isolated : TextsFromNothingAreIsolated → ReplaysAreIsolated
replays_isolated law party lines again failed others = law reply_line party (replayed empty_office lines failed) (replayed empty_office again others) refl refl

pub alike_replays_isolated : TextsAreIsolated → AlikeReplaysAreIsolated
alike_replays_isolated law viewer one other lines again failed others = law reply_line viewer (replayed one lines failed) (replayed other again others)

pub replays_keep_secrets : TextsKeepSecrets → ReplaysKeepSecrets
replays_keep_secrets law secret one other lines again failed others = law reply_line secret (replayed one lines failed) (replayed other again others)
