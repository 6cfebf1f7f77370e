-- What a replay writes, line by line.
use Rattle.std.specs.Prelude.{◌≡◌, ℕ, ◌==◌, List, [], ◌∷◌, length, Option, Some, None, Result, Ok, Err, if◌then◌else◌}
use Rattle.std.specs.List.{flat_map}
use Rattle.vocabulary.specs.declared.refusal.Refusal.{Refusal}
use Rattle.desk_words.specs.Changes.{empty_office}
use Rattle.desk_words.specs.ViewTypes.{Party}
use Rattle.desk_words.specs.declared.office.OfficeLists.{OfficeLists}
use Rattle.desk_words.specs.declared.reply.Failure.{Failure}
use Rattle.desk_words.specs.declared.reply.Reply.{Reply}
use Rattle.desk_words.specs.declared.request.Call.{Call}
use Rattle.json_replies.specs.Replies.{reply_bytes}
use Rattle.replay.specs.ReplayLines.{asked_in_line}
use Rattle.replay.specs.ReplayRuns.{as_line, calls_of}
use Rattle.replay.specs.Transcript.{line_answered, transcript}
use Rattle.laws_run.specs.Isolation.{AreIndistinguishable}
use Rattle.laws_run.specs.NearParts.{Viewer}
use Rattle.laws_run.specs.SecretCalls.{AreSameBut, Secret}
use Rattle.laws_text.specs.Exchanges.{Exchange, AreTextsOfRun, calls_made}
use Rattle.laws_text.specs.TextSecrecy.{AreIsolatedFromNothing, AreIsolatedTo, KeepSecret}

-- the line that a replay writes for a reply
abbrev pub reply_line : Reply → List ℕ
reply_line reply = as_line (reply_bytes reply)

-- the call that was asked, if it was one
abbrev pub call_asked : Result Call Refusal → Option Call
call_asked (Ok call) = Some call
call_asked (Err refusal) = None

-- the call that a line makes; a line that failed makes none
abbrev pub call_by_line : Option Failure → List ℕ → Option Call
call_by_line (Some why) line = None
call_by_line None line = call_asked (asked_in_line line)

-- what is written for each line in turn, but for empty ones, which are skipped
abbrev pub exchanges_of : OfficeLists → List (List ℕ) → List (Option Failure) → List Exchange
exchanges_of office [] failed = []
exchanges_of office (line ∷ lines) [] = []
exchanges_of office (line ∷ lines) (f ∷ failed) =
    let answer = line_answered f office line in
    let later = exchanges_of answer.office lines failed in
    if length line == 0
    then later
    else record { made = call_by_line f line; text = answer.text } ∷ later

-- these are all the bytes that a replay writes
abbrev pub ReplaysWriteThem : Type 0
ReplaysWriteThem =
    (office : OfficeLists) (lines : List (List ℕ)) (failed : List (Option Failure))
    → flat_map (λ (e : Exchange). e.text) (exchanges_of office lines failed)
    ≡ transcript office lines failed

-- the calls among them are those that the lines ask, but for the lines that failed
abbrev pub ReplaysMakeTheCalls : Type 0
ReplaysMakeTheCalls =
    (office : OfficeLists) (lines : List (List ℕ)) (failed : List (Option Failure))
    → calls_made (exchanges_of office lines failed) ≡ calls_of lines failed

-- and they are the texts of the run of these calls
abbrev pub ReplaysAnswerTheRun : Type 0
ReplaysAnswerTheRun =
    (office : OfficeLists) (lines : List (List ℕ)) (failed : List (Option Failure))
    → AreTextsOfRun reply_line office (exchanges_of office lines failed)

-- so two replays from the office that holds nothing are isolated: where the calls that their lines
-- ask show a party the same, with all sources of either, the lines that answer it are the same
-- bytes, one for one
abbrev pub ReplaysAreIsolated : Type 0
ReplaysAreIsolated =
    (party : Party) (lines again : List (List ℕ)) (failed others : List (Option Failure))
    → AreIsolatedFromNothing party (exchanges_of empty_office lines failed)
    (exchanges_of empty_office again others)

-- and from any two offices that are one to a party
abbrev pub AlikeReplaysAreIsolated : Type 0
AlikeReplaysAreIsolated =
    (viewer : Viewer) (one other : OfficeLists) (lines again : List (List ℕ))
    (failed others : List (Option Failure))
    → AreIndistinguishable viewer one other
    → AreIsolatedTo viewer one other (exchanges_of one lines failed)
    (exchanges_of other again others)

-- and keep secrets: where the offices are the same but for secret votes, and the calls differ in
-- such votes alone, they show the same of them
abbrev pub ReplaysKeepSecrets : Type 0
ReplaysKeepSecrets =
    (secret : Secret) (one other : OfficeLists) (lines again : List (List ℕ))
    (failed others : List (Option Failure))
    → AreSameBut secret one other
    → KeepSecret reply_line secret one (exchanges_of one lines failed)
    (exchanges_of other again others)
