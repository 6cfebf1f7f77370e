-- The calls that the lines of a replay ask, and the replies to them among its answers.
use Rattle.std.specs.Prelude.{ℕ, ◌==◌, List, [], ◌∷◌, ◌++◌, length, Option, Some, None, Result, Ok, Err, if◌then◌else◌}
use Rattle.vocabulary.specs.declared.refusal.Refusal.{Refusal}
use Rattle.desk_words.specs.declared.request.Call.{Call}
use Rattle.desk_words.specs.declared.reply.Failure.{Failure}
use Rattle.desk_words.specs.declared.reply.Reply.{Reply}
use Rattle.desk_words.specs.declared.reply.Reply.TheVariants.{Refused}
use Rattle.json_replies.specs.Replies.{reply_bytes, failure_bytes}
use Rattle.replay.specs.ReplayLines.{asked_in_line}

-- a text and a line feed
abbrev pub as_line : List ℕ → List ℕ
as_line text = text ++ 10 ∷ []

-- the call that was asked, before the calls that follow
abbrev pub call_before : Result Call Refusal → List Call → List Call
call_before (Ok call) calls = call ∷ calls
call_before (Err refusal) calls = calls

-- a line that failed makes no call
abbrev pub call_unless : Option Failure → List ℕ → List Call → List Call
call_unless (Some why) line calls = calls
call_unless None line calls = call_before (asked_in_line line) calls

-- the calls that lines ask, without those of the lines that failed; for each line it is given why
-- it failed, if it did
abbrev pub calls_of : List (List ℕ) → List (Option Failure) → List Call
calls_of [] failed = []
calls_of (line ∷ lines) [] = []
calls_of (line ∷ lines) (f ∷ failed) =
    if length line == 0 then calls_of lines failed else call_unless f line (calls_of lines failed)

-- a call's answer is the next reply; what is no call is answered by its refusal
abbrev pub answer_before : Result Call Refusal → List Reply → (List Reply → List ℕ) → List ℕ
answer_before (Ok call) [] rest = []
answer_before (Ok call) (reply ∷ replies) rest = as_line (reply_bytes reply) ++ rest replies
answer_before (Err refusal) replies rest = as_line (reply_bytes (Refused refusal)) ++ rest replies

-- a line that failed is answered by the failure's text, and takes no reply
abbrev pub answer_unless : Option Failure → List ℕ → List Reply → (List Reply → List ℕ) → List ℕ
answer_unless (Some why) line replies rest = as_line (failure_bytes why) ++ rest replies
answer_unless None line replies rest = answer_before (asked_in_line line) replies rest

-- the texts of replies, one for each line that is a call, among the other lines' answers
abbrev pub interleaved : List (List ℕ) → List (Option Failure) → List Reply → List ℕ
interleaved [] failed replies = []
interleaved (line ∷ lines) [] replies = []
interleaved (line ∷ lines) (f ∷ failed) replies =
    if length line == 0
    then interleaved lines failed replies
    else answer_unless f line replies (interleaved lines failed)
