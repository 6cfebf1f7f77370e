-- The lines of a replay, and what each of them asks.
use Rattle.std.specs.Prelude.{ℕ, ◌==◌, List, [], length, nat_lt, Option, Some, None, option_and_then, option_map, Result, Ok, Err, ok_or, unwrap_or, if◌then◌else◌, Bool}
use Rattle.std.specs.List.{position_or_len, before_first, after_first}
use Rattle.std.specs.Str.{is_utf8}
use Rattle.vocabulary.specs.ResultSteps.{◌>>=◌}
use Rattle.calendar.specs.DateTexts.{moment_of}
use Rattle.vocabulary.specs.declared.refusal.Refusal.{Refusal}
use Rattle.vocabulary.specs.declared.refusal.Refusal.TheVariants.{Key, TooLarge, Unreadable}
use Rattle.desk_words.specs.Callers.{caller_of}
use Rattle.desk_words.specs.ViewTypes.{Moment}
use Rattle.desk_words.specs.declared.request.Call.{Call}
use Rattle.line_reader.specs.NextLine.{longest_line}
use Rattle.json_requests.specs.RefusalResults.{or_unreadable}
use Rattle.json_requests.specs.Requests.{request_of}

-- a space is the byte 32
abbrev pub is_space : ℕ → Bool
is_space byte = byte == 32

-- what stands before the first space, and what stands after it
abbrev pub at_first_space : List ℕ → Option (List ℕ × List ℕ)
at_first_space bytes =
    if nat_lt (position_or_len is_space bytes) (length bytes)
    then Some (before_first is_space bytes, after_first is_space bytes)
    else None

-- the moment before the first space of a line, and what stands after that space
abbrev pub moment_first : List ℕ → Option (Moment × List ℕ)
moment_first line =
    option_and_then
    (λ parts. option_map (λ moment. (moment, parts.1)) (moment_of parts.0))
    (at_first_space line)

-- the four parts of a line behind its moment
pub record Parts : Type 0 where
  pub caller : List ℕ
  pub meeting : List ℕ
  pub verb : List ℕ
  pub body : List ℕ

-- what stands behind the moment is parted at its first three spaces; with two the body is empty
unfoldable pub parts_of : List ℕ → Result Parts Refusal
parts_of rest = do
  b ← or_unreadable (at_first_space rest)
  c ← or_unreadable (at_first_space b.1)
  let d = unwrap_or (at_first_space c.1) (c.1, [])
  Ok (record { caller = b.0; meeting = c.0; verb = d.0; body = d.1 })

-- the caller that was found; where there is none, the key is refused
abbrev pub known_caller : {A : Type 0} → Option A → Result A Refusal
known_caller found = ok_or found Key

-- the text that bytes are
abbrev pub text_in : List ℕ → Result (List ℕ) Refusal
text_in bytes = if is_utf8 bytes then Ok bytes else Err Unreadable

-- what a line asks: it must be UTF-8, begin with a moment and have its parts, then a known caller,
-- then a request
unfoldable pub parsed_call : List ℕ → Result Call Refusal
parsed_call line = do
  text ← text_in line
  first ← or_unreadable (moment_first text)
  parts ← parts_of first.1
  caller ← known_caller (caller_of parts.caller)
  request ← request_of parts.meeting parts.verb parts.body
  Ok (record { moment = first.0; caller = caller; request = request })

-- what a line of any length asks: one that is too long is refused unread
abbrev pub asked_in_line : List ℕ → Result Call Refusal
asked_in_line line = if nat_lt longest_line (length line) then Err TooLarge else parsed_call line
