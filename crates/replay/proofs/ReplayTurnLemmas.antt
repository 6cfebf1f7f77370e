-- What one turn of a replay answers.
use Rattle.std.proofs.Common.{◌≡◌, inl, inr, ℕ, ◌<◌, ◌==◌, Bool, true, false, cond, List, [], ◌∷◌, ◌++◌, length, length-append, refl, ap, subst, sym, ◌∙◌, arith}
use Rattle.std.specs.Prelude.{Option, Some, None, IfSome, Result, Ok, Err, IfOk, IfErr, nat_lt}
use Rattle.std.specs.declared.alloc.Global.{Global}
use Rattle.std.specs.declared.vec.Vec.{Vec}
use Rattle.std.proofs.lemmas.Bool.Decides.{nat_tests}
use Rattle.std.specs.Io.KnownBytes.{IsAtEnd}
use Rattle.any_office.specs.declared.Office as home
use Rattle.byte_io.specs.Written.{AppendsPrefix}
use Rattle.line_reader.specs.Lines.{first_line}
use Rattle.line_reader.specs.NextLine.{NextIs, SameWhole, longest_line, unread}
use Rattle.line_reader.specs.declared.outcome.NextLine.TheVariants.{Whole, TooLong}
use Rattle.vocabulary.specs.declared.refusal.Refusal.{Refusal}
use Rattle.vocabulary.specs.declared.refusal.Refusal.TheVariants.{TooLarge}
use Rattle.desk_words.specs.declared.office.OfficeLists.{OfficeLists}
use Rattle.desk_words.specs.declared.reply.Failure.{Failure}
use Rattle.desk_words.specs.declared.reply.Failure.TheVariants.{Memory}
use Rattle.desk_words.specs.declared.reply.Reply.TheVariants.{Refused}
use Rattle.json_replies.specs.Replies.{reply_bytes}
use Rattle.replay.proofs.Gathering.{gathered-same}
use Rattle.replay.specs.Gathered.{IsGathered}
use Rattle.replay.specs.ReplayLines.{asked_in_line, parsed_call}
use Rattle.replay.specs.ReplaySteps.{replay_state, err_of, AnswersLine, AnswersFirst, Stops, Turns}
use Rattle.replay.specs.ReplayRuns.{as_line}
use Rattle.replay.specs.Transcript.{Answered, LineMayFail, line_answered, answered_call, text_or_failure, unless_failed}
use Rattle.replay.specs.declared.script.ReplayFault.TheVariants.{Write}

abbrev skipped : OfficeLists → Answered
skipped office = record { text = []; office = office }

-- a line that is not empty is not skipped
answered-some : (failed : Option Failure) (office : OfficeLists) (line : List ℕ) → 0 < length line → line_answered failed office line ≡ unless_failed failed office line
answered-some failed office line h =
    let some : (length line == 0) ≡ false = grind (arith, nat_tests) in
    ap (λ b. cond b (skipped office) (unless_failed failed office line)) some

-- a line that is too long is refused as such
asked-too_long : (line : List ℕ) → longest_line < length line → asked_in_line line ≡ Err TooLarge
asked-too_long line h =
    let long : nat_lt longest_line (length line) ≡ true = grind (arith, nat_tests) in
    ap (λ b. cond b (Err TooLarge) (parsed_call line)) long

module _ {O : Type 0} (g : home.Ghosts O) where
  -- a line that failed
  answers-failed : (before : OfficeLists) (line : List ℕ) (why : Failure) (new : O) → 0 < length line → LineMayFail g.may_fail why → g.stands new before
      → AnswersLine g before line (Err why) new
  answers-failed before line why new some cause stands =
      let here = answered-some (Some why) before line some in
      record {
        cause = cause;
        text_is = sym (ap (λ (a : Answered). a.text) here);
        stands = subst (λ (a : Answered). g.stands new a.office) (sym here) stands;
      }

  -- a line that is refused
  answers-refused : (before : OfficeLists) (line : List ℕ) (refusal : Refusal) (text : Result (Vec ℕ Global) Failure) (new : O) → 0 < length line
      → asked_in_line line ≡ Err refusal → IfOk text (λ t. t.items ≡ as_line (reply_bytes (Refused refusal))) → IfErr text (λ why. why ≡ Memory)
      → g.stands new before → AnswersLine g before line text new
  answers-refused before line refusal (Ok t) new some is text cause stands =
      let here : line_answered None before line ≡ answered_call before (Err refusal) = answered-some None before line some ∙ ap (answered_call before) is in
      record {
        cause = tt;
        text_is = text ∙ sym (ap (λ (a : Answered). a.text) here);
        stands = subst (λ (a : Answered). g.stands new a.office) (sym here) stands;
      }
  answers-refused before line refusal (Err why) new some is text cause stands = answers-failed before line why new some (inl cause) stands

  -- an answer, where its line, its text and what stores the office have other names
  pub answers-same : (before : OfficeLists) (line other : List ℕ) (text again : Result (Vec ℕ Global) Failure) (new last : O) → line ≡ other → again ≡ text → last ≡ new
      → (g.is_reliable new → g.is_open new → AnswersLine g before line text new) → g.is_reliable last → g.is_open last → AnswersLine g before other again last
  answers-same before line other text again new last e f h answers reliable is_open =
      subst (λ (l : List ℕ). AnswersLine g before l again last) e
      (subst (λ (t : Result (Vec ℕ Global) Failure). AnswersLine g before line t last) (sym f)
      (subst (λ (o : O). AnswersLine g before line text o) (sym h) (answers (subst g.is_reliable h reliable) (subst g.is_open h is_open))))

  if_failed : (P : Failure → Type 0) (text : Result (Vec ℕ Global) Failure) → IfErr text P → IfSome (err_of text) P
  if_failed P (Ok t) h = tt
  if_failed P (Err why) h = h

  first_answered : (bytes : List ℕ) (before : OfficeLists) (text : Result (Vec ℕ Global) Failure) (new : O) (IsWritten : List ℕ → Type 0)
      → 0 < length bytes → AnswersLine g before (first_line bytes) text new → IsWritten (text_or_failure text)
      → AnswersFirst g.may_fail bytes before (line_answered (err_of text) before (first_line bytes)).office IsWritten
  first_answered bytes before text new IsWritten some a written = record {
    some_left = some;
    failed = err_of text;
    cause = if_failed (LineMayFail g.may_fail) text a.cause;
    after_is = refl;
    written = subst IsWritten a.text_is written;
  }

  -- the office that is stored after a turn, where this was written and waited before it, and after it
  abbrev pub TurnsTo : O → Option (List ℕ) → OfficeLists → Option (List ℕ) → List ℕ → Option (List ℕ) → Option (List ℕ) → List ℕ → Type 0
  TurnsTo new unread before old waiting left mid last =
      (after : OfficeLists) × g.stands new after × Turns g.may_fail true (replay_state unread before old waiting) (replay_state left after mid last)

  abbrev pub StopsAt : O → Option (List ℕ) → Option (List ℕ) → OfficeLists → Option (List ℕ) → List ℕ → Option (List ℕ) → Option (List ℕ) → List ℕ → Type 0
  StopsAt new remaining unread before old waiting left mid last =
      (after : OfficeLists) × g.stands new after × Stops g.may_fail Write remaining (replay_state unread before old waiting) (replay_state left after mid last)

  -- a whole line was answered
  pub turns-whole : (unread left : Option (List ℕ)) (line : List ℕ) (before : OfficeLists) (text : Result (Vec ℕ Global) Failure) (new : O) (old mid : Option (List ℕ)) (waiting last : List ℕ)
      → NextIs Whole unread left line → AnswersLine g before line text new → IsGathered old mid last (waiting ++ text_or_failure text) → TurnsTo new unread before old waiting left mid last
  turns-whole None left line before text new old mid waiting last given a written = ((line_answered (err_of text) before line).office, a.stands, tt)
  turns-whole (Some bytes) None line before text new old mid waiting last given a written = absurd given.1
  turns-whole (Some bytes) (Some rest) line before text new old mid waiting last given a written =
      let first : AnswersLine g before (first_line bytes) text new = subst (λ (l : List ℕ). AnswersLine g before l text new) given.1.2 a in
      (_, first.stands, (given.1.1, first_answered bytes before text new (λ t. IsGathered old mid last (waiting ++ t)) given.1.0 first written))

  -- an empty line was passed over
  pub turns-empty : (unread left : Option (List ℕ)) (line : List ℕ) (before : OfficeLists) (new : O) (old mid : Option (List ℕ)) (waiting last : List ℕ)
      → NextIs Whole unread left line → (length line == 0) ≡ true → g.stands new before → IsGathered old mid last waiting → TurnsTo new unread before old waiting left mid last
  turns-empty None left line before new old mid waiting last given empty stands written = (before, stands, tt)
  turns-empty (Some bytes) None line before new old mid waiting last given empty stands written = absurd given.1
  turns-empty (Some bytes) (Some rest) line before new old mid waiting last given empty stands written =
      let none : (length (first_line bytes) == 0) ≡ true = ap (λ (l : List ℕ). length l == 0) (sym given.1.2) ∙ empty in
      let here : line_answered None before (first_line bytes) ≡ skipped before = ap (λ b. cond b (skipped before) (unless_failed None before (first_line bytes))) none in (
        before,
        stands,
        (
          given.1.1,
          record {
            some_left = given.1.0;
            failed = None;
            cause = tt;
            after_is = sym (ap (λ (a : Answered). a.office) here);
            written = subst (λ (a : Answered). IsGathered old mid last (waiting ++ a.text)) (sym here) (gathered-same old mid waiting last written);
          },
        ),
      )

  -- the writer failed before the next line was taken
  pub stops-before : (unread left remaining : Option (List ℕ)) (before : OfficeLists) (new : O) (old mid : Option (List ℕ)) (waiting last : List ℕ)
      → g.stands new before → AppendsPrefix old mid waiting → StopsAt new remaining unread before old waiting left mid last
  stops-before unread left remaining before new old mid waiting last stands part = (before, stands, inl (part, refl))

  -- of what waited and the answer to a whole line a part was written
  pub stops-whole : (unread left remaining : Option (List ℕ)) (line : List ℕ) (before : OfficeLists) (text : Result (Vec ℕ Global) Failure) (new : O) (old mid : Option (List ℕ)) (waiting last : List ℕ)
      → NextIs Whole unread left line → AnswersLine g before line text new → AppendsPrefix old mid (waiting ++ text_or_failure text) → StopsAt new remaining unread before old waiting left mid last
  stops-whole None left remaining line before text new old mid waiting last given a written = ((line_answered (err_of text) before line).office, a.stands, inr tt)
  stops-whole (Some bytes) None remaining line before text new old mid waiting last given a written = absurd given.1
  stops-whole (Some bytes) (Some rest) remaining line before text new old mid waiting last given a written =
      let first : AnswersLine g before (first_line bytes) text new = subst (λ (l : List ℕ). AnswersLine g before l text new) given.1.2 a in
      (_, first.stands, inr (first_answered bytes before text new (λ t. AppendsPrefix old mid (waiting ++ t)) given.1.0 first written))

  too_long : (bytes : List ℕ) (before : OfficeLists) (text : Result (Vec ℕ Global) Failure) (new : O) → longest_line < length (first_line bytes)
      → IfOk text (λ t. t.items ≡ as_line (reply_bytes (Refused TooLarge))) → IfErr text (λ why. why ≡ Memory) → g.stands new before → AnswersLine g before (first_line bytes) text new
  too_long bytes before text new long is cause stands =
      answers-refused before (first_line bytes) TooLarge text new (omega arith) (asked-too_long (first_line bytes) long) is cause stands

  -- a line that is too long was answered
  pub turns-too_long : (unread left : Option (List ℕ)) (line : List ℕ) (before : OfficeLists) (text : Result (Vec ℕ Global) Failure) (new : O) (old mid : Option (List ℕ)) (waiting last : List ℕ)
      → NextIs TooLong unread left line → IfOk text (λ t. t.items ≡ as_line (reply_bytes (Refused TooLarge))) → IfErr text (λ why. why ≡ Memory) → g.stands new before
      → IsGathered old mid last (waiting ++ text_or_failure text) → TurnsTo new unread before old waiting left mid last
  turns-too_long None left line before text new old mid waiting last given is cause stands written = (before, stands, tt)
  turns-too_long (Some bytes) None line before text new old mid waiting last given is cause stands written = absurd given.1
  turns-too_long (Some bytes) (Some rest) line before text new old mid waiting last given is cause stands written =
      let first = too_long bytes before text new given.1.2 is cause stands in
      (_, first.stands, (given.1.1, first_answered bytes before text new (λ t. IsGathered old mid last (waiting ++ t)) given.1.0 first written))

  -- of what waited and the answer to a line that is too long a part was written
  pub stops-too_long : (unread left remaining : Option (List ℕ)) (line : List ℕ) (before : OfficeLists) (text : Result (Vec ℕ Global) Failure) (new : O) (old mid : Option (List ℕ)) (waiting last : List ℕ)
      → NextIs TooLong unread left line → IfOk text (λ t. t.items ≡ as_line (reply_bytes (Refused TooLarge))) → IfErr text (λ why. why ≡ Memory) → g.stands new before
      → AppendsPrefix old mid (waiting ++ text_or_failure text) → StopsAt new remaining unread before old waiting left mid last
  stops-too_long None left remaining line before text new old mid waiting last given is cause stands written = (before, stands, inr tt)
  stops-too_long (Some bytes) None remaining line before text new old mid waiting last given is cause stands written = absurd given.1
  stops-too_long (Some bytes) (Some rest) remaining line before text new old mid waiting last given is cause stands written =
      let first = too_long bytes before text new given.1.2 is cause stands in
      (_, first.stands, inr (first_answered bytes before text new (λ t. AppendsPrefix old mid (waiting ++ t)) given.1.0 first written))

-- ---- the end of the input

none-left : (xs : List ℕ) → length xs ≡ 0 → xs ≡ []
none-left [] e = refl
none-left (x ∷ xs) e = absurd (omega (arith, e))

-- where nothing is unread, the source has nothing left
pub at_end-rest : (pending : List ℕ) (left : Option (List ℕ)) → IsAtEnd (unread pending left) → IsAtEnd left
at_end-rest pending None e = tt
at_end-rest pending (Some xs) e = none-left xs (omega (arith, ap length e, length-append pending xs))

-- ---- before the next line is taken

-- nothing was taken
pub whole-same : (taken same : ℕ) (remaining : Option (List ℕ)) → same ≡ taken → SameWhole taken remaining same remaining
whole-same taken same None e = tt
whole-same taken same (Some bytes) e = omega (arith, e)
