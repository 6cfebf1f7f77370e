-- How far a replay has come.
use Rattle.std.proofs.Common.{◌≡◌, inl, inr, ℕ, ◌+◌, ◌≤◌, Bool, true, false, List, [], ◌∷◌, ◌++◌, length, take, refl, ap, subst, sym, ◌∙◌, arith, append_assoc, append-nil, length-append}
use Rattle.std.specs.Prelude.{All, Option, Some, None, IfSome}
use Rattle.std.proofs.Math.Seq.{take-append_seam}
use Rattle.std.proofs.lemmas.List.{take-append-drop}
use Rattle.std.proofs.lemmas.List.Elements.{All-push}
use Rattle.std.specs.Io.KnownBytes.{Appends, IsAtEnd}
use Rattle.byte_io.specs.Written.{AppendsPrefix}
use Rattle.line_reader.specs.FirstLine.{StaysInLine}
use Rattle.line_reader.specs.Lines.{feed_place, feeds_in, lines_of, first_line, after_line}
use Rattle.line_reader.specs.NextLine.{SameWhole, unread}
use Rattle.line_reader.proofs.Feeds.{feeds_in-append, feeds_in-none, feeds_in-line}
use Rattle.line_reader.proofs.LineLaws.{lines_of-cons}
use Rattle.desk_words.specs.declared.office.OfficeLists.{OfficeLists}
use Rattle.desk_words.specs.declared.reply.Failure.{Failure}
use Rattle.meeting_core.specs.Step.{run_of}
use Rattle.replay.proofs.Gathering.{gathered-chained, gathered-longer_part, gathered-part, gathered-written, none_written}
use Rattle.replay.proofs.ReplayRunLaws.{answered_in_turn, run_in_turn}
use Rattle.replay.specs.Gathered.{IsGathered}
use Rattle.replay.specs.ReplayRuns.{calls_of}
use Rattle.replay.specs.ReplaySteps.{replay_state, AnswersFirst, Stops, Turns}
use Rattle.replay.specs.Transcript.{line_answered, transcript, AreAnsweredOn, IsAnsweredSoFarOn, IsAnsweredInPartOn, LineMayFail, IsReplayedUntilOn}
use Rattle.replay.specs.declared.script.ReplayFault.{ReplayFault}
use Rattle.replay.specs.declared.script.ReplayFault.TheVariants.{Read, Write}

-- the office after lines, of which some failed
abbrev pub after_lines : OfficeLists → List (List ℕ) → List (Option Failure) → OfficeLists
after_lines office [] failed = office
after_lines office (line ∷ lines) [] = office
after_lines office (line ∷ lines) (f ∷ failed) = after_lines (line_answered f office line).office lines failed

-- it is the one after the run of their calls
after_run : (o : OfficeLists) (ls : List (List ℕ)) (fs : List (Option Failure)) → after_lines o ls fs ≡ (run_of o (calls_of ls fs)).office
after_run o [] fs = refl
after_run o (l ∷ ls) [] = refl
after_run o (l ∷ ls) (f ∷ fs) = after_run (line_answered f o l).office ls fs ∙ sym (run_in_turn o l ls f fs)

transcript-append : (o : OfficeLists) (ls : List (List ℕ)) (fs : List (Option Failure)) (ms : List (List ℕ)) (gs : List (Option Failure)) → length fs ≡ length ls
    → transcript o (ls ++ ms) (fs ++ gs) ≡ transcript o ls fs ++ transcript (after_lines o ls fs) ms gs
transcript-append o [] [] ms gs h = refl
transcript-append o [] (f ∷ fs) ms gs h = absurd (omega arith)
transcript-append o (l ∷ ls) [] ms gs h = absurd (omega arith)
transcript-append o (l ∷ ls) (f ∷ fs) ms gs h =
    let back = transcript (after_lines (line_answered f o l).office ls fs) ms gs in
    answered_in_turn o l (ls ++ ms) f (fs ++ gs)
    ∙ ap (λ t. (line_answered f o l).text ++ t) (transcript-append (line_answered f o l).office ls fs ms gs (omega arith))
    ∙ sym (append_assoc (line_answered f o l).text (transcript (line_answered f o l).office ls fs) back)
    ∙ ap (λ t. t ++ back) (sym (answered_in_turn o l ls f fs))

-- what is written for one line more
transcript-push : (o : OfficeLists) (ls : List (List ℕ)) (fs : List (Option Failure)) (l : List ℕ) (f : Option Failure) → length fs ≡ length ls
    → transcript o (ls ++ l ∷ []) (fs ++ f ∷ []) ≡ transcript o ls fs ++ (line_answered f (after_lines o ls fs) l).text
transcript-push o ls fs l f h =
    transcript-append o ls fs (l ∷ []) (f ∷ []) h
    ∙ ap (λ t. transcript o ls fs ++ t) (answered_in_turn (after_lines o ls fs) l [] f [] ∙ append-nil _)

after_lines-push : (o : OfficeLists) (ls : List (List ℕ)) (fs : List (Option Failure)) (l : List ℕ) (f : Option Failure) → length fs ≡ length ls
    → after_lines o (ls ++ l ∷ []) (fs ++ f ∷ []) ≡ (line_answered f (after_lines o ls fs) l).office
after_lines-push o [] [] l f h = refl
after_lines-push o [] (x ∷ fs) l f h = absurd (omega arith)
after_lines-push o (m ∷ ls) [] l f h = absurd (omega arith)
after_lines-push o (m ∷ ls) (x ∷ fs) l f h = after_lines-push (line_answered x o m).office ls fs l f (omega arith)

-- the bytes that were given as lines, and those that were lost, are all that came
came : (input given bytes lost left : List ℕ) (taken : ℕ) → input ≡ given ++ bytes → bytes ≡ lost ++ left → taken + length left ≡ 0 + length input → take taken input ≡ given ++ lost
came input given bytes lost left taken e f n =
    let split : input ≡ (given ++ lost) ++ left = e ∙ ap (λ x. given ++ x) f ∙ sym (append_assoc given lost left) in
    let all : taken ≡ length (given ++ lost) = omega (arith, n, ap length split, length-append (given ++ lost) left) in
    ap (λ k. take k input) all ∙ ap (λ x. take (length (given ++ lost)) x) split ∙ take-append_seam (given ++ lost) left

nothing_left : (unread : Option (List ℕ)) (rest : List ℕ) → unread ≡ Some rest → IsAtEnd unread → rest ≡ []
nothing_left None rest h e = absurd (cc)
nothing_left (Some bytes) rest h e = sym (cc) ∙ e

rest_of : (rest other : List ℕ) → Some rest ≡ Some other → other ≡ rest
rest_of rest other h = cc

module _ (may_fail : Failure → Type 0) (start : OfficeLists) where
  -- lines were answered from the office at the start, and this is the office after them
  pub record Done (done : List (List ℕ)) (office : OfficeLists) (IsWritten : List ℕ → Type 0) : Type 0 where
    pub failed : List (Option Failure)
    pub each : length failed ≡ length done
    pub causes : All (λ (f : Option Failure). IfSome f (LineMayFail may_fail)) failed
    pub office_is : office ≡ after_lines start done failed
    pub written : IsWritten (transcript start done failed)

  -- one line more, of which this is written
  done_more : (done : List (List ℕ)) (bytes : List ℕ) (office after : OfficeLists) (IsBefore IsNext IsWritten : List ℕ → Type 0) → Done done office IsBefore
      → AnswersFirst may_fail bytes office after IsNext
      → ((xs ys : List ℕ) → IsBefore xs → IsNext ys → IsWritten (xs ++ ys))
      → Done (done ++ first_line bytes ∷ []) after IsWritten
  done_more done bytes office after IsBefore IsNext IsWritten d a join =
      let first = first_line bytes in
      let here : line_answered a.failed office first ≡ line_answered a.failed (after_lines start done d.failed) first = ap (λ o. line_answered a.failed o first) d.office_is in
      record {
        failed = d.failed ++ a.failed ∷ [];
        each = simp length-append (omega (arith, d.each));
        causes = All-push (λ (f : Option Failure). IfSome f (LineMayFail may_fail)) d.failed a.failed d.causes a.cause;
        office_is = a.after_is ∙ ap (λ x. x.office) here ∙ sym (after_lines-push start done d.failed first a.failed d.each);
        written = subst IsWritten (ap (λ x. transcript start done d.failed ++ x.text) here ∙ sym (transcript-push start done d.failed first a.failed d.each))
            (join (transcript start done d.failed) (line_answered a.failed office first).text d.written a.written);
      }

  -- what is written for them is so too
  done_as : (done : List (List ℕ)) (office : OfficeLists) (IsBefore IsWritten : List ℕ → Type 0) → Done done office IsBefore → ((xs : List ℕ) → IsBefore xs → IsWritten xs) → Done done office IsWritten
  done_as done office IsBefore IsWritten d so =
      record { failed = d.failed; each = d.each; causes = d.causes; office_is = d.office_is; written = so (transcript start done d.failed) d.written }

  -- so they are answered on what stores the office after them
  answered_on : (done lines : List (List ℕ)) (office : OfficeLists) (IsLeft : OfficeLists → Type 0) (IsWritten : List ℕ → Type 0) → Done done office IsWritten → lines ≡ done → IsLeft office
      → AreAnsweredOn may_fail start IsLeft lines IsWritten
  answered_on done lines office IsLeft IsWritten d same left =
      subst (λ (ls : List (List ℕ)). AreAnsweredOn may_fail start IsLeft ls IsWritten) (sym same) (record {
        failed = d.failed;
        each = d.each;
        causes = d.causes;
        written = d.written;
        left = subst IsLeft (d.office_is ∙ after_run start done d.failed) left;
      })

  -- so many lines of the input are answered, at least as many as line feeds were given, the rest is unread, this is the office after them, and this waits of what is written for them
  pub record Progress (input : List ℕ) (unread : Option (List ℕ)) (office : OfficeLists) (old new : Option (List ℕ)) (waiting : List ℕ) : Type 0 where
    pub rest : List ℕ
    pub unread_is : unread ≡ Some rest
    pub given : List ℕ
    pub input_is : input ≡ given ++ rest
    pub done : List (List ℕ)
    pub lines : lines_of input ≡ done ++ lines_of rest
    pub fed : feeds_in given ≤ length done
    pub answered : Done done office (IsGathered old new waiting)

  one_more_line : (input rest rest' : List ℕ) (office after : OfficeLists) (old mid new : Option (List ℕ)) (waiting last : List ℕ) (p : Progress input (Some rest) office old mid waiting) → p.rest ≡ rest
      → rest' ≡ after_line rest → AnswersFirst may_fail rest office after (λ text. IsGathered mid new last (waiting ++ text)) → Progress input (Some rest') after old new last
  one_more_line input rest rest' office after old mid new waiting last p same rest_is a =
      let first = first_line rest in
      let line = take (feed_place rest + 1) rest in
      let parts : rest ≡ line ++ rest' = sym (take-append-drop (feed_place rest + 1) rest) ∙ ap (λ r. line ++ r) (sym rest_is) in
      record {
        rest = rest';
        unread_is = refl;
        given = p.given ++ line;
        input_is = p.input_is ∙ ap (λ r. p.given ++ r) (same ∙ parts) ∙ sym (append_assoc p.given line rest');
        done = p.done ++ first ∷ [];
        lines = p.lines ∙ ap (λ r. p.done ++ lines_of r) same ∙ ap (λ ls. p.done ++ ls) (lines_of-cons rest a.some_left ∙ ap (λ r. first ∷ lines_of r) (sym rest_is))
            ∙ sym (append_assoc p.done (first ∷ []) (lines_of rest'));
        fed = omega (arith, feeds_in-append p.given line, feeds_in-line rest, p.fed, length-append p.done (first ∷ []));
        answered = done_more p.done rest office after (IsGathered old mid waiting) (λ text. IsGathered mid new last (waiting ++ text)) (IsGathered old new last) p.answered a
            (λ xs ys before next. gathered-chained old mid new xs ys waiting last before next);
      }

  -- one line more is answered
  pub progress_more : (input : List ℕ) (unread left : Option (List ℕ)) (office after : OfficeLists) (old mid new : Option (List ℕ)) (waiting last : List ℕ) → Progress input unread office old mid waiting
      → Turns may_fail true (replay_state unread office mid waiting) (replay_state left after new last) → Progress input left after old new last
  progress_more input None left office after old mid new waiting last p t = absurd (let h = p.unread_is in cc)
  progress_more input (Some bytes) None office after old mid new waiting last p t = absurd t
  progress_more input (Some bytes) (Some rest) office after old mid new waiting last p t =
      one_more_line input bytes rest office after old mid new waiting last p (rest_of bytes p.rest p.unread_is) t.0 t.1

  module _ (IsLeft : OfficeLists → Type 0) where
    -- all lines are answered
    pub progress_all : (input : List ℕ) (unread : Option (List ℕ)) (office after : OfficeLists) (old mid new : Option (List ℕ)) (waiting : List ℕ) → Progress input unread office old mid waiting
        → IsAtEnd unread → Appends mid new waiting → after ≡ office → IsLeft after → AreAnsweredOn may_fail start IsLeft (lines_of input) (Appends old new)
    progress_all input unread office after old mid new waiting p end written same left =
        let all : lines_of input ≡ p.done = p.lines ∙ ap (λ r. p.done ++ lines_of r) (nothing_left unread p.rest p.unread_is end) ∙ append-nil p.done in
        answered_on p.done (lines_of input) office IsLeft (Appends old new)
        (done_as p.done office (IsGathered old mid waiting) (Appends old new) p.answered (λ xs before. gathered-written old mid new xs waiting before written)) all (subst IsLeft same left)

    stopped_reading : (input rest : List ℕ) (left : Option (List ℕ)) (taken : ℕ) (office after : OfficeLists) (old mid new : Option (List ℕ)) (waiting : List ℕ)
        (p : Progress input (Some rest) office old mid waiting) → p.rest ≡ rest
        → Appends mid new waiting → StaysInLine (Some rest) left → SameWhole 0 (Some input) taken left → after ≡ office → IsLeft after → IsAnsweredSoFarOn may_fail start IsLeft input taken old new
    stopped_reading input rest None taken office after old mid new waiting p same written lost whole is stands = absurd lost
    stopped_reading input rest (Some left) taken office after old mid new waiting p same written lost whole is stands =
        let all : take taken input ≡ p.given ++ lost.0 = came input p.given rest lost.0 left taken (p.input_is ∙ ap (λ r. p.given ++ r) same) lost.1 whole in
        let done : take (length p.done) (lines_of input) ≡ p.done = ap (λ ls. take (length p.done) ls) p.lines ∙ take-append_seam p.done (lines_of p.rest) in
        record {
          count = length p.done;
          each_that_came = omega (arith, ap feeds_in all, feeds_in-append p.given lost.0, feeds_in-none lost.0 lost.2, p.fed);
          answered = answered_on p.done _ office IsLeft (Appends old new)
              (done_as p.done office (IsGathered old mid waiting) (Appends old new) p.answered (λ xs before. gathered-written old mid new xs waiting before written)) done (subst IsLeft is stands);
        }

    -- what waited was written in part
    stopped_before : (input : List ℕ) (unread : Option (List ℕ)) (office after : OfficeLists) (old mid new : Option (List ℕ)) (waiting : List ℕ) (p : Progress input unread office old mid waiting)
        → AppendsPrefix mid new waiting → after ≡ office → IsLeft after → IsAnsweredInPartOn may_fail start IsLeft input old new
    stopped_before input unread office after old mid new waiting p part is stands =
        let done : take (length p.done) (lines_of input) ≡ p.done = ap (λ ls. take (length p.done) ls) p.lines ∙ take-append_seam p.done (lines_of p.rest) in
        record {
          count = length p.done;
          answered = answered_on p.done _ office IsLeft (AppendsPrefix old new)
              (done_as p.done office (IsGathered old mid waiting) (AppendsPrefix old new) p.answered (λ xs before. gathered-part old mid new xs waiting before part)) done (subst IsLeft is stands);
        }

    -- and of the answer to one line more
    stopped_behind : (input bytes : List ℕ) (office after : OfficeLists) (old mid new : Option (List ℕ)) (waiting : List ℕ) (p : Progress input (Some bytes) office old mid waiting) → p.rest ≡ bytes
        → AnswersFirst may_fail bytes office after (λ text. AppendsPrefix mid new (waiting ++ text)) → IsLeft after → IsAnsweredInPartOn may_fail start IsLeft input old new
    stopped_behind input bytes office after old mid new waiting p same a left =
        let lines = p.done ++ first_line bytes ∷ [] in
        let later = lines_of (after_line bytes) in
        let split : lines_of input ≡ lines ++ later = p.lines ∙ ap (λ r. p.done ++ lines_of r) same ∙ ap (λ ls. p.done ++ ls) (lines_of-cons bytes a.some_left)
        ∙ sym (append_assoc p.done (first_line bytes ∷ []) later) in
        let read : take (length lines) (lines_of input) ≡ lines = ap (λ ls. take (length lines) ls) split ∙ take-append_seam lines later in
        record {
          count = length lines;
          answered = answered_on lines _ after IsLeft (AppendsPrefix old new)
              (done_more p.done bytes office after (IsGathered old mid waiting) (λ text. AppendsPrefix mid new (waiting ++ text)) (AppendsPrefix old new) p.answered a
              (λ xs ys before next. gathered-longer_part old mid new xs ys waiting before next)) read left;
        }

    -- a device ended the replay
    pub progress_stopped : (fault : ReplayFault) (input : List ℕ) (unread left last : Option (List ℕ)) (taken : ℕ) (office after : OfficeLists) (old mid new : Option (List ℕ)) (waiting behind : List ℕ)
        → Progress input unread office old mid waiting → Stops may_fail fault left (replay_state unread office mid waiting) (replay_state last after new behind) → IsLeft after → SameWhole 0 (Some input) taken left
        → IsReplayedUntilOn may_fail start IsLeft fault input taken old new
    progress_stopped Read input None left last taken office after old mid new waiting behind p s stands w = absurd (let h = p.unread_is in cc)
    progress_stopped Read input (Some bytes) left last taken office after old mid new waiting behind p s stands w =
        stopped_reading input bytes left taken office after old mid new waiting p (rest_of bytes p.rest p.unread_is) s.0 s.1 w s.2 stands
    progress_stopped Write input unread left last taken office after old mid new waiting behind p (inl s) stands w = stopped_before input unread office after old mid new waiting p s.0 s.1 stands
    progress_stopped Write input None left last taken office after old mid new waiting behind p (inr s) stands w = absurd (let h = p.unread_is in cc)
    progress_stopped Write input (Some bytes) left last taken office after old mid new waiting behind p (inr s) stands w =
        stopped_behind input bytes office after old mid new waiting p (rest_of bytes p.rest p.unread_is) s stands

  -- ---- where the input is known

  -- at the beginning no line is answered, and nothing waits
  pub known_first : (known : Option (List ℕ)) (pending : List ℕ) (old : Option (List ℕ)) (waiting : List ℕ) → pending ≡ [] → waiting ≡ []
      → IfSome known (λ input. Progress input (unread pending known) start old old waiting)
  known_first None pending old waiting e none = tt
  known_first (Some input) pending old waiting e none = record {
    rest = input;
    unread_is = ap (λ (p : List ℕ). unread p (Some input)) e;
    given = [];
    input_is = refl;
    done = [];
    lines = refl;
    fed = omega (arith, feeds_in-none [] refl);
    answered = record {
      failed = [];
      each = refl;
      causes = λ k d less. absurd (omega (arith, less));
      office_is = refl;
      written = subst (λ (w : List ℕ). IsGathered old old w []) (sym none) (none_written old []);
    };
  }

  pub known_more : (known unread left : Option (List ℕ)) (more : Bool) (office after : OfficeLists) (old mid new : Option (List ℕ)) (waiting last : List ℕ)
      → IfSome known (λ input. Progress input unread office old mid waiting) → more ≡ true → Turns may_fail more (replay_state unread office mid waiting) (replay_state left after new last)
      → IfSome known (λ input. Progress input left after old new last)
  known_more None unread left more office after old mid new waiting last p h t = tt
  known_more (Some input) unread left more office after old mid new waiting last p h t =
      progress_more input unread left office after old mid new waiting last p (subst (λ (m : Bool). Turns may_fail m (replay_state unread office mid waiting) (replay_state left after new last)) h t)

  module _ (IsLeft : OfficeLists → Type 0) where
    pub known_all : (known unread left : Option (List ℕ)) (more : Bool) (office after : OfficeLists) (old mid new : Option (List ℕ)) (waiting last : List ℕ)
        → IfSome known (λ input. Progress input unread office old mid waiting) → more ≡ false → Turns may_fail more (replay_state unread office mid waiting) (replay_state left after new last)
        → IsLeft after → IfSome known (λ input. AreAnsweredOn may_fail start IsLeft (lines_of input) (Appends old new))
    known_all None unread left more office after old mid new waiting last p h t stands = tt
    known_all (Some input) unread left more office after old mid new waiting last p h t stands =
        let end = subst (λ (m : Bool). Turns may_fail m (replay_state unread office mid waiting) (replay_state left after new last)) h t in
        progress_all IsLeft input unread office after old mid new waiting p end.0 end.1 end.2 stands

    pub known_stopped : (known unread left rest : Option (List ℕ)) (fault : ReplayFault) (taken : ℕ) (office after : OfficeLists) (old mid new : Option (List ℕ)) (waiting last : List ℕ)
        → IfSome known (λ input. Progress input unread office old mid waiting) → Stops may_fail fault left (replay_state unread office mid waiting) (replay_state rest after new last)
        → IsLeft after → SameWhole 0 known taken left → IfSome known (λ input. IsReplayedUntilOn may_fail start IsLeft fault input taken old new)
    known_stopped None unread left rest fault taken office after old mid new waiting last p s stands w = tt
    known_stopped (Some input) unread left rest fault taken office after old mid new waiting last p s stands w =
        progress_stopped IsLeft fault input unread left rest taken office after old mid new waiting last p s stands w
