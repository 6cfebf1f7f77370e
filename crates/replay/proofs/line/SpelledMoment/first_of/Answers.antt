use Rattle.std.proofs.Common.{◌≡◌, ◌<◌, Some, ℕ, length, get_or, take, drop, option_map, sym, ap, subst, ◌∙◌, arith}
use Rattle.std.proofs.lemmas.Str.{IsCharBoundary-after_ascii}
use Rattle.std.specs.Borrow.{Bor}
use Rattle.std.specs.Prelude.{List}
use Rattle.calendar.specs.DateTexts.{moment_of}
use Rattle.replay.proofs.MomentFirst.{no_moment_first, moment_first-spelled}
use Rattle.replay.proofs.line.SpelledMoment.first_of.Goals as goal
use Rattle.replay.proofs.line.SpelledMoment.first_of.Goals.{then-bytes-le-MOMENT_LETTERS-via-then-bytes-le-MOMENT_LETTERS, then-bytes-le-MOMENT_LETTERS-via-else-bytes-le-MOMENT_LETTERS+then-bytes-ne32}

-- no line that is shorter, or has no space there, begins with a moment
pub returns-then-bytes-le-MOMENT_LETTERS : goal.returns-then-bytes-le-MOMENT_LETTERS
returns-then-bytes-le-MOMENT_LETTERS c =
    let same = c.as_bytes-bytes.ensures.value in
    sym (no_moment_first c.args.line.now (λ long space.
    elim c.then-bytes-le-MOMENT_LETTERS.branch [
      | then-bytes-le-MOMENT_LETTERS-via-then-bytes-le-MOMENT_LETTERS w ↦ absurd (omega (arith, long, ap length same, w.if-bytes-le-MOMENT_LETTERS.true))
      | then-bytes-le-MOMENT_LETTERS-via-else-bytes-le-MOMENT_LETTERS+then-bytes-ne32 w ↦ absurd (w.if-bytes-ne32.true (ap (λ xs. get_or xs 19 0) same ∙ space))
    ]))

pub returns-in_err-moment : goal.returns-in_err-moment
returns-in_err-moment c =
    let line = c.args.line.now in
    let same = c.as_bytes-bytes.ensures.value in
    let long : 19 < length line = subst (λ xs. 19 < length xs) same c.if-bytes-le-MOMENT_LETTERS.false in
    let space : get_or line 19 0 ≡ 32 = ap (λ xs. get_or xs 19 0) (sym same) ∙ c.if-bytes-ne32.false in
    let read : c.read.result ≡ moment_of (take 19 line) = c.read.ensures ∙ ap (λ xs. moment_of (take 19 xs)) same in
    ap (option_map (λ (x : ℕ × Bor (List ℕ)). (x.0, x.1.now))) c.from_residual.ensures
    ∙ ap (option_map (λ (moment : ℕ). (moment, drop 20 line))) (sym c.in_err-moment.was ∙ read)
    ∙ moment_first-spelled line long space

pub range_from-requires : goal.range_from-requires
range_from-requires c some =
    let line = c.args.line.now in
    let same = c.as_bytes-bytes.ensures.value in
    let long : 19 < length line = subst (λ xs. 19 < length xs) same c.if-bytes-le-MOMENT_LETTERS.false in
    let space : get_or line 19 0 ≡ 32 = ap (λ xs. get_or xs 19 0) (sym same) ∙ c.if-bytes-ne32.false in
    IsCharBoundary-after_ascii line 19 c.utf8.line long (omega (arith, space))

pub returns : goal.returns
returns c =
    let line = c.args.line.now in
    let same = c.as_bytes-bytes.ensures.value in
    let long : 19 < length line = subst (λ xs. 19 < length xs) same c.if-bytes-le-MOMENT_LETTERS.false in
    let space : get_or line 19 0 ≡ 32 = ap (λ xs. get_or xs 19 0) (sym same) ∙ c.if-bytes-ne32.false in
    let read : c.read.result ≡ moment_of (take 19 line) = c.read.ensures ∙ ap (λ xs. moment_of (take 19 xs)) same in
    ap (λ rest. Some (c.in_ok-moment.moment, rest)) c.range_from.ensures.value
    ∙ ap (option_map (λ (moment : ℕ). (moment, drop 20 line))) (sym c.in_ok-moment.was ∙ read)
    ∙ moment_first-spelled line long space
