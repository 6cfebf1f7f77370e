use Rattle.std.proofs.Common.{◌≡◌, ◌+◌, ◌<◌, suc, length, ap, sym, ◌∙◌, arith}
use Rattle.std.proofs.lemmas.Bool.Decides.{nat_tests}
use Rattle.std.specs.BTreeSet.{keys}
use Rattle.vocabulary.specs.ResultSteps.{◌>>=◌}
use Rattle.line_reader.specs.Lines.{lines_of, after_line}
use Rattle.csv_import.specs.DayFiles.{days_in, day_file, with_line}
use Rattle.vocabulary.specs.Identity.{id}
use Rattle.csv_import.proofs.FileDayLemmas.{strip-le, after_line-less, days_in-cons}
use Rattle.csv_import.proofs.FileRowLemmas.{gives-fault}
use Rattle.csv_import.proofs.day_file.days_in.Goals as goal

pub loop-rest-init : goal.loop-rest-init
unfolding day_file
loop-rest-init c = record {
  same = rw (c.new-days.ensures.empty, c.without_mark-rest.ensures);
  few = rw c.new-days.ensures.empty (omega arith);
  counted = rw c.without_mark-rest.ensures (omega (arith, strip-le c.args.bytes.now));
}

pub returns-in-Err : goal.returns-in-Err
returns-in-Err c =
    let rest = c.loop-rest.rest.now in
    let some : 0 < length rest = grind (arith, nat_tests, c.is_empty.ensures, c.loop-rest-test.true) in
    gives-fault id keys c.in-Err.fault _ (day_file c.args.bytes.now) c.in-Err.ensures.days
    (λ h. c.loop-rest.invariant.same ∙ days_in-cons c.loop-rest.line (keys c.loop-rest.days) rest some ∙ ap (λ days. days >>= λ more. days_in (suc c.loop-rest.line) more (lines_of (after_line rest))) (ap (with_line c.loop-rest.line (keys c.loop-rest.days)) (sym c.split_line.ensures.line) ∙ h))

pub loop-rest-preserved : goal.loop-rest-preserved
loop-rest-preserved c =
    let rest = c.loop-rest.rest.now in
    let some : 0 < length rest = grind (arith, nat_tests, c.is_empty.ensures, c.loop-rest-test.true) in
    let next : suc c.loop-rest.line ≡ c.loop-rest.line + 1 = omega arith in
    record {
      same =
          c.loop-rest.invariant.same ∙ days_in-cons c.loop-rest.line (keys c.loop-rest.days) rest some
          ∙ ap (λ days. days >>= λ more. days_in (suc c.loop-rest.line) more (lines_of (after_line rest))) (ap (with_line c.loop-rest.line (keys c.loop-rest.days)) (sym c.split_line.ensures.line) ∙ c.in-Ok.ensures.days)
          ∙ ap (λ n. days_in n (keys c.in-Ok.more) (lines_of (after_line rest))) next
          ∙ ap (λ after. days_in (c.loop-rest.line + 1) (keys c.in-Ok.more) (lines_of after)) (sym c.split_line.ensures.rest);
      few = c.in-Ok.ensures.few;
      counted = rw c.split_line.ensures.rest (omega (arith, after_line-less rest some, c.loop-rest.invariant.counted));
    }
