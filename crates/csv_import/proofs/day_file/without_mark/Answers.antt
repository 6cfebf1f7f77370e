use Rattle.std.proofs.Common.{◌≡◌, true, false, cond, length, get_or, drop, sym, ap, ◌∙◌, arith, ◌-◌, length-drop}
use Rattle.std.proofs.lemmas.List.{take_all}
use Rattle.csv.specs.Reading.{is_bom}
use Rattle.csv.proofs.ReadFacts.{strip-short}
use Rattle.csv_import.proofs.FileDayLemmas.{strip-long}
use Rattle.csv_import.proofs.day_file.without_mark.Goals as goal

pub returns-then-bytes-lt3 : goal.returns-then-bytes-lt3
returns-then-bytes-lt3 c = sym (strip-short c.args.bytes.now (omega arith))

pub returns-then-is_mark : goal.returns-then-is_mark
returns-then-is_mark c =
    let bytes = c.args.bytes.now in
    let some : is_bom (get_or bytes 0 0) (get_or bytes 1 0) (get_or bytes 2 0) ≡ true = sym c.is_mark.ensures ∙ c.if-is_mark.true in
    take_all (length bytes - 3) (drop 3 bytes) (simp length-drop (omega arith)) ∙ sym (strip-long bytes (omega arith) ∙ ap (λ b. cond b (drop 3 bytes) bytes) some)

pub returns-else-is_mark : goal.returns-else-is_mark
returns-else-is_mark c =
    let bytes = c.args.bytes.now in
    let no : is_bom (get_or bytes 0 0) (get_or bytes 1 0) (get_or bytes 2 0) ≡ false = sym c.is_mark.ensures ∙ c.if-is_mark.false in
    sym (strip-long bytes (omega arith) ∙ ap (λ b. cond b (drop 3 bytes) bytes) no)
