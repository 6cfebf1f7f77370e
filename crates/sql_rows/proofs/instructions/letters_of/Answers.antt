use Rattle.std.proofs.Common.{◌≡◌, map, Some, ap, ◌∙◌, string_bytes}
use Rattle.std.proofs.lemmas.Result.{IfOk-weaker}
use Rattle.sql_rows.specs.InstructionLetters.{instruction_letter, instructions_of}
use Rattle.sql_rows.proofs.InstructionLemmas.{letters_read}
use Rattle.sql_rows.proofs.instructions.letters_of.Goals as goal

pub returns-clause-read_back : goal.returns-clause-read_back
returns-clause-read_back c =
    let kinds = c.args.instructions.now in
    IfOk-weaker c.each_letter.result (λ s. string_bytes s ≡ map instruction_letter c.as_slice.result.now) (λ s. instructions_of (string_bytes s) ≡ Some kinds)
    (λ s spelled. ap instructions_of (spelled ∙ ap (map instruction_letter) c.as_slice.ensures.value) ∙ letters_read kinds c.as_slice.ensures.valid) c.each_letter.ensures
