use Rattle.std.proofs.Common.{ap, subst, sym, ◌∙◌, Ok, Err}
use Rattle.std.specs.Prelude.{ok_or}
use Rattle.vocabulary.specs.PlainTexts.{IsText}
use Rattle.csv_import.specs.declared.fault.FileError.TheVariants.{BadRow}
use Rattle.csv_import.specs.declared.fault.Why.TheVariants as why
use Rattle.vocabulary.proofs.VocabularyTextLemmas.{text_of-text, text_of-no_text}
use Rattle.csv_import.proofs.register_file.read_text.Goals as goal

pub returns-in-Ok-clause-text : goal.returns-in-Ok-clause-text
returns-in-Ok-clause-text c =
    let made = c.in-Ok.ensures.ok in
    ap (λ o. ok_or o (BadRow c.args.line why.Name)) (text_of-text c.args.bytes.now (subst IsText made.0 made.1)) ∙ ap (λ t. Ok t) (sym made.0)

pub returns-in-Err-Form-clause-text : goal.returns-in-Err-Form-clause-text
returns-in-Err-Form-clause-text c =
    ap (λ o. ok_or o (BadRow c.args.line why.Name)) (text_of-no_text c.args.bytes.now (c.in-Err-Form.ensures.form.0 (ap (λ e. Err e) c.in-Err-Form.field-0-is)))

pub returns-in-Err-Memory-clause-memory : goal.returns-in-Err-Memory-clause-memory
returns-in-Err-Memory-clause-memory c = λ h none.
    let other = c.in-Err-Memory.ensures.form.1 (λ text. let some = sym none ∙ text_of-text c.args.bytes.now text in absurd (cc)) in
    let same = sym other ∙ ap (λ e. Err e) c.in-Err-Memory.field-0-is in
    absurd (cc)
