use Rattle.std.proofs.Common.{ap, subst, sym, ◌∙◌, Err, Some}
use Rattle.vocabulary.specs.PlainTexts.{IsText}
use Rattle.vocabulary.proofs.VocabularyTextLemmas.{text_of-text, text_of-no_text}
use Rattle.json_requests.proofs.place.text_of.Goals as goal

pub returns-in-Ok : goal.returns-in-Ok
returns-in-Ok c =
    let made = c.in-Ok.ensures.ok in
    let same = made.0 ∙ c.as_bytes.ensures.value in
    text_of-text c.args.string.now (subst IsText same made.1) ∙ ap (λ t. Some t) (sym same)

pub returns-in-Err-Form : goal.returns-in-Err-Form
returns-in-Err-Form c =
    let no_text = c.in-Err-Form.ensures.form.0 (ap (λ e. Err e) c.in-Err-Form.field-0-is) in
    text_of-no_text c.args.string.now (λ is. no_text (subst IsText (sym c.as_bytes.ensures.value) is))
