use Rattle.std.proofs.Common.{◌≡◌, true, refl, sym, ◌∙◌}
use Rattle.vocabulary.specs.Names.{is_name, is_name_letter}
use Rattle.vocabulary.proofs.VocabularyNameLemmas.{held, letters_of_name}
use Rattle.vocabulary.proofs.names.read_meeting.Goals as goal

pub invariant_of-result : goal.invariant_of-result
invariant_of-result c =
    let bytes = c.args.bytes.now in
    let h : is_name bytes ≡ true = sym c.has_name_form.ensures ∙ c.if-not-has_name_form.false in
    rw c.in_places.ensures (held 16 is_name is_name_letter bytes refl (letters_of_name bytes h) h)
