use Rattle.std.proofs.Common.{◌≡◌, true, refl, sym, ◌∙◌}
use Rattle.vocabulary.specs.Names.{is_key, is_key_letter}
use Rattle.vocabulary.proofs.VocabularyNameLemmas.{held, letters_of_key}
use Rattle.vocabulary.proofs.names.read_key.Goals as goal

pub invariant_of-result : goal.invariant_of-result
invariant_of-result c =
    let bytes = c.args.bytes.now in
    let h : is_key bytes ≡ true = sym c.has_key_form.ensures ∙ c.if-not-has_key_form.false in
    rw c.in_places.ensures (held 64 is_key is_key_letter bytes refl (letters_of_key bytes h) h)
