use Rattle.std.proofs.Common.{◌≡◌, true, refl, sym, ◌∙◌}
use Rattle.vocabulary.specs.Names.{is_party, is_name_letter}
use Rattle.vocabulary.proofs.VocabularyNameLemmas.{held, letters_of_party}
use Rattle.vocabulary.proofs.names.read_party.Goals as goal

pub invariant_of-result : goal.invariant_of-result
invariant_of-result c =
    let bytes = c.args.bytes.now in
    let h : is_party bytes ≡ true = sym c.has_party_form.ensures ∙ c.if-not-has_party_form.false in
    rw c.in_places.ensures (held 16 is_party is_name_letter bytes refl (letters_of_party bytes h) h)
