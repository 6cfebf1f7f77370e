use Rattle.std.specs.Prelude.{IsUtf8}
use Rattle.vocabulary.specs.Names.{letters_of, is_key_letter}
use Rattle.vocabulary.proofs.VocabularyNameLemmas.{text_from_letters, letters_of_key, key_letters_small, ok_unless_err}
use Rattle.vocabulary.proofs.names.SecretKey.as_str.Goals as goal

pub unwrap-requires : goal.unwrap-requires
unwrap-requires c =
    let letters = letters_of c.self.inside.letters in
    let text : IsUtf8 c.letters_of.result.now = rw c.letters_of.ensures (text_from_letters letters is_key_letter key_letters_small (letters_of_key letters c.self.invariant.form)) in
    ok_unless_err _ _ c.from_utf8.result c.from_utf8.ensures.cases (λ e q. q.0 text)
