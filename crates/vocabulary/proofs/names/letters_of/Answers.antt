use Rattle.std.proofs.Common.{sym, ap, ◌∙◌}
use Rattle.vocabulary.proofs.VocabularyNameLemmas.{letters_of-position, cut}
use Rattle.vocabulary.proofs.names.letters_of.Goals as goal

pub returns-in-Some : goal.returns-in-Some
returns-in-Some c = sym (letters_of-position c.args.places.now ∙ ap (cut c.args.places.now) (sym c.first_zero.ensures.first ∙ c.in-Some.is))

pub returns-in-None : goal.returns-in-None
returns-in-None c = sym (letters_of-position c.args.places.now ∙ ap (cut c.args.places.now) (sym c.first_zero.ensures.first ∙ c.in-None.is))
