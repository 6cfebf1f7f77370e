use Rattle.std.proofs.Common.{ap₂, ◌∙◌}
use Rattle.std.specs.Cmp.Lexicographic.{slice_cmp}
use Rattle.std.specs.Ordering.{nat_cmp}
use Rattle.vocabulary.proofs.VocabularyOrderLemmas.{order_of_parties}
use Rattle.vocabulary.proofs.names.PartyOrd.cmp.Goals as goal

pub returns : goal.returns
returns c =
    c.cmp.ensures
    ∙ ap₂ nat_cmp c.from_be_bytes.ensures c.from_be_bytes-2.ensures
    ∙ order_of_parties c.self.inside.letters c.other.inside.letters c.self.invariant c.other.invariant
    ∙ ap₂ (slice_cmp nat_cmp) c.self.view_is c.other.view_is
