use Rattle.std.proofs.Common.{ap, ◌∙◌}
use Rattle.std.specs.Prelude.{Bool, count_by, nat_le}
use Rattle.std.specs.List.{list_all}
use Rattle.desk_words.specs.Office.{same_authority}
use Rattle.desk_words.specs.declared.records.Authority.{Authority}
use Rattle.office_validation.proofs.ValidKeyLemmas.{differ-once}
use Rattle.office_validation.proofs.TieLemmas.{authority-ties, authority-self, authority-turned}
use Rattle.office_validation.proofs.attendance.authorities_differ.Goals as goal

pub returns : goal.returns
returns c =
    let all = c.args.given.now in
    c.stand_once.ensures
    ∙ ap (λ (same : Authority → Authority → Bool). list_all (λ (x : Authority). nat_le (count_by (λ (other : Authority). same other x) all) 1) all) (λ i other x. authority-ties other x i)
    ∙ differ-once same_authority authority-self authority-turned all
