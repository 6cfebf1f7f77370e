use Rattle.std.proofs.Common.{ap, ◌∙◌}
use Rattle.std.specs.Prelude.{Bool, count_by, nat_le}
use Rattle.std.specs.List.{list_all}
use Rattle.desk_words.specs.Office.{same_ending}
use Rattle.desk_words.specs.declared.records.Ending.{Ending}
use Rattle.office_validation.proofs.ValidKeyLemmas.{differ-once}
use Rattle.office_validation.proofs.TieLemmas.{ending-ties, ending-self, ending-turned}
use Rattle.office_validation.proofs.appointments.endings_differ.Goals as goal

pub returns : goal.returns
returns c =
    let all = c.args.ended.now in
    c.stand_once.ensures
    ∙ ap (λ (same : Ending → Ending → Bool). list_all (λ (x : Ending). nat_le (count_by (λ (other : Ending). same other x) all) 1) all) (λ i other x. ending-ties other x i)
    ∙ differ-once same_ending ending-self ending-turned all
