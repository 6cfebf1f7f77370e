use Rattle.std.proofs.Common.{ap, ◌∙◌}
use Rattle.std.specs.Prelude.{Bool, count_by, nat_le}
use Rattle.std.specs.List.{list_all}
use Rattle.desk_words.specs.Office.{same_demand}
use Rattle.desk_words.specs.declared.records.DemandMark.{DemandMark}
use Rattle.office_validation.proofs.ValidKeyLemmas.{differ-once}
use Rattle.office_validation.proofs.TieLemmas.{demand-ties, demand-self, demand-turned}
use Rattle.office_validation.proofs.attendance.demands_differ.Goals as goal

pub returns : goal.returns
returns c =
    let all = c.args.demands.now in
    c.stand_once.ensures
    ∙ ap (λ (same : DemandMark → DemandMark → Bool). list_all (λ (x : DemandMark). nat_le (count_by (λ (other : DemandMark). same other x) all) 1) all) (λ i other x. demand-ties other x i)
    ∙ differ-once same_demand demand-self demand-turned all
