use Rattle.std.proofs.Common.{ap, ◌∙◌}
use Rattle.std.specs.Prelude.{Bool, count_by, nat_le}
use Rattle.std.specs.List.{list_all}
use Rattle.desk_words.specs.Office.{same_presence}
use Rattle.desk_words.specs.declared.records.PresenceMark.{PresenceMark}
use Rattle.office_validation.proofs.ValidKeyLemmas.{differ-once}
use Rattle.office_validation.proofs.TieLemmas.{presence-ties, presence-self, presence-turned}
use Rattle.office_validation.proofs.attendance.presences_differ.Goals as goal

pub returns : goal.returns
returns c =
    let all = c.args.marks.now in
    c.stand_once.ensures
    ∙ ap (λ (same : PresenceMark → PresenceMark → Bool). list_all (λ (x : PresenceMark). nat_le (count_by (λ (other : PresenceMark). same other x) all) 1) all) (λ i other x. presence-ties other x i)
    ∙ differ-once same_presence presence-self presence-turned all
