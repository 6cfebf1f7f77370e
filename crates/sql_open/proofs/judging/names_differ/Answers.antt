use Rattle.std.proofs.Common.{◌∙◌}
use Rattle.desk_words.proofs.WordRowLemmas.{same_name-refl}
use Rattle.office_validation.proofs.ValidKeyLemmas.{differ-once}
use Rattle.sql_model.proofs.ModelRecordLemmas.{name_turned}
use Rattle.sql_open.specs.Judging.{same_meeting_row}
use Rattle.sql_open.proofs.judging.names_differ.Goals as goal

pub returns : goal.returns
returns c = c.are_named_once.ensures ∙ differ-once same_meeting_row (λ m. same_name-refl m.id) (λ m n. name_turned m.id n.id) c.args.rows.now
